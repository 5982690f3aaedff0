-- What a core holds of one strand, and how an event at a nodelet changes that.
use Rattle.std.proofs.Common.{◌≡◌, ℕ, List, [], ◌∷◌, ◌++◌, Option, Some, None, refl, ap, ◌∙◌}
use Rattle.std.specs.Prelude.{ℤ, if◌then◌else◌, ◌==◌, ◌&&◌}
use Rattle.std.proofs.Math.Path.{fun_ext}
use Rattle.word_ops.specs.declared.place.Pos.{Pos}
use Rattle.word_ops.specs.declared.name.Name.{Name}
use Rattle.word_ops.specs.declared.step.NodeEvent.{NodeEvent}
use Rattle.word_ops.specs.Naming.{same_name}
use Rattle.merge_law.specs.Machine.{Raw, stamped}
use Rattle.merge_law.specs.Core.{leaving, but_from, core_after}
use Rattle.world_model.specs.World.{Item, with_at}
use Rattle.core_model.specs.Contexts.{Context, Body, Arrival, Issued, Ack, Returned, context_of}
use Rattle.core_model.specs.Nodes.{Setup, Node}
use Rattle.core_model.specs.Machine.{Packet, machine_of}
use Rattle.core_model.specs.Core.{Core}
use Rattle.core_model.proofs.Invariant.Links.{part-with_at, with_at-same, with_first, parts, parts-sent, sent, plus, plus-none, cut, cut-same, parts-run, parts-take}

-- where its context stands and where it travels, its items and its acknowledgements on each link, and how many of
-- its items each nodelet counts as under way
pub record View : Type 0 where
  pub stands : ℕ → Option Context
  pub travels : ℕ → ℕ → List Context
  pub items : ℕ → ℕ → List Item
  pub acks : ℕ → ℕ → List (Option Pos)
  pub under_way : ℕ → ℕ

abbrev pub arrival_of : Name → Body → Option Context
arrival_of q (Arrival x) = if same_name q x.name then Some x else None
arrival_of q (Issued r item) = None
arrival_of q (Ack r late) = None
arrival_of q (Returned t value) = None

abbrev pub item_of : Name → Body → Option Item
item_of q (Arrival x) = None
item_of q (Issued r item) = if same_name q r then Some item else None
item_of q (Ack r late) = None
item_of q (Returned t value) = None

abbrev pub ack_of : Name → Body → Option (Option Pos)
ack_of q (Arrival x) = None
ack_of q (Issued r item) = None
ack_of q (Ack r late) = if same_name q r then Some late else None
ack_of q (Returned t value) = None

-- the result of a child of a strand, of the activation at a depth and of an order
abbrev pub result_of : Name → ℕ → ℕ → Body → Option ℤ
result_of q d order (Arrival x) = None
result_of q d order (Issued r item) = None
result_of q d order (Ack r late) = None
result_of q d order (Returned t value) = if same_name q t.parent && (d == t.depth && order == t.order) then Some value else None

abbrev pub view : Core → Name → View
view c q = record {
  stands = λ k. context_of q (c.nodes k).contexts;
  travels = λ a b. parts (arrival_of q) (c.links a b);
  items = λ a b. parts (item_of q) (c.links a b);
  acks = λ a b. parts (ack_of q) (c.links a b);
  under_way = λ k. (c.nodes k).under_way q;
}

abbrev viewed : (ℕ → Option Context) → (ℕ → ℕ → List Context) → (ℕ → ℕ → List Item) → (ℕ → ℕ → List (Option Pos)) → (ℕ → ℕ) → View
viewed a b c d e = record { stands = a; travels = b; items = c; acks = d; under_way = e }

-- views with the same parts are the same
pub same_view : (v w : View) → ((k : ℕ) → v.stands k ≡ w.stands k) → ((a b : ℕ) → v.travels a b ≡ w.travels a b) → ((a b : ℕ) → v.items a b ≡ w.items a b) →
    ((a b : ℕ) → v.acks a b ≡ w.acks a b) → ((k : ℕ) → v.under_way k ≡ w.under_way k) → v ≡ w
same_view v w e1 e2 e3 e4 e5 =
    ap (λ f. viewed f v.travels v.items v.acks v.under_way) (fun_ext e1)
    ∙ ap (λ f. viewed w.stands f v.items v.acks v.under_way) (fun_ext (λ a. fun_ext (e2 a)))
    ∙ ap (λ f. viewed w.stands w.travels f v.acks v.under_way) (fun_ext (λ a. fun_ext (e3 a)))
    ∙ ap (λ f. viewed w.stands w.travels w.items f v.under_way) (fun_ext (λ a. fun_ext (e4 a)))
    ∙ ap (λ f. viewed w.stands w.travels w.items w.acks f) (fun_ext e5)

-- ---- what events leave

-- a view where other things stand at nodelet k and are under way there, and more is sent from there
abbrev pub sending : View → ℕ → Option Context → ℕ → (ℕ → List Context) → (ℕ → List Item) → (ℕ → List (Option Pos)) → View
sending v k x count arrivals items acks = record {
  stands = with_at v.stands k x;
  travels = plus v.travels k arrivals;
  items = plus v.items k items;
  acks = plus v.acks k acks;
  under_way = with_at v.under_way k count;
}

-- a view with less on the link from o to k
abbrev pub behind : View → ℕ → ℕ → List Context → List Item → List (Option Pos) → View
behind v o k arrivals items acks = record {
  stands = v.stands;
  travels = cut v.travels o k arrivals;
  items = cut v.items o k items;
  acks = cut v.acks o k acks;
  under_way = v.under_way;
}

-- the core after a run at nodelet k that made this, with this stamp
abbrev pub after_run : Setup → Core → ℕ → ℕ → (ℕ → NodeEvent) → Raw Node Body → Core
after_run u c k stamp event raw = (core_after c k (leaving (λ o. c.links o k) (stamped (machine_of u) k stamp event raw))).core

-- and after a take of the first packet from o
abbrev pub after_take : Setup → Core → ℕ → ℕ → List Packet → ℕ → (ℕ → NodeEvent) → Raw Node Body → Core
after_take u c o k rest stamp event raw =
    (core_after c k (leaving (but_from o rest (λ a. c.links a k)) (stamped (machine_of u) k stamp event raw))).core

abbrev pub run_view : Setup → View → Name → ℕ → Raw Node Body → View
run_view u v q k raw =
    sending v k (context_of q raw.node.contexts) (raw.node.under_way q) (sent (arrival_of q) u.nodelets k raw.bodies)
    (sent (item_of q) u.nodelets k raw.bodies) (sent (ack_of q) u.nodelets k raw.bodies)

abbrev pub take_view : Setup → View → Name → ℕ → ℕ → List Packet → Raw Node Body → View
take_view u v q o k rest raw = run_view u (behind v o k (parts (arrival_of q) rest) (parts (item_of q) rest) (parts (ack_of q) rest)) q k raw

-- the view of any strand after a run
pub view-after_run : (u : Setup) (c : Core) (k stamp : ℕ) (event : ℕ → NodeEvent) (raw : Raw Node Body) (q : Name) →
    view (after_run u c k stamp event raw) q ≡ run_view u (view c q) q k raw
view-after_run u c k stamp event raw q =
    same_view _ _
    (λ j. part-with_at (λ (v : Node). context_of q v.contexts) c.nodes k (stamped (machine_of u) k stamp event raw).node j)
    (λ a b. parts-run (arrival_of q) c.links k out a b ∙ ap (λ l. parts (arrival_of q) (c.links a b) ++ (if a == k then l else [])) (parts-sent (arrival_of q) u.nodelets k stamp raw.bodies b))
    (λ a b. parts-run (item_of q) c.links k out a b ∙ ap (λ l. parts (item_of q) (c.links a b) ++ (if a == k then l else [])) (parts-sent (item_of q) u.nodelets k stamp raw.bodies b))
    (λ a b. parts-run (ack_of q) c.links k out a b ∙ ap (λ l. parts (ack_of q) (c.links a b) ++ (if a == k then l else [])) (parts-sent (ack_of q) u.nodelets k stamp raw.bodies b))
    (λ j. part-with_at (λ (v : Node). v.under_way q) c.nodes k (stamped (machine_of u) k stamp event raw).node j)
  where
    out : ℕ → List Packet
    out b = (stamped (machine_of u) k stamp event raw).sent b

-- and after a take
pub view-after_take : (u : Setup) (c : Core) (o k : ℕ) (rest : List Packet) (stamp : ℕ) (event : ℕ → NodeEvent) (raw : Raw Node Body) (q : Name) →
    view (after_take u c o k rest stamp event raw) q ≡ take_view u (view c q) q o k rest raw
view-after_take u c o k rest stamp event raw q =
    same_view _ _
    (λ j. part-with_at (λ (v : Node). context_of q v.contexts) c.nodes k (stamped (machine_of u) k stamp event raw).node j)
    (λ a b. parts-take (arrival_of q) c.links o k rest out a b ∙ ap (λ l. cut (view c q).travels o k (parts (arrival_of q) rest) a b ++ (if a == k then l else [])) (parts-sent (arrival_of q) u.nodelets k stamp raw.bodies b))
    (λ a b. parts-take (item_of q) c.links o k rest out a b ∙ ap (λ l. cut (view c q).items o k (parts (item_of q) rest) a b ++ (if a == k then l else [])) (parts-sent (item_of q) u.nodelets k stamp raw.bodies b))
    (λ a b. parts-take (ack_of q) c.links o k rest out a b ∙ ap (λ l. cut (view c q).acks o k (parts (ack_of q) rest) a b ++ (if a == k then l else [])) (parts-sent (ack_of q) u.nodelets k stamp raw.bodies b))
    (λ j. part-with_at (λ (v : Node). v.under_way q) c.nodes k (stamped (machine_of u) k stamp event raw).node j)
  where
    out : ℕ → List Packet
    out b = (stamped (machine_of u) k stamp event raw).sent b

-- a view where nothing changed
pub sending-nothing : (v : View) (k : ℕ) (x : Option Context) (count : ℕ) (arrivals : ℕ → List Context) (items : ℕ → List Item) (acks : ℕ → List (Option Pos)) →
    x ≡ v.stands k → count ≡ v.under_way k → ((b : ℕ) → arrivals b ≡ []) → ((b : ℕ) → items b ≡ []) → ((b : ℕ) → acks b ≡ []) → sending v k x count arrivals items acks ≡ v
sending-nothing v k x count arrivals items acks e1 e2 e3 e4 e5 =
    same_view _ _
    (λ j. ap (λ y. with_at v.stands k y j) e1 ∙ with_at-same v.stands k j)
    (plus-none v.travels k arrivals e3)
    (plus-none v.items k items e4)
    (plus-none v.acks k acks e5)
    (λ j. ap (λ y. with_at v.under_way k y j) e2 ∙ with_at-same v.under_way k j)

-- the first packet of a link was not about the strand
pub behind-other : (c : Core) (o k : ℕ) (p : Packet) (rest : List Packet) (q : Name) → c.links o k ≡ p ∷ rest → arrival_of q p.body ≡ None → item_of q p.body ≡ None → ack_of q p.body ≡ None →
    behind (view c q) o k (parts (arrival_of q) rest) (parts (item_of q) rest) (parts (ack_of q) rest) ≡ view c q
behind-other c o k p rest q first e1 e2 e3 =
    same_view _ _
    (λ j. refl)
    (cut-same (view c q).travels o k _ (passed (arrival_of q) e1))
    (cut-same (view c q).items o k _ (passed (item_of q) e2))
    (cut-same (view c q).acks o k _ (passed (ack_of q) e3))
    (λ j. refl)
  where
    passed : {A : Type 0} (f : Body → Option A) → f p.body ≡ None → parts f (c.links o k) ≡ parts f rest
    passed f none = ap (parts f) first ∙ ap (λ y. with_first y (parts f rest)) none
