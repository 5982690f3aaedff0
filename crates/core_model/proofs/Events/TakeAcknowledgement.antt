-- An acknowledgement is taken.
use Rattle.std.proofs.Common.{◌≡◌, ℕ, ◌+◌, ◌-◌, ◌<◌, ◌≤◌, inl, List, [], ◌∷◌, length, Option, Some, None, refl, sym, ap, ◌∙◌, subst, arith, Bool, true, false, ⊎_elim}
use Rattle.std.specs.Prelude.{if◌then◌else◌, ◌==◌}
use Rattle.std.proofs.lemmas.Bool.{eqb-true, eq-eqb, cases_lt}
use Rattle.word_ops.specs.declared.place.Pos.{Pos}
use Rattle.word_ops.specs.declared.name.Name.{Name}
use Rattle.word_ops.specs.declared.ticket.Ticket.{Ticket}
use Rattle.word_ops.specs.declared.step.NodeEvent.{NodeEvent}
use Rattle.word_ops.specs.Naming.{same_name}
use Rattle.merge_law.specs.Machine.{Raw, stamped}
use Rattle.world_model.specs.World.{Item, Status, Live, Ended, Trapped, Strand, World, strand_of, with_at}
use Rattle.world_model.specs.Step.{late_after}
use Rattle.world_model.proofs.Names.{same_name_refl}
use Rattle.core_model.specs.Contexts.{Context, Body, Ack, context_of, with_context}
use Rattle.core_model.specs.Nodes.{Setup, Node, with_strand, with_acknowledged}
use Rattle.core_model.specs.Effects.{nothing}
use Rattle.core_model.specs.Takes.{made_late, acknowledged, take}
use Rattle.core_model.specs.Machine.{Packet, packet_of, machine_of}
use Rattle.core_model.specs.Core.{Core}
use Rattle.core_model.proofs.Invariant.ContextsByName.{context_of-with, context_of-with_other, context_of-name}
use Rattle.core_model.proofs.Invariant.Links.{with_first, parts, sent-none, plus-none, cut, cut-same}
use Rattle.core_model.proofs.Invariant.Sums.{total, total-one}
use Rattle.core_model.proofs.Invariant.LatePositions.{lesser, lates, all_lates-one, all_lates-turn, late_after-is}
use Rattle.core_model.proofs.Invariant.Views.{View, view, same_view, arrival_of, item_of, ack_of, after_take, view-after_take}
use Rattle.core_model.proofs.Invariant.Statement.{Spot, At, OnLink, stands_by, travels_by, Parcels, IsAway, IsBound, Lives, ByStatus, Known, Invariant}
use Rattle.core_model.proofs.Invariant.StandingStrand.{quiet}
use Rattle.core_model.proofs.Invariant.OtherStrands.{Kept, QuietFor, leaves-take, framed}
use Rattle.core_model.proofs.Actions.StayOrLeave.{KeepsShared, shares-kept}

-- the strand of an acknowledgement that travels from o to k
pub record HasAck (u : Setup) (T : Name → Option Ticket) (v : View) (q : Name) (o : Option Strand) (from k : ℕ) : Type 0 where
  pub s : Strand
  pub known : o ≡ Some s
  pub place : k ≡ s.place
  pub under : from < u.nodelets
  pub parcels : Parcels u.nodelets v k s.pending
  pub status : ByStatus u T v q s s.status

none_first : {A B : Type 0} (y : A) (l : List A) → [] ≡ y ∷ l → B
none_first y l e = absurd cc

abbrev pub later_context : Option Pos → Option Context → Option Context
later_context late None = None
later_context late (Some x) = Some (record x { late = lesser late x.late })

module _ (u : Setup) (T : Name → Option Ticket) where
  abbrev n : ℕ
  n = u.nodelets

  pub has_ack : (v : View) (q : Name) (o : Option Strand) (from k : ℕ) (late : Option Pos) (l : List (Option Pos)) → Known u T v q o → v.acks from k ≡ late ∷ l → HasAck u T v q o from k
  has_ack v q None from k late l known is = none_first late l (sym (known.acks from k) ∙ is)
  has_ack v q (Some s) from k late l known is = go (k == s.place) refl
    where
      go : (t : Bool) → (k == s.place) ≡ t → HasAck u T v q (Some s) from k
      go true f =
          let place : k ≡ s.place = eqb-true _ _ f in
          let p : Parcels n v k s.pending = subst (λ a. Parcels n v a s.pending) (sym place) known.0 in
          record { s = s; known = refl; place = place; under = ⊎_elim (λ lt. lt) (λ le. none_first late l (sym (p.beyond from le).1 ∙ is)) (cases_lt from n); parcels = p; status = known.1 }
      go false f = none_first late l (sym (known.0.acks from k f) ∙ is)

  abbrev pub acked : View → ℕ → ℕ → List (Option Pos) → Option Context → View
  acked v o k l x = record { stands = with_at v.stands k x; travels = v.travels; items = v.items; acks = cut v.acks o k l; under_way = with_at v.under_way k (v.under_way k - 1) }

  ack_parcels : (v : View) (o k : ℕ) (pending : ℕ → List Item) (late : Option Pos) (l : List (Option Pos)) (x : Option Context) → Parcels n v k pending → v.acks o k ≡ late ∷ l → o < n → Parcels n (acked v o k l x) k pending
  ack_parcels v o k pending late l x p is less = record {
    items = p.items;
    acks = λ a d f. ap (λ t. if t then (if a == o then l else v.acks a k) else v.acks a d) f ∙ p.acks a d f;
    counted = counted;
    uncounted = λ a f. ap (λ t. if t then v.under_way k - 1 else v.under_way a) f ∙ p.uncounted a f;
    beyond = λ d le. beyond d le (d == o) refl;
  }
    where
      v' : View
      v' = acked v o k l x

      at_k : (d : ℕ) → v'.acks d k ≡ (if d == o then l else v.acks d k)
      at_k d = ap (λ t. if t then (if d == o then l else v.acks d k) else v.acks d k) (eq-eqb k k refl)

      counted : v'.under_way k ≡ total n (λ d. length (pending d) + length (v'.acks d k))
      counted =
          let f : ℕ → ℕ = λ d. length (pending d) + length (v.acks d k) in
          let g : ℕ → ℕ = λ d. length (pending d) + length (v'.acks d k) in
          let t = total-one n f g o less (λ d ne. ap (λ y. length (pending d) + length y) (at_k d ∙ ap (λ y. if y then l else v.acks d k) ne)) in
          let was : length (v.acks o k) ≡ length (late ∷ l) = ap length is in
          let now : length (v'.acks o k) ≡ length l = ap length (at_k o ∙ ap (λ y. if y then l else v.acks o k) (eq-eqb o o refl)) in
          let old : v.under_way k ≡ total n f = p.counted in
          let here : v'.under_way k ≡ v.under_way k - 1 = ap (λ y. if y then v.under_way k - 1 else v.under_way k) (eq-eqb k k refl) in
          here ∙ (let z : v.under_way k - 1 ≡ total n g = omega arith in z)

      beyond : (d : ℕ) → n ≤ d → (t : Bool) → (d == o) ≡ t → (pending d ≡ []) × (v'.acks d k ≡ [])
      beyond d le true f = absurd (let g = eqb-true _ _ f in omega arith)
      beyond d le false f = ((p.beyond d le).0, at_k d ∙ ap (λ y. if y then l else v.acks d k) f ∙ (p.beyond d le).1)

  pub ack_known : (v : View) (q : Name) (s : Strand) (o k : ℕ) (late : Option Pos) (l : List (Option Pos)) → k ≡ s.place → Parcels n v k s.pending → ByStatus u T v q s s.status → v.acks o k ≡ late ∷ l → o < n →
      Known u T (acked v o k l (later_context late (v.stands k))) q (Some s)
  ack_known v q s o k late l place p status is less =
      (subst (λ a. Parcels n v' a s.pending) place (ack_parcels v o k s.pending late l (later_context late (v.stands k)) p is less), by s.status status)
    where
      v' : View
      v' = acked v o k l (later_context late (v.stands k))

      busy : {A : Type 0} → v.under_way s.place ≡ 0 → A
      busy z = none_first late l (sym ((quiet n v k s.pending p (ap v.under_way place ∙ z)).acks o k) ∙ is)

      gone : (j : ℕ) (t : Bool) → ((h : ℕ) → v.stands h ≡ None) → (if t then later_context late (v.stands k) else v.stands j) ≡ None
      gone j true g = ap (later_context late) (g k)
      gone j false g = g j

      alive : (lv : Lives u T v q s) (spot : Spot) → lv.spot ≡ spot → IsBound u v s lv.x spot → Lives u T v' q s
      alive lv (OnLink a d) f b = busy b.0
      alive lv (At j) f b = ⊎_elim settled (λ (away : IsAway u v s lv.x j). busy away.clear) b
        where
          settled : s.place ≡ j → Lives u T v' q s
          settled at_j = record {
            x = x';
            spot = At k;
            stands = λ h. stands h (h == k) refl;
            travels = λ a d. lv.travels a d ∙ ap (λ y. travels_by y lv.x a d) f;
            name = lv.name;
            home = lv.home;
            place = lv.place;
            ticket = lv.ticket;
            state = lv.state;
            late = lv.late ∙ all_lates-one n (λ d. v'.acks d s.place) (λ d. v.acks d s.place) late lv.x.late o less others at_o ∙ sym (all_lates-turn n (λ d. v'.acks d s.place) late lv.x.late);
            bound = inl (sym place);
          }
            where
              x' : Context
              x' = record (lv.x) { late = lesser late lv.x.late }

              kj : k ≡ j
              kj = place ∙ at_j

              old : (h : ℕ) → v.stands h ≡ (if h == k then Some lv.x else None)
              old h = lv.stands h ∙ ap (λ y. stands_by y lv.x h) f ∙ ap (λ y. if h == y then Some lv.x else None) (sym kj)

              stands : (h : ℕ) (t : Bool) → (h == k) ≡ t → (if t then later_context late (v.stands k) else v.stands h) ≡ (if t then Some x' else None)
              stands h true g = ap (later_context late) (old k ∙ ap (λ t. if t then Some lv.x else None) (eq-eqb k k refl))
              stands h false g = old h ∙ ap (λ t. if t then Some lv.x else None) g

              here : (d : ℕ) → v'.acks d s.place ≡ (if d == o then l else v.acks d k)
              here d = ap (λ t. if t then (if d == o then l else v.acks d k) else v.acks d s.place) (eq-eqb s.place k (sym place))

              others : (d : ℕ) → (d == o) ≡ false → v.acks d s.place ≡ v'.acks d s.place
              others d ne = ap (v.acks d) (sym place) ∙ sym (here d ∙ ap (λ t. if t then l else v.acks d k) ne)

              at_o : (y : Option Pos) → lates (v.acks o s.place) y ≡ lesser late (lates (v'.acks o s.place) y)
              at_o y = ap (λ a. lates (v.acks o a) y) (sym place) ∙ ap (λ z. lates z y) is
                  ∙ ap (λ z. lesser late (lates z y)) (sym (here o ∙ ap (λ t. if t then l else v.acks o k) (eq-eqb o o refl)))

      by : (t : Status) → ByStatus u T v q s t → ByStatus u T v' q s t
      by Live lv = alive lv lv.spot refl lv.bound
      by (Ended value) g = record { stands = λ j. gone j (j == k) g.stands; travels = g.travels }
      by (Trapped kind at) g = record { stands = λ j. gone j (j == k) g.stands; travels = g.travels }

-- ---- the node

-- a node behind an acknowledgement, as far as it is not about its strand
late-part : {A : Type 0} (f : Node → A) → ((y : Node) (x : Context) → f (with_strand y x) ≡ f y) → (v : Node) (q : Name) (late : Option Pos) → f (acknowledged v q late) ≡ f (with_acknowledged v q)
late-part f same v q None = refl
late-part f same v q (Some at) = go (context_of q v.contexts)
  where
    go : (o : Option Context) → f (made_late (with_acknowledged v q) at o) ≡ f (with_acknowledged v q)
    go None = refl
    go (Some x) = same (with_acknowledged v q) (record x { late = Some (late_after x.late at) })

late_found : (v : Node) (q : Name) (late : Option Pos) → context_of q (acknowledged v q late).contexts ≡ later_context late (context_of q v.contexts)
late_found v q None = go (context_of q v.contexts)
  where
    go : (o : Option Context) → o ≡ later_context None o
    go None = refl
    go (Some x) = refl
late_found v q (Some at) = go (context_of q v.contexts) refl
  where
    go : (o : Option Context) → context_of q v.contexts ≡ o → context_of q (made_late (with_acknowledged v q) at o).contexts ≡ later_context (Some at) o
    go None e = e
    go (Some x) e =
        subst (λ (r : Name). context_of r (with_context (record x { late = Some (late_after x.late at) }) v.contexts) ≡ Some (record x { late = Some (late_after x.late at) })) (context_of-name q v.contexts x e)
        (context_of-with (record x { late = Some (late_after x.late at) }) v.contexts)
        ∙ ap (λ o. Some (record x { late = o })) (late_after-is x.late at)

late_other : (v : Node) (r q : Name) (late : Option Pos) → same_name r q ≡ false → context_of r (acknowledged v q late).contexts ≡ context_of r v.contexts
late_other v r q None ne = refl
late_other v r q (Some at) ne = go (context_of q v.contexts) refl
  where
    go : (o : Option Context) → context_of q v.contexts ≡ o → context_of r (made_late (with_acknowledged v q) at o).contexts ≡ context_of r v.contexts
    go None e = refl
    go (Some x) e = context_of-with_other r (record x { late = Some (late_after x.late at) }) v.contexts (ap (same_name r) (context_of-name q v.contexts x e) ∙ ne)

module _ (u : Setup) (c : Core) (w : World) (inv : Invariant u c w) (from k : ℕ) (stamp : ℕ) (event : ℕ → NodeEvent) where
  pub ack_kept : (sent_at : ℕ) (q : Name) (late : Option Pos) (left : List Packet) → c.links from k ≡ packet_of sent_at (Ack q late) ∷ left →
      Kept u w (after_take u c from k left stamp event (take u k (c.nodes k) from (Ack q late))) None
  ack_kept sent_at q late left first = record {
    world = w;
    leads = refl;
    holds = framed u c after w w q h.s h.s inv
        (leaves-take u c k stamp event raw q rest from (packet_of sent_at (Ack q late)) left first (λ r ne. (refl, refl, ap (λ t. if t then Some late else None) ne)) (λ p d o. refl))
        (record { known = h.known; now = h.known; others = λ r ne. refl; home = refl; children = refl; status = refl }) inv.within
        (shares-kept u c after w k (stamped (machine_of u) k stamp event raw).node refl keeps inv.shares) mine;
  }
    where
      v : Node
      v = c.nodes k

      raw : Raw Node Body
      raw = take u k v from (Ack q late)

      after : Core
      after = after_take u c from k left stamp event raw

      l : List (Option Pos)
      l = parts (ack_of q) left

      holds : (view c q).acks from k ≡ late ∷ l
      holds = ap (parts (ack_of q)) first ∙ ap (λ t. with_first (if t then Some late else None) l) (same_name_refl q)

      h : HasAck u inv.tickets (view c q) q (strand_of w q) from k
      h = has_ack u inv.tickets (view c q) q (strand_of w q) from k late l (inv.each q) holds

      keeps : KeepsShared v (stamped (machine_of u) k stamp event raw).node
      keeps = record {
        cells = late-part (λ (y : Node). y.cells) (λ y x. refl) v q late;
        granted = late-part (λ (y : Node). y.granted) (λ y x. refl) v q late;
        cursors = late-part (λ (y : Node). y.cursors) (λ y x. refl) v q late;
        pieces = late-part (λ (y : Node). y.pieces) (λ y x. refl) v q late;
        served = late-part (λ (y : Node). y.served) (λ y x. refl) v q late;
      }

      counts : (acknowledged v q late).under_way ≡ (with_acknowledged v q).under_way
      counts = late-part (λ (y : Node). y.under_way) (λ y x. refl) v q late

      rest : QuietFor v q raw
      rest = record {
        contexts = λ r ne. late_other v r q late ne;
        counts = λ r ne. ap (λ f. f r) counts ∙ ap (λ t. if t then v.under_way r - 1 else v.under_way r) ne;
        results = late-part (λ (y : Node). y.results) (λ y x. refl) v q late;
        next_number = late-part (λ (y : Node). y.next_number) (λ y x. refl) v q late;
        main_value = late-part (λ (y : Node). y.main_value) (λ y x. refl) v q late;
        arrivals = λ r ne d. refl;
        items = λ r ne d. refl;
        acks = λ r ne d. refl;
        returns = λ p d o a. refl;
      }

      passed : {A : Type 0} (f : Body → Option A) → f (Ack q late) ≡ None → parts f (c.links from k) ≡ parts f left
      passed f none = ap (parts f) first ∙ ap (λ y. with_first y (parts f left)) none

      view_is : view after q ≡ acked u inv.tickets (view c q) from k l (later_context late ((view c q).stands k))
      view_is =
          view-after_take u c from k left stamp event raw q
          ∙ same_view _ _
          (λ j. ap (λ y. with_at (view c q).stands k y j) (late_found v q late))
          (λ a d. plus-none (cut (view c q).travels from k (parts (arrival_of q) left)) k _ (λ e. sent-none (arrival_of q) u.nodelets k nothing e refl) a d ∙ cut-same (view c q).travels from k _ (passed (arrival_of q) refl) a d)
          (λ a d. plus-none (cut (view c q).items from k (parts (item_of q) left)) k _ (λ e. sent-none (item_of q) u.nodelets k nothing e refl) a d ∙ cut-same (view c q).items from k _ (passed (item_of q) refl) a d)
          (plus-none (cut (view c q).acks from k l) k _ (λ e. sent-none (ack_of q) u.nodelets k nothing e refl))
          (λ j. ap (λ y. with_at (view c q).under_way k y j) (ap (λ f. f q) counts ∙ ap (λ t. if t then v.under_way q - 1 else v.under_way q) (same_name_refl q)))

      mine : Known u inv.tickets (view after q) q (Some h.s)
      mine = subst (λ (y : View). Known u inv.tickets y q (Some h.s)) (sym view_is) (ack_known u inv.tickets (view c q) q h.s from k late l h.place h.parcels h.status holds h.under)
