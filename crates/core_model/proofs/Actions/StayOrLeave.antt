-- A context that stays before its action, and one that is sent where its action must be done.
use Rattle.std.proofs.Common.{◌≡◌, ℕ, inr, List, [], ◌∷◌, ◌++◌, Option, Some, None, refl, sym, ap, ◌∙◌, subst, Bool, true, false, ⊎_elim, filter_map, ℤ}
use Rattle.std.specs.Prelude.{if◌then◌else◌, ◌==◌}
use Rattle.std.proofs.lemmas.Bool.{eqb-true, eq-eqb}
use Rattle.word_ops.specs.declared.name.Name.{Name}
use Rattle.word_ops.specs.declared.step.NodeEvent.{NodeEvent}
use Rattle.word_ops.specs.declared.rules.Rules.{Rules}
use Rattle.word_ops.specs.declared.rules.Rules.TheVariants.{Loose, Checked}
use Rattle.word_ops.specs.Naming.{same_name}
use Rattle.merge_law.specs.Machine.{Raw, stamped, is_linked}
use Rattle.world_model.specs.Action.{Action, Sync}
use Rattle.world_model.specs.Sight.{Sight, place_after}
use Rattle.world_model.specs.World.{World, with_at}
use Rattle.world_model.proofs.Names.{same_name_refl}
use Rattle.threadlet_code.specs.Breaches.{is_sound}
use Rattle.threadlet_code.specs.Machine.{State}
use Rattle.core_model.specs.Contexts.{Context, Body, Arrival, context_of}
use Rattle.core_model.specs.Nodes.{Setup, Node}
use Rattle.core_model.specs.Nodes as node
use Rattle.core_model.specs.Effects.{nothing, only_to}
use Rattle.core_model.specs.Runs.{sent_whole}
use Rattle.core_model.specs.Machine.{machine_of}
use Rattle.core_model.specs.Core.{Core}
use Rattle.core_model.specs.Agreement.{SharesAll, cursor_home}
use Rattle.core_model.proofs.Invariant.ContextsByName.{context_of-with, context_of-with_other, context_of-without, context_of-without_other}
use Rattle.core_model.proofs.Invariant.Links.{part-kept, with_first, sent, sent-none, plus-none, with_at-same}
use Rattle.core_model.proofs.Invariant.Views.{View, view, same_view, sending, arrival_of, item_of, ack_of, result_of, after_run, view-after_run}
use Rattle.core_model.proofs.Invariant.Statement.{IsAway, Known, Invariant}
use Rattle.core_model.proofs.Invariant.OtherStrands.{Kept, LeavesStrands, QuietFor, leaves-run, framed}
use Rattle.core_model.proofs.Actions.RunOutcomes.{stayed}
use Rattle.core_model.proofs.Actions.StrandAfter.{stood, sending-stood, waits_on, departed, departs}
use Rattle.core_model.proofs.Actions.Sights.{goes_fixed, not_both}
use Rattle.core_model.proofs.Actions.DueContext.{Before, seen_here, away_action, none_under_way, same_late, childless_same}
use Rattle.core_model.proofs.Actions.Ways.{IsSent}

-- ---- what is shared, where a node keeps it

pub record KeepsShared (v v' : Node) : Type 0 where
  pub cells : v'.cells ≡ v.cells
  pub granted : v'.granted ≡ v.granted
  pub cursors : v'.cursors ≡ v.cursors
  pub pieces : v'.pieces ≡ v.pieces
  pub served : v'.served ≡ v.served

-- a change of one node that keeps what is shared
pub granted-as : (u : Setup) (v v' : Node) (a : ℤ) → v'.granted ≡ v.granted → node.is_granted u.rules v' a ≡ node.is_granted u.rules v a
granted-as u v v' a e = go u.rules
  where
    go : (r : Rules) → node.is_granted r v' a ≡ node.is_granted r v a
    go Loose = refl
    go Checked = ap (λ f. f a) e

abbrev pub changed_at : Core → ℕ → Node → ℕ → Node
changed_at c k v j = if j == k then v else c.nodes j

pub shares-kept : (u : Setup) (c after : Core) (w : World) (k : ℕ) (v : Node) → after.nodes ≡ changed_at c k v → KeepsShared (c.nodes k) v → SharesAll u c w → SharesAll u after w
shares-kept u c after w k v nodes keeps shares =
    let at : (j : ℕ) → after.nodes j ≡ changed_at c k v j = λ j. ap (λ (f : ℕ → Node). f j) nodes in
    record {
      cells = λ j a less. ap (λ (y : Node). y.cells a) (at j) ∙ part-kept (λ (y : Node). y.cells a) c.nodes k v (ap (λ f. f a) keeps.cells) j ∙ shares.cells j a less;
      granted = λ j a less. ap (λ (y : Node). node.is_granted u.rules y a) (at j) ∙ part-kept (λ (y : Node). node.is_granted u.rules y a) c.nodes k v (granted-as u (c.nodes k) v a keeps.granted) j ∙ shares.granted j a less;
      cursors = λ view. ap (λ (y : Node). y.cursors view) (at (cursor_home view)) ∙ part-kept (λ (y : Node). y.cursors view) c.nodes k v (ap (λ f. f view) keeps.cursors) (cursor_home view) ∙ shares.cursors view;
      pieces = ap (λ (y : Node). y.pieces) (at 0) ∙ part-kept (λ (y : Node). y.pieces) c.nodes k v keeps.pieces 0 ∙ shares.pieces;
      turns = λ j less. ap (λ (y : Node). y.served) (at j) ∙ part-kept (λ (y : Node). y.served) c.nodes k v keeps.served j ∙ shares.turns j less;
    }

-- ---- one body to one nodelet

pub only_to-part : {A : Type 0} (f : Body → Option A) (to : ℕ) (body : Body) (b : ℕ) → filter_map f (only_to to body b) ≡ (if b == to then with_first (f body) [] else [])
only_to-part f to body b = go (b == to)
  where
    go : (t : Bool) → filter_map f (if t then body ∷ [] else []) ≡ (if t then with_first (f body) [] else [])
    go true = refl
    go false = refl

pub only_to-none : {A : Type 0} (f : Body → Option A) (to : ℕ) (body : Body) → f body ≡ None → (b : ℕ) → filter_map f (only_to to body b) ≡ []
only_to-none f to body none b = only_to-part f to body b ∙ go (b == to)
  where
    go : (t : Bool) → (if t then with_first (f body) [] else []) ≡ []
    go true = ap (λ y. with_first y []) none
    go false = refl

-- what reaches nodelet `to`, which is linked
pub sent-only_to : {A : Type 0} (f : Body → Option A) (n k to : ℕ) (body : Body) → is_linked n k to ≡ true → (b : ℕ) → sent f n k (only_to to body) b ≡ (if b == to then with_first (f body) [] else [])
sent-only_to f n k to body linked b = go (b == to) refl
  where
    go : (t : Bool) → (b == to) ≡ t → (if is_linked n k b then filter_map f (if t then body ∷ [] else []) else []) ≡ (if t then with_first (f body) [] else [])
    go true e = ap (λ s. if s then with_first (f body) [] else []) (ap (is_linked n k) (eqb-true _ _ e) ∙ linked)
    go false e = none (is_linked n k b)
      where
        none : {A : Type 0} (s : Bool) → (if s then (let l : List A = [] in l) else []) ≡ []
        none true = refl
        none false = refl

module _ (u : Setup) (sound : is_sound u.code ≡ true) (c : Core) (w : World) (inv : Invariant u c w) (k : ℕ) (q : Name) (x : Context) (state : State) (action : Action) (b : Before u c w inv k q x state action) (stamp : ℕ) (event : ℕ → NodeEvent) where
  abbrev v : Node
  v = c.nodes k

  same_strands : LeavesStrands w w q b.s b.s
  same_strands = record { known = b.known; now = b.known; others = λ r ne. refl; home = refl; children = refl; status = refl }

  -- ---- it stays

  pub waits_kept : (count : ℕ) → Kept u w (after_run u c k stamp event (stayed v x state count)) None
  waits_kept count = record {
    world = w;
    leads = refl;
    holds = framed u c after w w q b.s b.s inv (leaves-run u c k stamp event raw q rest) same_strands inv.within
        (shares-kept u c after w k (stamped (machine_of u) k stamp event raw).node refl (record { cells = refl; granted = refl; cursors = refl; pieces = refl; served = refl }) inv.shares) mine;
  }
    where
      raw : Raw Node Body
      raw = stayed v x state count

      x' : Context
      x' = record x { state = state }

      after : Core
      after = after_run u c k stamp event raw

      rest : QuietFor v q raw
      rest = record {
        contexts = λ r ne. context_of-with_other r x' v.contexts (ap (same_name r) b.here.name ∙ ne);
        counts = λ r ne. refl;
        results = refl;
        next_number = refl;
        main_value = refl;
        arrivals = λ r ne d. refl;
        items = λ r ne d. refl;
        acks = λ r ne d. refl;
        returns = λ p d o a. refl;
      }

      found : context_of q raw.node.contexts ≡ Some x'
      found = subst (λ (r : Name). context_of r raw.node.contexts ≡ Some x') b.here.name (context_of-with x' v.contexts)

      view_is : view after q ≡ stood u inv.tickets (view c q) k (Some x')
      view_is =
          view-after_run u c k stamp event raw q
          ∙ ap (λ y. sending (view c q) k y (raw.node.under_way q) (sent (arrival_of q) u.nodelets k raw.bodies) (sent (item_of q) u.nodelets k raw.bodies) (sent (ack_of q) u.nodelets k raw.bodies)) found
          ∙ sending-stood u inv.tickets (view c q) k (Some x') _ _ _ _ refl
          (λ d. sent-none (arrival_of q) u.nodelets k nothing d refl) (λ d. sent-none (item_of q) u.nodelets k nothing d refl) (λ d. sent-none (ack_of q) u.nodelets k nothing d refl)

      mine : Known u inv.tickets (view after q) q (Some b.s)
      mine = subst (λ (y : View). Known u inv.tickets y q (Some b.s)) (sym view_is) (waits_on u inv.tickets (view c q) q b.s k x b.here state b.is b.same)

  -- ---- it is sent

  pub sent_kept : (count to : ℕ) → IsSent u.nodelets (seen_here u sound c w inv k q x state action b) action to → is_linked u.nodelets k to ≡ true →
      Kept u w (after_run u c k stamp event (sent_whole v x state count to)) None
  sent_kept count to way linked = record {
    world = w;
    leads = refl;
    holds = framed u c after w w q b.s b.s inv (leaves-run u c k stamp event raw q rest) same_strands inv.within
        (shares-kept u c after w k (stamped (machine_of u) k stamp event raw).node refl (record { cells = refl; granted = refl; cursors = refl; pieces = refl; served = refl }) inv.shares) mine;
  }
    where
      raw : Raw Node Body
      raw = sent_whole v x state count to

      x' : Context
      x' = record x { state = state }

      after : Core
      after = after_run u c k stamp event raw

      here : Sight
      here = seen_here u sound c w inv k q x state action b

      other : (r : Name) → same_name r q ≡ false → same_name r x.name ≡ false
      other r ne = ap (same_name r) b.here.name ∙ ne

      rest : QuietFor v q raw
      rest = record {
        contexts = λ r ne. context_of-without_other r x.name v.contexts (other r ne);
        counts = λ r ne. refl;
        results = refl;
        next_number = refl;
        main_value = refl;
        arrivals = λ r ne. only_to-none (arrival_of r) to (Arrival x') (ap (λ t. if t then Some x' else None) (other r ne));
        items = λ r ne. only_to-none (item_of r) to (Arrival x') refl;
        acks = λ r ne. only_to-none (ack_of r) to (Arrival x') refl;
        returns = λ p d o. only_to-none (result_of p d o) to (Arrival x') refl;
      }

      own : same_name q x.name ≡ true
      own = ap (same_name q) b.here.name ∙ same_name_refl q

      gone : context_of q raw.node.contexts ≡ None
      gone = subst (λ (r : Name). context_of r raw.node.contexts ≡ None) b.here.name (context_of-without x.name v.contexts)

      view_is : view after q ≡ departed u inv.tickets (view c q) k to x'
      view_is =
          view-after_run u c k stamp event raw q
          ∙ same_view _ _
          (λ j. ap (λ y. with_at (view c q).stands k y j) gone)
          (λ a d. ap (λ y. (view c q).travels a d ++ (if a == k then y else []))
          (sent-only_to (arrival_of q) u.nodelets k to (Arrival x') linked d ∙ ap (λ t. if d == to then with_first (if t then Some x' else None) [] else []) own))
          (plus-none (view c q).items k _ (λ d. sent-none (item_of q) u.nodelets k raw.bodies d (only_to-none (item_of q) to (Arrival x') refl d)))
          (plus-none (view c q).acks k _ (λ d. sent-none (ack_of q) u.nodelets k raw.bodies d (only_to-none (ack_of q) to (Arrival x') refl d)))
          (with_at-same (view c q).under_way k)

      has_children : (d : ℕ) → action ≡ Sync d → (t : Bool) → here.childless d ≡ t → t ≡ false
      has_children d f false g = refl
      has_children d f true g = not_both _ (eq-eqb (place_after u.nodelets here action) k (ap (place_after u.nodelets here) f ∙ ap (λ t. if t then k else x.home) g)) way.moves

      -- were it away already, its action would stay here
      settled : b.s.place ≡ k
      settled = ⊎_elim (λ f. f) (λ away. never away) b.here.bound
        where
          never : IsAway u (view c q) b.s x k → b.s.place ≡ k
          never away =
              let same : away.action ≡ action = away_action u sound c w inv k q x state action b away in
              let goes : place_after u.nodelets here away.action ≡ k = away.goes here b.here.home (inr refl) (λ d f. has_children d (sym same ∙ f) (here.childless d) refl) in
              not_both _ (eq-eqb (place_after u.nodelets here action) k (ap (place_after u.nodelets here) (sym same) ∙ goes)) way.moves

      clear : (view c q).under_way b.s.place ≡ 0
      clear = none_under_way u sound c w inv k q x state action b settled way.clear

      away : IsAway u (view c q) b.s x' to
      away = record {
        clear = clear;
        late = sym (same_late u sound c w inv k q x state action b clear) ∙ way.prompt;
        action = action;
        next = b.next;
        good = way.good;
        joins = λ d e. sym (childless_same u sound c w inv k q x state action b d) ∙ has_children d e (here.childless d) refl;
        goes = λ y home at childless. goes_fixed u.nodelets here y action way.moves (home ∙ sym b.here.home) childless ∙ way.goes;
      }

      mine : Known u inv.tickets (view after q) q (Some b.s)
      mine = subst (λ (y : View). Known u inv.tickets y q (Some b.s)) (sym view_is) (departs u inv.tickets (view c q) q b.s k to x b.here state b.is way.prompt clear away)
