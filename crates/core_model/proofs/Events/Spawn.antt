-- A spawn keeps the invariant, wherever the child is born.
use Rattle.std.proofs.Common.{◌≡◌, ℕ, suc, ◌<◌, ◌≤◌, inl, List, [], ◌∷◌, ◌++◌, Option, Some, None, refl, sym, ap, ◌∙◌, subst, arith, Bool, true, false, ◌&&◌, ℤ, nat_lt}
use Rattle.std.specs.Prelude.{if◌then◌else◌, ◌==◌}
use Rattle.std.proofs.lemmas.Bool.{eqb-true}
use Rattle.std.proofs.lemmas.Bool.Decides.{eqb_tells, nat_tests}
use Rattle.word_ops.specs.declared.name.Name.{Name}
use Rattle.word_ops.specs.declared.ticket.Ticket.{Ticket}
use Rattle.word_ops.specs.declared.step.NodeEvent.{NodeEvent}
use Rattle.word_ops.specs.Naming.{same_name}
use Rattle.merge_law.specs.Machine.{Raw, is_linked}
use Rattle.world_model.specs.Action.{Spawn, Hint}
use Rattle.world_model.specs.World.{Strand, World, with_at}
use Rattle.world_model.specs.Effect.{newborn, birthplace}
use Rattle.world_model.proofs.Names.{same_name_refl}
use Rattle.threadlet_code.specs.Breaches.{is_sound}
use Rattle.threadlet_code.specs.Machine.{State, asks}
use Rattle.threadlet_code.specs.Machine as code
use Rattle.threadlet_code.specs.Running.{due}
use Rattle.core_model.specs.Contexts.{Context, Body, Arrival, context_of}
use Rattle.core_model.specs.Nodes.{Setup, Node, sent_away}
use Rattle.core_model.specs.Nodes as node
use Rattle.core_model.specs.Effects.{Effect, quiet, sending, nothing, only_to, effect}
use Rattle.core_model.specs.Runs.{went_on}
use Rattle.core_model.specs.Core.{Core}
use Rattle.core_model.proofs.Invariant.ContextsByName.{context_of-with, context_of-with_other}
use Rattle.core_model.proofs.Invariant.Links.{with_first, sent-none, plus, plus-none, with_at-same}
use Rattle.core_model.proofs.Invariant.Views.{View, view, same_view, arrival_of, item_of, ack_of, result_of, after_run, view-after_run}
use Rattle.core_model.proofs.Invariant.Statement.{At, OnLink, IsNothing, Known, Invariant}
use Rattle.core_model.proofs.Invariant.OtherStrands.{Kept}
use Rattle.core_model.proofs.Actions.DueContext.{Before, seen_here}
use Rattle.core_model.proofs.Actions.Ways.{IsDone}
use Rattle.core_model.proofs.Actions.StayOrLeave.{only_to-none, sent-only_to}
use Rattle.core_model.proofs.Actions.NothingPending.{resumed-other, resumed-count}
use Rattle.core_model.proofs.Events.Birth as birth
use Rattle.core_model.proofs.Events.Birth.{born_known}

module _ (u : Setup) (sound : is_sound u.code ≡ true) (c : Core) (w : World) (inv : Invariant u c w) (k : ℕ) (q : Name) (x : Context) (state : State) (d function : ℕ) (args : List ℤ) (hint : Option Hint)
    (b : Before u c w inv k q x state (Spawn d function args hint)) (stamp : ℕ) (event : ℕ → NodeEvent) (count : ℕ) (some : 1 ≤ u.nodelets)
    (resume : List ℤ → State) (is_due : due u.code state ≡ asks (Spawn d function args hint) resume) (is_next : code.step u.code state ≡ asks (Spawn d function args hint) resume)
    (free : Bool) (done : IsDone u.nodelets u.turns (seen_here u sound c w inv k q x state (Spawn d function args hint) b) (Spawn d function args hint) free) where
  abbrev v : Node
  v = c.nodes k

  abbrev name : Name
  name = birth.name u sound c w inv k q x state d function args hint b stamp event count some resume is_due is_next free done

  abbrev child : Context
  child = birth.child u sound c w inv k q x state d function args hint b stamp event count some resume is_due is_next free done

  abbrev v1 : Node
  v1 = birth.v1 u sound c w inv k q x state d function args hint b stamp event count some resume is_due is_next free done

  abbrev there : ℕ
  there = birthplace u.nodelets k hint

  abbrev T' : Name → Option Ticket
  T' = birth.T' u sound c w inv k q x state d function args hint b stamp event count some resume is_due is_next free done

  counted : {A : Type 0} (f : Node → A) → ((j : ℕ) (y : Node) → f (node.bore_at j y) ≡ f y) → f v1 ≡ f (record v { next_number = suc v.next_number })
  counted f same = birth.counted u sound c w inv k q x state d function args hint b stamp event count some resume is_due is_next free done f same

  nothing-of : IsNothing (view c name)
  nothing-of = subst (λ (o : Option Strand). Known u inv.tickets (view c name) name o) (birth.new u sound c w inv k q x state d function args hint b stamp event count some resume is_due is_next free done) (inv.each name)

  apart : same_name name x.name ≡ false
  apart = ap (same_name name) b.here.name ∙ birth.apart u sound c w inv k q x state d function args hint b stamp event count some resume is_due is_next free done

  abbrev baby : Strand
  baby = newborn function args there

  abbrev local : Effect
  local = record (quiet (node.with_strand v1 child) []) { child = Some name }

  abbrev remote : Effect
  remote = record (sending (sent_away v1) (only_to there (Arrival child))) { child = Some name }

  -- ---- here

  local_known : (there == k) ≡ true → Known u T' (view (after_run u c k stamp event (went_on k x count resume local)) name) name (Some baby)
  local_known home = subst (λ (y : View). Known u T' y name (Some baby)) (sym view_is)
      (born_known u T' (view c name) target child baby (At k) nothing-of refl (λ j. refl) refl refl refl refl
      (birth.ticket-is u sound c w inv k q x state d function args hint b stamp event count some resume is_due is_next free done)
      (birth.state-is u sound c w inv k q x state d function args hint b stamp event count some resume is_due is_next free done)
      (λ j. stands j (j == k)) nothing-of.gone.travels (λ a f. refl) (λ a f. refl) (λ j. refl) (λ n. inl (eqb-true _ _ home)))
    where
      raw : Raw Node Body
      raw = went_on k x count resume local

      target : View
      target = record { stands = with_at (view c name).stands k (Some child); travels = (view c name).travels; items = (view c name).items; acks = (view c name).acks; under_way = (view c name).under_way }

      stands : (j : ℕ) (t : Bool) → (if t then Some child else (view c name).stands j) ≡ (if t then Some child else None)
      stands j true = refl
      stands j false = nothing-of.gone.stands j

      view_is : view (after_run u c k stamp event raw) name ≡ target
      view_is = view-after_run u c k stamp event raw name ∙ same_view _ _
          (λ j. ap (λ y. with_at (view c name).stands k y j) (resumed-other u inv.tickets c k x count resume local stamp event name apart ∙ context_of-with child v1.contexts))
          (plus-none (view c name).travels k _ (λ e. sent-none (arrival_of name) u.nodelets k nothing e refl))
          (plus-none (view c name).items k _ (λ e. sent-none (item_of name) u.nodelets k nothing e refl))
          (plus-none (view c name).acks k _ (λ e. sent-none (ack_of name) u.nodelets k nothing e refl))
          (λ j. ap (λ y. with_at (view c name).under_way k y j) (resumed-count u inv.tickets c k x count resume local stamp event name ∙ ap (λ f. f name) (counted (λ (y : Node). y.under_way) (λ i y. refl))) ∙ with_at-same (view c name).under_way k j)

  local_kept : (there == k) ≡ true → Kept u w (after_run u c k stamp event (went_on k x count resume local)) (went_on k x count resume local).step
  local_kept home = birth.spawned_kept u sound c w inv k q x state d function args hint b stamp event count some resume is_due is_next free done local refl refl
      (λ r ne. context_of-with_other r child v1.contexts ne ∙ ap (context_of r) (counted (λ (y : Node). y.contexts) (λ i y. refl)))
      (counted (λ (y : Node). y.under_way) (λ i y. refl)) (counted (λ (y : Node). y.results) (λ i y. refl)) (counted (λ (y : Node). y.next_number) (λ i y. refl)) (counted (λ (y : Node). y.main_value) (λ i y. refl))
      (record {
        cells = counted (λ (y : Node). y.cells) (λ i y. refl);
        granted = counted (λ (y : Node). y.granted) (λ i y. refl);
        cursors = counted (λ (y : Node). y.cursors) (λ i y. refl);
        pieces = counted (λ (y : Node). y.pieces) (λ i y. refl);
        served = counted (λ (y : Node). y.served) (λ i y. refl);
      })
      (λ r ne e. refl) (λ r e. refl) (λ r e. refl) (λ p f o e. refl) (local_known home)

  -- ---- elsewhere

  module _ (away : (there == k) ≡ false) where
    linked : is_linked u.nodelets k there ≡ true
    linked =
        let r : nat_lt k u.nodelets ≡ true = tested k u.nodelets b.inside in
        let s : nat_lt there u.nodelets ≡ true = tested there u.nodelets (birth.inside u sound c w inv k q x state d function args hint b stamp event count some resume is_due is_next free done) in
        let y : (k == there) ≡ false = grind (arith, eqb_tells) in rw (r, s, y) refl
      where
        tested : (j m : ℕ) → j < m → nat_lt j m ≡ true
        tested j m less = grind (arith, nat_tests)

    remote_known : Known u T' (view (after_run u c k stamp event (went_on k x count resume remote)) name) name (Some baby)
    remote_known = subst (λ (y : View). Known u T' y name (Some baby)) (sym view_is)
        (born_known u T' (view c name) target child baby (OnLink k there) nothing-of refl (λ j. refl) refl refl refl refl
        (birth.ticket-is u sound c w inv k q x state d function args hint b stamp event count some resume is_due is_next free done)
        (birth.state-is u sound c w inv k q x state d function args hint b stamp event count some resume is_due is_next free done)
        nothing-of.gone.stands (λ a e. travels a e (a == k)) (λ a e. refl) (λ a e. refl) (λ j. refl) (λ n. (n.under_way there, refl, inl refl)))
      where
        raw : Raw Node Body
        raw = went_on k x count resume remote

        target : View
        target = record {
          stands = (view c name).stands;
          travels = plus (view c name).travels k (λ e. if e == there then child ∷ [] else []);
          items = (view c name).items;
          acks = (view c name).acks;
          under_way = (view c name).under_way;
        }

        travels : (a e : ℕ) (t : Bool) → (view c name).travels a e ++ (if t then (if e == there then child ∷ [] else []) else []) ≡ (if t && e == there then child ∷ [] else [])
        travels a e true = ap (λ l. l ++ (if e == there then child ∷ [] else [])) (nothing-of.gone.travels a e)
        travels a e false = ap (λ l. l ++ []) (nothing-of.gone.travels a e)

        view_is : view (after_run u c k stamp event raw) name ≡ target
        view_is = view-after_run u c k stamp event raw name ∙ same_view _ _
            (λ j. ap (λ y. with_at (view c name).stands k y j) (resumed-other u inv.tickets c k x count resume remote stamp event name apart ∙ ap (context_of name) (counted (λ (y : Node). y.contexts) (λ i y. refl))) ∙ with_at-same (view c name).stands k j)
            (λ a e. ap (λ l. (view c name).travels a e ++ (if a == k then l else []))
            (sent-only_to (arrival_of name) u.nodelets k there (Arrival child) linked e ∙ ap (λ t. if e == there then with_first (if t then Some child else None) [] else []) (same_name_refl name)))
            (plus-none (view c name).items k _ (λ e. sent-none (item_of name) u.nodelets k raw.bodies e (only_to-none (item_of name) there (Arrival child) refl e)))
            (plus-none (view c name).acks k _ (λ e. sent-none (ack_of name) u.nodelets k raw.bodies e (only_to-none (ack_of name) there (Arrival child) refl e)))
            (λ j. ap (λ y. with_at (view c name).under_way k y j) (resumed-count u inv.tickets c k x count resume remote stamp event name ∙ ap (λ f. f name) (counted (λ (y : Node). y.under_way) (λ i y. refl))) ∙ with_at-same (view c name).under_way k j)

    remote_kept : Kept u w (after_run u c k stamp event (went_on k x count resume remote)) (went_on k x count resume remote).step
    remote_kept = birth.spawned_kept u sound c w inv k q x state d function args hint b stamp event count some resume is_due is_next free done remote refl refl
        (λ r ne. ap (context_of r) (counted (λ (y : Node). y.contexts) (λ i y. refl)))
        (counted (λ (y : Node). y.under_way) (λ i y. refl)) (counted (λ (y : Node). y.results) (λ i y. refl)) (counted (λ (y : Node). y.next_number) (λ i y. refl)) (counted (λ (y : Node). y.main_value) (λ i y. refl))
        (record {
          cells = counted (λ (y : Node). y.cells) (λ i y. refl);
          granted = counted (λ (y : Node). y.granted) (λ i y. refl);
          cursors = counted (λ (y : Node). y.cursors) (λ i y. refl);
          pieces = counted (λ (y : Node). y.pieces) (λ i y. refl);
          served = counted (λ (y : Node). y.served) (λ i y. refl);
        })
        (λ r ne. only_to-none (arrival_of r) there (Arrival child) (ap (λ t. if t then Some child else None) ne)) (λ r. only_to-none (item_of r) there (Arrival child) refl)
        (λ r. only_to-none (ack_of r) there (Arrival child) refl) (λ p f o. only_to-none (result_of p f o) there (Arrival child) refl) remote_known

  pub spawn_kept : Kept u w (after_run u c k stamp event (went_on k x count resume (effect u k v x state (Spawn d function args hint)))) (went_on k x count resume (effect u k v x state (Spawn d function args hint))).step
  spawn_kept = go (there == k) refl
    where
      go : (t : Bool) → (there == k) ≡ t → Kept u w (after_run u c k stamp event (went_on k x count resume (if t then local else remote))) (went_on k x count resume (if t then local else remote)).step
      go true e = local_kept e
      go false e = remote_kept e
