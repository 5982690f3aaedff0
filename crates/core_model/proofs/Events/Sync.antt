-- A parent joins its children at its home.
use Rattle.std.proofs.Common.{◌≡◌, ℕ, ◌<◌, ◌≤◌, ◌⊎◌, inl, inr, List, [], ◌∷◌, ◌++◌, length, map, Option, Some, None, refl, sym, ap, ◌∙◌, arith, Bool, true, false, ⊎_elim, ◌&&◌, ◌||◌, not, ℤ, pos, nat_lt, is_some}
use Rattle.std.specs.Prelude.{if◌then◌else◌, ◌==◌, unwrap_or}
use Rattle.std.specs.List.{list_all}
use Rattle.std.proofs.lemmas.Bool.{eqb-true, eq-eqb}
use Rattle.std.proofs.lemmas.Bool.Decides.{nat_tests}
use Rattle.std.proofs.lemmas.List.{append-nil}
use Rattle.word_ops.specs.Report.{below}
use Rattle.word_ops.specs.declared.name.Name.{Name}
use Rattle.word_ops.specs.declared.step.Step.TheVariants.{Act}
use Rattle.word_ops.specs.declared.step.NodeEvent.{NodeEvent}
use Rattle.word_ops.specs.Naming.{same_name}
use Rattle.merge_law.specs.Machine.{Raw, stamped}
use Rattle.world_model.specs.Action.{Sync}
use Rattle.world_model.specs.Meaning.{children_after}
use Rattle.world_model.specs.World.{Strand, World, strand_of, value_of, main_name, with_strand, children_at}
use Rattle.world_model.specs.Effect as world_effect
use Rattle.world_model.specs.Step.{step}
use Rattle.world_model.proofs.Names.{same_name_refl, name_cases, lookup-same, lookup-other}
use Rattle.threadlet_code.specs.Breaches.{is_sound}
use Rattle.threadlet_code.specs.Machine.{State, asks}
use Rattle.threadlet_code.specs.Machine as code
use Rattle.threadlet_code.specs.Running.{due, owed}
use Rattle.core_model.specs.Contexts.{Context, Body}
use Rattle.core_model.specs.Nodes.{Setup, Node, without_results}
use Rattle.core_model.specs.Effects.{Effect, joined}
use Rattle.core_model.specs.Runs.{went_on, are_recorded}
use Rattle.core_model.specs.Machine.{machine_of}
use Rattle.core_model.specs.Core.{Core, setting_of}
use Rattle.core_model.proofs.Invariant.Links.{part-kept}
use Rattle.core_model.proofs.Invariant.Views.{view, after_run}
use Rattle.core_model.proofs.Invariant.StrandStates.{answered_is}
use Rattle.core_model.proofs.Invariant.Statement.{Relative, relative, relative_of, result_by, results_in, returns_in, relatives_in, Known, Kin, Invariant}
use Rattle.core_model.proofs.Invariant.OtherStrands.{Kept, each-but, fresh-same, orphans-same, main_value-same, kin-same, value_by, within-after}
use Rattle.core_model.proofs.Actions.DueContext.{Before, seen_here}
use Rattle.core_model.proofs.Actions.Ways.{IsDone}
use Rattle.core_model.proofs.Actions.DoneOrRefused.{InWorld, in_world, acts_here}
use Rattle.core_model.proofs.Actions.WordActions.{shares-as, moved-part}
use Rattle.core_model.proofs.Events.QuietActions.{same_cells, same_granted, same_cursors, same_pieces, same_turns}
use Rattle.core_model.proofs.Events.End.{returns-same}
use Rattle.core_model.proofs.Events.SyncKin.{without_depth, none_at, others_at, map-places, with_joined, promise-joined, kept_value, none_beyond, kin-joined}
use Rattle.core_model.proofs.Actions.NothingPending.{resumed-keeps, resumed-view, resumed-known}

ended_now : (childless all home clear late : Bool) → childless ≡ false → home ≡ true → (childless || (all && (home || clear)) || (clear && late && not home)) ≡ true → all ≡ true
ended_now true all home clear late e f r = absurd cc
ended_now false true home clear late e f r = refl
ended_now false false false clear late e f r = absurd cc
ended_now false false true true true e f r = absurd cc
ended_now false false true true false e f r = absurd cc
ended_now false false true false late e f r = absurd cc

module _ (u : Setup) (sound : is_sound u.code ≡ true) (c : Core) (w : World) (inv : Invariant u c w) (k : ℕ) (q : Name) (x : Context) (state : State) (d : ℕ) (b : Before u c w inv k q x state (Sync d)) (stamp : ℕ) (event : ℕ → NodeEvent) (count : ℕ) (some : 1 ≤ u.nodelets)
    (resume : List ℤ → State) (is_due : due u.code state ≡ asks (Sync d) resume) (is_next : code.step u.code state ≡ asks (Sync d) resume) (free : Bool) (done : IsDone u.nodelets u.turns (seen_here u sound c w inv k q x state (Sync d) b) (Sync d) free) where
  abbrev v : Node
  v = c.nodes k

  abbrev e : Effect
  e = joined v x state d

  abbrev raw : Raw Node Body
  raw = went_on k x count resume e

  abbrev after : Core
  after = after_run u c k stamp event raw

  abbrev children : List Name
  children = children_at d b.s.children

  abbrev me : Relative
  me = relative_of b.s

  mine : relatives_in w q ≡ Some me
  mine = ap relative b.known

  -- there are none, or the parent is at home and all are recorded
  abbrev Ready : Type 0
  Ready = (length children ≡ 0) ⊎ ((k ≡ b.s.home) × (are_recorded v x.name d (owed d state) ≡ true))

  ready : Ready
  ready = by (owed d state == 0) refl
    where
      by : (t : Bool) → (owed d state == 0) ≡ t → Ready
      by true f = inl (sym (b.is.owes d) ∙ eqb-true _ _ f)
      by false f =
          let home : x.home ≡ k = sym (ap (λ t. if t then k else x.home) f) ∙ done.stays_here in
          inr (sym home ∙ b.here.home, ended_now (owed d state == 0) (are_recorded v x.name d (owed d state)) (k == x.home) (v.under_way x.name == 0) (is_some x.late) f (eq-eqb _ _ (sym home)) done.ready)

  all : list_all (λ o. is_some ((c.nodes b.s.home).results q d o)) (below (length children)) ≡ true
  all = ⊎_elim
      (λ none. ap (λ m. list_all (λ o. is_some ((c.nodes b.s.home).results q d o)) (below m)) none)
      (λ h. ap (λ j. list_all (λ o. is_some ((c.nodes j).results q d o)) (below (length children))) (sym h.0)
      ∙ ap (λ m. list_all (λ o. is_some (v.results q d o)) (below m)) (sym (b.is.owes d))
      ∙ ap (λ r. list_all (λ o. is_some (v.results r d o)) (below (owed d state))) (sym b.here.name) ∙ h.1)
      ready

  abbrev values : List ℤ
  values = map (λ child. unwrap_or (value_of w child) (pos 0)) children

  same_values : values ≡ e.answer
  same_values =
      sym (map-places (λ o. unwrap_or (v.results x.name d o) (pos 0)) (λ child. unwrap_or (value_of w child) (pos 0)) children
      (λ i child at less. ap (λ y. unwrap_or y (pos 0)) (ap (λ r. v.results r d i) b.here.name ∙ at_home i less ∙ kept_value inv.tickets (results_in c) (results_in c) (returns_in c) (relatives_in w) inv.kin q me d mine all i child at ∙ sym (value_by w child))))
      ∙ ap (λ m. map (λ o. unwrap_or (v.results x.name d o) (pos 0)) (below m)) (sym (b.is.owes d))
    where
      at_home : (i : ℕ) → i < length children → v.results q d i ≡ (c.nodes b.s.home).results q d i
      at_home i less = ⊎_elim (λ none. absurd (omega arith)) (λ h. ap (λ j. (c.nodes j).results q d i) h.0) ready

  abbrev s' : Strand
  s' = record b.s { place = k; children = without_depth d b.s.children; answers = b.s.answers ++ e.answer ∷ [] }

  abbrev world' : World
  world' = with_strand w q s'

  i : InWorld u sound c w inv k q x state (Sync d) b
  i = in_world u sound c w inv k q x state (Sync d) b free done

  leads : step (setting_of u) w (Act x.name None) ≡ Some world'
  leads =
      ap (λ (r : Name). step (setting_of u) w (Act r None)) b.here.name
      ∙ acts_here u sound c w inv k q x state (Sync d) b None free done
      ∙ ap (λ p. Some (world_effect.goes_on w q (world_effect.without_children b.s d) p values)) i.goes
      ∙ ap (λ y. Some (world_effect.goes_on w q (world_effect.without_children b.s d) k y)) same_values

  now : strand_of world' q ≡ Some s'
  now = lookup-same q s' w.strands

  others : (r : Name) → same_name r q ≡ false → strand_of world' r ≡ strand_of w r
  others r ne = lookup-other r q s' w.strands ne

  relatives-joined : (p : Name) → relatives_in world' p ≡ with_joined (relatives_in w) q me d p
  relatives-joined p = ⊎_elim
      (λ is. ap (relatives_in world') is ∙ ap relative now ∙ sym (ap (with_joined (relatives_in w) q me d) is ∙ ap (λ t. if t then Some (record me { children = without_depth d b.s.children }) else relatives_in w q) (same_name_refl q)))
      (λ ne. ap relative (others p ne.0) ∙ sym (ap (λ t. if t then Some (record me { children = without_depth d b.s.children }) else relatives_in w p) ne.0))
      (name_cases p q)

  -- ---- what the nodelet keeps

  abbrev N : Node
  N = (stamped (machine_of u) k stamp event raw).node

  results : N.results ≡ (without_results v x.name d (owed d state)).results
  results = moved-part (λ (y : Node). y.results) k x.place (without_results v x.name d (owed d state)) (λ t. refl)

  kept : (j : ℕ) (p : Name) (f o : ℕ) → (same_name p q && f == d) ≡ false → results_in after j p f o ≡ results_in c j p f o
  kept j p f o ne = go (j == k) refl
    where
      off : (a s t : Bool) → (a && s) ≡ false → (a && (s && t)) ≡ false
      off true true t h = absurd cc
      off true false t h = refl
      off false s t h = refl

      go : (t : Bool) → (j == k) ≡ t → (if t then N else c.nodes j).results p f o ≡ (c.nodes j).results p f o
      go true h = ap (λ g. g p f o) results
          ∙ ap (λ t. if t then None else v.results p f o) (off (same_name p x.name) (f == d) (nat_lt o (owed d state)) (ap (λ r. same_name p r && f == d) b.here.name ∙ ne))
          ∙ ap (λ y. (c.nodes y).results p f o) (sym (eqb-true _ _ h))
      go false h = refl

  none_else : (j o : ℕ) → length children ≤ o → results_in c j q d o ≡ None
  none_else = none_beyond inv.tickets (results_in c) (results_in c) (returns_in c) (relatives_in w) inv.kin q me d mine all

  cleared : (j o : ℕ) → results_in after j q d o ≡ None
  cleared j o = go (j == k) refl
    where
      at_k : (t : Bool) → nat_lt o (owed d state) ≡ t → (if t then (let n : Option ℤ = None in n) else v.results q d o) ≡ None
      at_k true h = refl
      at_k false h = none_else k o (let z : owed d state ≡ length children = b.is.owes d in grind (arith, nat_tests))

      far : (j == k) ≡ false → results_in c j q d o ≡ None
      far ne = by (nat_lt o (length children)) refl
        where
          by : (t : Bool) → nat_lt o (length children) ≡ t → results_in c j q d o ≡ None
          by false h = none_else j o (grind (arith, nat_tests))
          by true h = ⊎_elim
              (λ none. absurd (let less : o < length children = grind (arith, nat_tests) in omega arith))
              (λ at. (inv.kin.elsewhere q me mine j (ap (λ y. j == y) (sym at.0) ∙ ne) d o).0) ready

      own : (same_name q x.name && (d == d && nat_lt o (owed d state))) ≡ nat_lt o (owed d state)
      own = ap (λ t. t && (d == d && nat_lt o (owed d state))) (ap (same_name q) b.here.name ∙ same_name_refl q) ∙ ap (λ t. t && nat_lt o (owed d state)) (eq-eqb d d refl)

      go : (t : Bool) → (j == k) ≡ t → (if t then N else c.nodes j).results q d o ≡ None
      go true h = ap (λ g. g q d o) results ∙ ap (λ t. if t then None else v.results q d o) own ∙ at_k (nat_lt o (owed d state)) refl
      go false h = far h

  kin : Kin inv.tickets (results_in after) (returns_in after) (relatives_in world')
  kin = kin-same inv.tickets (results_in after) (results_in after) (returns_in c) (returns_in after) (with_joined (relatives_in w) q me d) (relatives_in world')
      (kin-joined inv.tickets (results_in c) (results_in after) (returns_in c) (relatives_in w) inv.kin q me d mine all kept cleared) (λ j. refl)
      (returns-same u c k stamp event raw (λ p f o a. refl)) relatives-joined

  pub join_kept : Kept u w after raw.step
  join_kept = record {
    world = world';
    leads = leads;
    holds = record {
      shares = shares-as u c after w q s' k e.node N refl (resumed-keeps u inv.tickets c k x count resume e stamp event) (record {
        cells = same_cells u c w inv k e.node refl;
        granted = same_granted u c w inv k e.node refl w refl;
        cursors = same_cursors u c w inv k e.node refl;
        pieces = same_pieces u c w inv k e.node refl;
        turns = same_turns u c w inv k e.node refl;
      });
      within = within-after u w world' raw.step some inv.within leads;
      tickets = inv.tickets;
      each = each-but u inv.tickets c after w world' q s'
          (λ r ne. resumed-view u inv.tickets c k x count resume e stamp event r (ap (same_name r) b.here.name ∙ ne) refl refl (λ a. refl) (λ a. refl) (λ a. refl)) others now known inv.each;
      kin = kin;
      fresh = fresh-same c after w world' q b.s b.known others (part-kept (λ (y : Node). y.next_number) c.nodes k N (moved-part (λ (y : Node). y.next_number) k x.place e.node (λ t. refl))) inv.fresh;
      orphans = orphans-same inv.tickets w world' q b.s b.known others inv.orphans;
      main_ticket = inv.main_ticket;
      main_value = main_value-same u c after w world' (part-kept (λ (y : Node). y.main_value) c.nodes k N (moved-part (λ (y : Node). y.main_value) k x.place e.node (λ t. refl)))
          (value_by world' main_name ∙ ap result_by (relatives-joined main_name)
          ∙ promise-joined inv.tickets (results_in c) (results_in after) (returns_in c) (relatives_in w) inv.kin q me d mine all (Some main_name) ∙ sym (value_by w main_name)) inv.main_value;
    };
  }
    where
      left : (f : ℕ) → children_after (Sync d) (λ g. length (children_at g b.s.children)) f ≡ length (children_at f (without_depth d b.s.children))
      left f = by (f == d) refl
        where
          by : (t : Bool) → (f == d) ≡ t → (if t then 0 else length (children_at f b.s.children)) ≡ length (children_at f (without_depth d b.s.children))
          by true h = sym (ap length (ap (λ g. children_at g (without_depth d b.s.children)) (eqb-true _ _ h) ∙ none_at d b.s.children))
          by false h = sym (ap length (others_at d f b.s.children h))

      known : Known u inv.tickets (view after q) q (Some s')
      known = resumed-known u inv.tickets c k x count resume e stamp event q b.s s' b.here i.how refl (λ a. refl) (λ a. refl) (λ a. refl) (record {
        status = refl;
        home = refl;
        place = refl;
        pending = λ a. sym (append-nil (b.s.pending a));
        late = refl;
        state = answered_is u.code sound b.s s' state (Sync d) resume e.answer is_due is_next b.is refl refl refl left;
      })
