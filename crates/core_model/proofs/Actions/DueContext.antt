-- A context at a nodelet that stands before its action, as the world sees it.
use Rattle.std.proofs.Common.{◌≡◌, ℕ, zero, suc, ◌<◌, inl, List, [], ◌∷◌, length, Option, Some, None, refl, sym, ap, ◌∙◌, subst, arith, Bool, true, false, ◌&&◌, ⊎_elim, ℤ, is_some, option_and_then}
use Rattle.std.specs.Prelude.{◌==◌, slice_get}
use Rattle.std.specs.List.{list_all}
use Rattle.std.proofs.lemmas.Bool.{eqb-true}
use Rattle.std.proofs.lemmas.Bool.Decides.{eqb_tells}
use Rattle.std.proofs.lemmas.List.Folds.{list_all-append}
use Rattle.word_ops.specs.Report.{below}
use Rattle.word_ops.specs.declared.name.Name.{Name}
use Rattle.word_ops.specs.declared.ticket.Ticket.{Ticket}
use Rattle.world_model.specs.Action.{Action}
use Rattle.world_model.specs.Sight.{Sight, place_after}
use Rattle.world_model.specs.World.{value_in, Strand, World, is_empty, is_clear, strand_of, value_of, children_at}
use Rattle.world_model.specs.Effect.{sight_of}
use Rattle.world_model.specs.Step as world
use Rattle.world_model.specs.Step.{Refusal, done_by, refusal_of, refused_as_late, refused_as_bad, refused_as_outside, used_at_once, step}
use Rattle.threadlet_code.specs.Breaches.{is_sound}
use Rattle.threadlet_code.specs.Machine.{State}
use Rattle.threadlet_code.specs.Running.{due, owed}
use Rattle.core_model.specs.Contexts.{Context}
use Rattle.core_model.specs.Nodes.{Setup, Node}
use Rattle.core_model.specs.Runs.{action_in, sight_at, are_recorded}
use Rattle.core_model.specs.Core.{Core, setting_of}
use Rattle.core_model.proofs.Invariant.LatePositions.{all_lates-none}
use Rattle.core_model.proofs.Invariant.Views.{view}
use Rattle.core_model.proofs.Invariant.StrandStates.{IsStateOf, due_is}
use Rattle.core_model.proofs.Invariant.Statement.{Relative, relative, result_by, promise, IsGiven, Results, Returns, Kin, IsAway, relatives_in, results_in, returns_in, Invariant}
use Rattle.core_model.proofs.Invariant.StandingStrand.{Stands, Quiet, quiet}
use Rattle.core_model.proofs.Actions.Sights.{Sees}

-- the strand of a context that stands at nodelet k before an action, with its silent instructions done
pub record Before (u : Setup) (c : Core) (w : World) (inv : Invariant u c w) (k : ℕ) (q : Name) (x : Context) (state : State) (action : Action) : Type 0 where
  pub s : Strand
  pub known : strand_of w q ≡ Some s
  pub here : Stands u inv.tickets (view c q) q s k x
  pub inside : k < u.nodelets
  pub is : IsStateOf u.code s state
  pub same : due u.code state ≡ due u.code x.state
  pub next : action_in (due u.code state) ≡ Some action

-- ---- lists of what is recorded

pub all_below : (p : ℕ → Bool) (n k : ℕ) → list_all p (below n) ≡ true → k < n → p k ≡ true
all_below p zero k all less = absurd (omega arith)
all_below p (suc n) k all less = go (λ h. all_below p n k (front (list_all p (below n)) (p n) both) h) (k == n) refl
  where
    both : (list_all p (below n) && (p n && true)) ≡ true
    both = sym (list_all-append p (below n) (n ∷ [])) ∙ all

    front : (a b : Bool) → (a && (b && true)) ≡ true → a ≡ true
    front true b e = refl
    front false b e = absurd cc

    last : (a b : Bool) → (a && (b && true)) ≡ true → b ≡ true
    last true true e = refl
    last true false e = absurd cc
    last false b e = absurd cc

    go : (k < n → p k ≡ true) → (t : Bool) → (k == n) ≡ t → p k ≡ true
    go ih true f = ap p (eqb-true _ _ f) ∙ last (list_all p (below n)) (p n) both
    go ih false f = ih (grind (arith, eqb_tells))

pub all_below_from : (p : ℕ → Bool) (n : ℕ) → ((k : ℕ) → p k ≡ true) → list_all p (below n) ≡ true
all_below_from p zero h = refl
all_below_from p (suc n) h = list_all-append p (below n) (n ∷ []) ∙ rw (all_below_from p n h, h n) refl

all_from_places : {A : Type 0} (p : A → Bool) (l : List A) → ((i : ℕ) (x : A) → slice_get l i ≡ Some x → i < length l → p x ≡ true) → list_all p l ≡ true
all_from_places p [] h = refl
all_from_places p (x ∷ xs) h =
    let first : p x ≡ true = h 0 x refl (omega arith) in
    let rest : list_all p xs ≡ true = all_from_places p xs (λ i y e less. h (suc i) y e (omega arith)) in
    rw (first, rest) refl

-- children whose results are all kept at the parent's home have all ended
pub kept_ended : (T : Name → Option Ticket) (R : Results) (D : Returns) (F : Name → Option Relative) → Kin T R D F → (p : Name) (r : Relative) → F p ≡ Some r → (d : ℕ) →
    list_all (λ o. is_some (R r.home p d o)) (below (length (children_at d r.children))) ≡ true → list_all (λ child. is_some (result_by (F child))) (children_at d r.children) ≡ true
kept_ended T R D F kin p r is d all = all_from_places (λ child. is_some (result_by (F child))) (children_at d r.children) (λ i child at less. one i child at (all_below (λ o. is_some (R r.home p d o)) _ i all less))
  where
    one : (i : ℕ) (child : Name) → slice_get (children_at d r.children) i ≡ Some child → is_some (R r.home p d i) ≡ true → is_some (result_by (F child)) ≡ true
    one i child at kept = by (result_by (F child)) refl (subst (λ (y : Option Name). IsGiven (R r.home p d i) (λ a. D a r.home p d i) (promise F y)) at (kin.given p r is d i))
      where
        by : (y : Option ℤ) → result_by (F child) ≡ y → IsGiven (R r.home p d i) (λ a. D a r.home p d i) y → is_some y ≡ true
        by (Some value) e g = refl
        by None e g = absurd (let z : true ≡ false = sym kept ∙ ap is_some g.0 in cc)

empty_same : (o : ℕ) (l : List Name) → o ≡ length l → (o == 0) ≡ is_empty l
empty_same o [] e = rw e refl
empty_same o (child ∷ l) e = grind (arith, eqb_tells)

all-same : {A : Type 0} (p r : A → Bool) (l : List A) → ((x : A) → p x ≡ r x) → list_all p l ≡ list_all r l
all-same p r [] h = refl
all-same p r (x ∷ xs) h = rw (h x, all-same p r xs h) refl

-- ---- the two sights

module _ (u : Setup) (sound : is_sound u.code ≡ true) (c : Core) (w : World) (inv : Invariant u c w) (k : ℕ) (q : Name) (x : Context) (state : State) (action : Action) (b : Before u c w inv k q x state action) where
  abbrev v : Node
  v = c.nodes k

  abbrev pub seen_here : Sight
  seen_here = sight_at k v x state

  abbrev pub seen : Sight
  seen = sight_of (setting_of u) w b.s

  pub is_due : world.due (setting_of u) b.s ≡ Some action
  is_due = due_is u sound b.s state action b.is b.here.live b.next

  -- what is meant where its context is elsewhere than its strand's place
  pub away_action : (away : IsAway u (view c q) b.s x k) → away.action ≡ action
  away_action away = let both : Some away.action ≡ Some action = sym away.next ∙ ap action_in (sym b.same) ∙ b.next in cc

  -- an action that stays in every place stands where its strand is
  pub settled : ((y : Sight) → place_after u.nodelets y action ≡ y.here) → b.s.place ≡ k
  settled stays = ⊎_elim (λ f. f) (λ away. by away (away_action away)) b.here.bound
    where
      y : Sight
      y = record { here = b.s.place; home = b.s.home; clear = true; served = 0; childless = λ d. false; all_ended = λ d. false; late = None }

      by : (away : IsAway u (view c q) b.s x k) → away.action ≡ action → b.s.place ≡ k
      by away same = sym (ap (place_after u.nodelets y) same ∙ stays y) ∙ away.goes y refl (inl refl) (λ d f. refl)

  pub none_under_way : b.s.place ≡ k → (v.under_way x.name == 0) ≡ true → (view c q).under_way b.s.place ≡ 0
  none_under_way here z = ap (λ j. (c.nodes j).under_way q) here ∙ ap v.under_way (sym b.here.name) ∙ eqb-true _ _ z

  pub still : (view c q).under_way b.s.place ≡ 0 → Quiet (view c q) b.s.pending
  still z = quiet u.nodelets (view c q) b.s.place b.s.pending b.here.parcels z

  pub world_clear : (view c q).under_way b.s.place ≡ 0 → is_clear u.nodelets b.s ≡ true
  world_clear z = all_below_from (λ j. is_empty (b.s.pending j)) u.nodelets (λ j. ap is_empty ((still z).pending_none j))

  pub same_late : (view c q).under_way b.s.place ≡ 0 → x.late ≡ b.s.late
  same_late z = sym (b.here.late ∙ all_lates-none u.nodelets _ x.late (λ o. (still z).acks o b.s.place))

  pub childless_same : (d : ℕ) → (owed d state == 0) ≡ is_empty (children_at d b.s.children)
  childless_same d = empty_same _ _ (b.is.owes d)

  value-relative : (child : Name) → is_some (result_by (relatives_in w child)) ≡ is_some (value_of w child)
  value-relative child = go (strand_of w child)
    where
      go : (o : Option Strand) → is_some (result_by (relative o)) ≡ is_some (option_and_then (λ s. value_in s.status) o)
      go None = refl
      go (Some s) = refl

  pub all_ended_same : k ≡ x.home → (d : ℕ) → are_recorded v x.name d (owed d state) ≡ true → list_all (λ child. is_some (value_of w child)) (children_at d b.s.children) ≡ true
  all_ended_same at_home d all =
      sym (all-same _ _ (children_at d b.s.children) value-relative)
      ∙ kept_ended inv.tickets (results_in c) (returns_in c) (relatives_in w) inv.kin q _ (ap relative b.known) d
      (ap (λ h. list_all (λ o. is_some ((c.nodes h).results q d o)) (below (length (children_at d b.s.children)))) (sym (at_home ∙ b.here.home))
      ∙ ap (λ m. list_all (λ o. is_some (v.results q d o)) (below m)) (sym (b.is.owes d))
      ∙ ap (λ r. list_all (λ o. is_some (v.results r d o)) (below (owed d state))) (sym b.here.name)
      ∙ all)

  pub sees : b.s.place ≡ k → Sees seen_here seen
  sees here = record {
    here = sym here;
    home = b.here.home;
    served = inv.shares.turns k b.inside ∙ ap w.turns (sym here);
    clear = λ z. world_clear (none_under_way here z);
    childless = childless_same;
    ended = λ at_home d all. all_ended_same at_home d all;
    late = λ z. same_late (none_under_way here z);
  }
