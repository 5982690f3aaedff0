-- In a run strands stand at the nodelets that there are, and have nothing pending anywhere else.
use Rattle.std.proofs.Common.{◌≡◌, ◌≢◌, ℕ, zero, suc, ◌<◌, ◌≤◌, List, [], ◌∷◌, ◌++◌, Option, Some, None, refl, sym, ap, ◌∙◌, subst, arith, Bool, true, false, ⊎_elim, ℤ, IsTrue}
use Rattle.std.specs.Prelude.{if◌then◌else◌, ◌==◌, ◌&&◌, not, nat_lt, option_and_then, IfSome}
use Rattle.std.specs.Option.{option_or, option_map}
use Rattle.std.specs.List.{list_all}
use Rattle.std.proofs.lemmas.List.Folds.{list_all-append}
use Rattle.word_ops.specs.Report.{below}
use Rattle.std.proofs.lemmas.Bool.{eqb-true}
use Rattle.std.proofs.lemmas.Bool.Decides.{eqb_tells, nat_tests}
use Rattle.word_ops.specs.declared.name.Name.{Name}
use Rattle.word_ops.specs.declared.place.Pos.{Pos}
use Rattle.word_ops.specs.declared.step.Step.{Step}
use Rattle.word_ops.specs.declared.step.Step.TheVariants.{Act, Apply}
use Rattle.word_ops.specs.declared.ending.TrapKind.{TrapKind}
use Rattle.word_ops.specs.declared.ending.TrapKind.TheVariants.{BadAddress, OutOfBounds}
use Rattle.word_ops.specs.Naming.{same_name}
use Rattle.data_layout.specs.Address.{owner_of, is_valid}
use Rattle.data_layout.proofs.AddressLaws.{owner_of-below}
use Rattle.world_model.specs.Action.{Action, Turn, Load, Issue, Fetch, Init, Fence, Move, Where, Print, Alloc, Spawn, Sync, End, Trap, Striped, Blocked, Local, Replicated, Hint, pos_of}
use Rattle.world_model.specs.Sight.{Sight, is_bad, is_leaving, place_after}
use Rattle.world_model.specs.World.{Setting, Item, Strand, World, main_name, lookup, strand_of, is_granted, is_empty, is_clear, with_trap}
use Rattle.world_model.specs.Effect.{sight_of, newborn, birthplace}
use Rattle.world_model.specs.Step.{Refusal, refusal_of, refused_as_late, refused_as_outside, used_at_once, step}
use Rattle.world_model.specs.Run.{run_from, run_of, start}
use Rattle.world_model.specs.Laws.{left_by}
use Rattle.world_model.proofs.Names.{name_cases}
use Rattle.world_model.proofs.Shapes.{Shape, Born}
use Rattle.world_model.proofs.Steps.{Done, Acted, acted_by, Applied, applied_by, strand_after, strand_beside}

-- a strand stands and was born at one of n nodelets, and has nothing pending at any other
pub record Within (n : ℕ) (s : Strand) : Type 0 where
  pub home : s.home < n
  pub place : s.place < n
  pub beyond : (k : ℕ) → n ≤ k → s.pending k ≡ []

abbrev pub AllWithin : ℕ → World → Type 0
AllWithin n w = (q : Name) (s : Strand) → strand_of w q ≡ Some s → Within n s

not_bad : (n : ℕ) (a : ℤ) → not (is_valid a n) ≡ false → IsTrue (is_valid a n)
not_bad n a e = go (is_valid a n) e
  where
    go : (t : Bool) → not t ≡ false → IsTrue t
    go true f = refl
    go false f = absurd cc

-- the place after an action that is not bad
pub place_within : (n : ℕ) (s : Sight) (action : Action) → 1 ≤ n → s.here < n → s.home < n → is_bad n action ≡ false → place_after n s action < n
place_within n s Turn some here home good = here
place_within n s (Load at a) some here home good = owner_of-below a s.here n some (not_bad n a good) here
place_within n s (Issue at op a v) some here home good = here
place_within n s (Fetch at f a) some here home good = owner_of-below a s.here n some (not_bad n a good) here
place_within n s (Init at a v) some here home good = here
place_within n s Fence some here home good = here
place_within n s (Move at a) some here home good = owner_of-below a s.here n some (not_bad n a good) here
place_within n s Where some here home good = here
place_within n s (Print bytes) some here home good = some
place_within n s (Alloc (Striped c)) some here home good = some
place_within n s (Alloc (Blocked b c)) some here home good = some
place_within n s (Alloc (Local at c a)) some here home good = owner_of-below a s.here n some (not_bad n a good) here
place_within n s (Alloc (Replicated c)) some here home good = some
place_within n s (Spawn d f args hint) some here home good = here
place_within n s (Sync d) some here home good = elim (s.childless d) as (λ t. (if t then s.here else s.home) < n) [ true ↦ here | false ↦ home ]
place_within n s (End v) some here home good = here
place_within n s (Trap at kind) some here home good = here

-- an action leaves nothing pending beyond the nodelets
left_within : (u : Setting) (w : World) (s : Strand) (action : Action) (k : ℕ) → 1 ≤ u.nodelets → s.place < u.nodelets → is_bad u.nodelets action ≡ false → u.nodelets ≤ k →
    left_by u w s action k ≡ []
left_within u w s action k some here good beyond = by action good
  where
    nothing : (t b : Bool) (items : List Item) → t ≡ false → (if t && b then items else []) ≡ []
    nothing t b items e = rw e refl

    far : nat_lt k u.nodelets ≡ false
    far = grind (arith, nat_tests)

    other : (j : ℕ) → j < u.nodelets → (k == j) ≡ false
    other j below = grind (arith, eqb_tells)

    by : (action : Action) → is_bad u.nodelets action ≡ false → left_by u w s action k ≡ []
    by (Issue at op a v) good = nothing (k == owner_of a s.place u.nodelets) _ _ (other _ (owner_of-below a s.place u.nodelets some (not_bad u.nodelets a good) here))
    by (Init at a v) good = nothing (nat_lt k u.nodelets) _ _ far
    by (Alloc request) good = nothing (nat_lt k u.nodelets) _ _ far
    by Turn good = refl
    by (Load at a) good = refl
    by (Fetch at f a) good = refl
    by Fence good = refl
    by (Move at a) good = refl
    by Where good = refl
    by (Print bytes) good = refl
    by (Spawn d f args hint) good = refl
    by (Sync d) good = refl
    by (End v) good = refl
    by (Trap at kind) good = refl

-- an action that is not refused is not bad
pub good_action : (u : Setting) (w : World) (s : Strand) (action : Action) → refusal_of u w s action ≡ None → is_bad u.nodelets action ≡ false
good_action u w s action e = go (is_bad u.nodelets action) refl e
  where
    go : (t : Bool) → is_bad u.nodelets action ≡ t →
        option_or (if t then Some (record { place = s.place; kind = BadAddress; pos = pos_of action }) else None)
        (option_or (refused_as_late u w s action) (refused_as_outside u w action (used_at_once u.nodelets s.place action))) ≡ None → is_bad u.nodelets action ≡ false
    go true is f = absurd cc
    go false is f = is

-- a word that is used at once is at one of the nodelets
used_within : (n here : ℕ) (action : Action) → 1 ≤ n → here < n → is_bad n action ≡ false → IfSome (used_at_once n here action) (λ x. x.0 < n)
used_within n here (Load at a) some below good = owner_of-below a here n some (not_bad n a good) below
used_within n here (Fetch at f a) some below good = owner_of-below a here n some (not_bad n a good) below
used_within n here (Issue at op a v) some below good =
    elim (owner_of a here n == here) as (λ t. IfSome {T = ℕ × ℤ} (if t then Some (here, a) else None) (λ x. x.0 < n)) [ true ↦ below | false ↦ tt ]
used_within n here (Init at a v) some below good = below
used_within n here Turn some below good = tt
used_within n here Fence some below good = tt
used_within n here (Move at a) some below good = tt
used_within n here Where some below good = tt
used_within n here (Print bytes) some below good = tt
used_within n here (Alloc request) some below good = tt
used_within n here (Spawn d f args hint) some below good = tt
used_within n here (Sync d) some below good = tt
used_within n here (End v) some below good = tt
used_within n here (Trap at kind) some below good = tt

-- the place of a strand that traps in place of its action
refused_within : (u : Setting) (w : World) (s : Strand) (action : Action) → 1 ≤ u.nodelets → s.place < u.nodelets →
    IfSome (refusal_of u w s action) (λ r. r.place < u.nodelets)
refused_within u w s action some here = go (is_bad u.nodelets action) refl
  where
    outside : (o : Option (ℕ × ℤ)) → IfSome o (λ x. x.0 < u.nodelets) → IfSome (refused_as_outside u w action o) (λ r. r.place < u.nodelets)
    outside None below = tt
    outside (Some (k, a)) below =
        elim (is_granted u.rules w k a) as (λ t. IfSome {T = Refusal} (if t then None else Some (record { place = k; kind = OutOfBounds; pos = pos_of action })) (λ r. r.place < u.nodelets)) [ true ↦ tt | false ↦ below ]

    late : (t : Bool) (l : Option Pos) (o : Option Refusal) → IfSome o (λ r. r.place < u.nodelets) →
        IfSome {T = Refusal} (option_or (if t then option_map (λ at. record { place = s.place; kind = OutOfBounds; pos = at }) l else None) o) (λ r. r.place < u.nodelets)
    late true (Some at) o below = here
    late true None o below = below
    late false l o below = below

    go : (t : Bool) → is_bad u.nodelets action ≡ t →
        IfSome {T = Refusal} (option_or (if t then Some (record { place = s.place; kind = BadAddress; pos = pos_of action }) else None)
        (option_or (refused_as_late u w s action) (refused_as_outside u w action (used_at_once u.nodelets s.place action)))) (λ r. r.place < u.nodelets)
    go true is = here
    go false is = late (is_leaving u.nodelets (sight_of u w s) action) s.late _ (outside _ (used_within u.nodelets s.place action some here is))

-- where a child is born
born_within : (n here d function : ℕ) (args : List ℤ) (hint : Option Hint) → 1 ≤ n → here < n → is_bad n (Spawn d function args hint) ≡ false → birthplace n here hint < n
born_within n here d function args None some below good = below
born_within n here d function args (Some hint) some below good = owner_of-below hint.address here n some (not_bad n hint.address good) below

-- ---- a step

within_refused : (n : ℕ) (s : Strand) (k : ℕ) (kind : TrapKind) (at : Pos) → Within n s → k < n → Within n (with_trap s k kind at)
within_refused n s k kind at in_s below = record { home = in_s.home; place = below; beyond = in_s.beyond }

within_done : (u : Setting) (w v : World) (name : Name) (s : Strand) (action : Action) → 1 ≤ u.nodelets → Within u.nodelets s → is_bad u.nodelets action ≡ false →
    (p : Shape u w name s action v) → Within u.nodelets p.after
within_done u w v name s action some in_s good p = record {
  home = subst (λ h. h < u.nodelets) (sym p.home) in_s.home;
  place = subst (λ k. k < u.nodelets) (sym p.place) (place_within u.nodelets (sight_of u w s) action some in_s.place in_s.home good);
  beyond = λ k far. p.pending k ∙ ap (λ items. items ++ left_by u w s action k) (in_s.beyond k far) ∙ left_within u w s action k some in_s.place good far;
}

found_is : {x y : Strand} → Some x ≡ Some y → x ≡ y
found_is e = cc

act_within : (u : Setting) (w v : World) (name : Name) (child : Option Name) → 1 ≤ u.nodelets → AllWithin u.nodelets w → Acted u w name child v → AllWithin u.nodelets v
act_within u w v name child some within a q x is = ⊎_elim own beside (name_cases q name)
  where
    in_s : Within u.nodelets a.strand
    in_s = within name a.strand a.found

    own : q ≡ name → Within u.nodelets x
    own e = ⊎_elim
        (λ r. subst (λ y. Within u.nodelets y) (found_is (sym (strand_after v w name _ r.is) ∙ ap (λ m. strand_of v m) (sym e) ∙ is))
        (within_refused u.nodelets a.strand r.refusal.place r.refusal.kind r.refusal.pos in_s
        (subst (λ o. IfSome o (λ z. z.place < u.nodelets)) r.why (refused_within u w a.strand a.action some in_s.place))))
        (λ d. subst (λ y. Within u.nodelets y) (found_is (sym (strand_after v d.shape.base name d.shape.after d.shape.is) ∙ ap (λ m. strand_of v m) (sym e) ∙ is))
        (within_done u w v name a.strand a.action some in_s (good_action u w a.strand a.action d.good) d.shape))
        a.outcome

    in_base : (d : Done u w name a.strand child a.action v) → strand_of d.shape.base q ≡ Some x → Within u.nodelets x
    in_base d f = ⊎_elim
        (λ same. within q x (sym same ∙ f))
        (λ (b : Born u w a.strand a.action d.shape.base q). subst (λ y. Within u.nodelets y) (found_is (sym b.after ∙ f)) (newborn_in d b))
        (d.shape.others q)
      where
        newborn_in : (d : Done u w name a.strand child a.action v) (b : Born u w a.strand a.action d.shape.base q) →
            Within u.nodelets (newborn b.function b.args (birthplace u.nodelets a.strand.place b.hint))
        newborn_in d b =
            let below : birthplace u.nodelets a.strand.place b.hint < u.nodelets =
            born_within u.nodelets a.strand.place b.depth b.function b.args b.hint some in_s.place
            (ap (λ action. is_bad u.nodelets action) (sym b.spawn) ∙ good_action u w a.strand a.action d.good) in
            record { home = below; place = below; beyond = λ k far. refl }

    beside : (same_name q name ≡ false) × (same_name name q ≡ false) → Within u.nodelets x
    beside ne = ⊎_elim
        (λ r. within q x (sym (strand_beside v w name _ q r.is ne.0) ∙ is))
        (λ d. in_base d (sym (strand_beside v d.shape.base name d.shape.after q d.shape.is ne.0) ∙ is))
        a.outcome

apply_within : (u : Setting) (w v : World) (name : Name) (k : ℕ) → AllWithin u.nodelets w → Applied u w name k v → AllWithin u.nodelets v
apply_within u w v name k within a q x is = ⊎_elim own beside (name_cases q name)
  where
    in_s : Within u.nodelets a.strand
    in_s = within name a.strand a.found

    rest : (j : ℕ) → u.nodelets ≤ j → (t : Bool) → (j == k) ≡ t → (if t then a.items else a.strand.pending j) ≡ []
    rest j far true f = absurd (let z : a.item ∷ a.items ≡ [] = sym a.first ∙ ap a.strand.pending (sym (eqb-true _ _ f)) ∙ in_s.beyond j far in cc)
    rest j far false f = in_s.beyond j far

    after : Within u.nodelets a.after
    after = record {
      home = subst (λ h. h < u.nodelets) (sym a.home) in_s.home;
      place = subst (λ h. h < u.nodelets) (sym a.place) in_s.place;
      beyond = λ j far. ap (λ (g : ℕ → List Item). g j) a.pending ∙ rest j far (j == k) refl;
    }

    own : q ≡ name → Within u.nodelets x
    own e = subst (λ y. Within u.nodelets y) (found_is (sym (strand_after v a.base name a.after a.is) ∙ ap (λ m. strand_of v m) (sym e) ∙ is)) after

    beside : (same_name q name ≡ false) × (same_name name q ≡ false) → Within u.nodelets x
    beside ne = within q x (ap (λ es. lookup q es) (sym a.strands) ∙ sym (strand_beside v a.base name a.after q a.is ne.0) ∙ is)

pub step_within : (u : Setting) (w v : World) (t : Step) → 1 ≤ u.nodelets → AllWithin u.nodelets w → step u w t ≡ Some v → AllWithin u.nodelets v
step_within u w v (Act name child) some within e = act_within u w v name child some within (acted_by u w name child v e)
step_within u w v (Apply name k) some within e = apply_within u w v name k within (applied_by u w name k v e)

-- ---- a run

run_within : (u : Setting) (told : List Step) (w v : World) → 1 ≤ u.nodelets → AllWithin u.nodelets w → run_from u w told ≡ Some v → AllWithin u.nodelets v
run_within u [] w v some within e = subst (λ x. AllWithin u.nodelets x) (let z : w ≡ v = cc in z) within
run_within u (t ∷ told) w v some within e = go (λ x f g. run_within u told x v some f g) (step u w t) refl e
  where
    go : ((x : World) → AllWithin u.nodelets x → run_from u x told ≡ Some v → AllWithin u.nodelets v) →
        (o : Option World) → step u w t ≡ o → option_and_then (λ x. run_from u x told) o ≡ Some v → AllWithin u.nodelets v
    go ih None is f = absurd cc
    go ih (Some x) is f = ih x (step_within u w x t some within is) f

start_within : (u : Setting) → 1 ≤ u.nodelets → AllWithin u.nodelets (start u)
start_within u some q x is = go (same_name q main_name) is
  where
    first : Within u.nodelets (newborn u.meaning.main [] 0)
    first = record { home = some; place = some; beyond = λ k far. refl }

    go : (t : Bool) → (if t then Some (newborn u.meaning.main [] 0) else None) ≡ Some x → Within u.nodelets x
    go true e = subst (λ y. Within u.nodelets y) (found_is e) first
    go false e = absurd cc

pub always_within : (u : Setting) (told : List Step) (w : World) → 1 ≤ u.nodelets → run_of u told ≡ Some w → AllWithin u.nodelets w
always_within u told w some run = run_within u told (start u) w some (start_within u some) run

-- ---- clear strands

front : (a b : Bool) → (a && (b && true)) ≡ true → a ≡ true
front true b e = refl
front false b e = absurd cc

all_below : (p : ℕ → Bool) (n k : ℕ) → list_all p (below n) ≡ true → k < n → p k ≡ true
all_below p zero k all less = absurd (omega arith)
all_below p (suc n) k all less = go (λ below_n. all_below p n k (front (list_all p (below n)) (p n) (sym (list_all-append p (below n) (n ∷ [])) ∙ all)) below_n) (k == n) refl
  where
    both : (list_all p (below n) && (p n && true)) ≡ true
    both = sym (list_all-append p (below n) (n ∷ [])) ∙ all

    last : (a b : Bool) → (a && (b && true)) ≡ true → b ≡ true
    last true true e = refl
    last true false e = absurd cc
    last false b e = absurd cc

    differs : (k == n) ≡ false → k ≢ n
    differs f = grind (arith, eqb_tells)

    go : (k < n → p k ≡ true) → (t : Bool) → (k == n) ≡ t → p k ≡ true
    go ih true f = ap p (eqb-true _ _ f) ∙ last (list_all p (below n)) (p n) both
    go ih false f = ih (let d : k ≢ n = differs f in omega arith)

pub clear_means_nothing_pending : (u : Setting) (told : List Step) (w : World) (q : Name) (s : Strand) → 1 ≤ u.nodelets → run_of u told ≡ Some w → strand_of w q ≡ Some s →
    is_clear u.nodelets s ≡ true → (k : ℕ) → s.pending k ≡ []
clear_means_nothing_pending u told w q s some run is clear k = go (nat_lt k u.nodelets) refl
  where
    within : Within u.nodelets s
    within = always_within u told w some run q s is

    empty : (items : List Item) → is_empty items ≡ true → items ≡ []
    empty [] e = refl
    empty (item ∷ items) e = absurd cc

    go : (t : Bool) → nat_lt k u.nodelets ≡ t → s.pending k ≡ []
    go true f = empty (s.pending k) (all_below (λ j. is_empty (s.pending j)) u.nodelets k clear (grind (arith, nat_tests)))
    go false f = within.beyond k (grind (arith, nat_tests))
