-- Accesses outside what was granted, computed under both rules.
use Rattle.std.proofs.Common.{◌≡◌, ℕ, ◌+◌, List, [], ◌∷◌, ◌++◌, refl, Some, None, ℤ, pos}
use Rattle.word_ops.specs.declared.name.Name.{Name}
use Rattle.word_ops.specs.declared.step.Step.{Step}
use Rattle.word_ops.specs.declared.ending.End.TheVariants as ending
use Rattle.word_ops.specs.declared.ending.TrapKind.TheVariants as trap
use Rattle.mem_atomics.specs.declared.op.Op.TheVariants.{Store}
use Rattle.mem_atomics.specs.declared.fetch_op.FetchOp.TheVariants as fetch
use Rattle.world_model.specs.Action.{Action, Turn, Alloc, Striped, Issue, Load, Fetch, Init, Fence, Move, Print, Spawn, Sync, Trap}
use Rattle.world_model.specs.Meaning.{Meaning, Acts, make, word_of}
use Rattle.world_model.specs.World.{Trapped, Live}
use Rattle.world_model.specs.Run.{run_of, end_of}
use Rattle.world_model.proofs.Samples.{at, name, main, ends, program, alone, loose, checked, act, acts, spawn, apply, apply_at, status_of, place_of, late_of, word_at, with_replicated, pieces_of}

-- ---- words that nobody has allocated

abbrev reads_16 : Meaning
reads_16 = alone (make Turn (λ _. make (Load (at 1) (pos 16)) (λ r. ends (word_of r))))

a_load_outside_traps_at_once : end_of (checked reads_16) (acts 2 main) [] ≡ Some (ending.Trap trap.OutOfBounds (at 1) main)
a_load_outside_traps_at_once = refl

and_loosely_it_reads_0 : end_of (loose reads_16) (acts 3 main) [] ≡ Some (ending.Done (pos 0))
and_loosely_it_reads_0 = refl

-- ---- behind an allocation of eight words, which is granted at nodelet 0 at once and at the others later

abbrev allocating : Acts → Meaning
allocating next = alone (make Turn (λ _. make (Alloc (Striped (pos 8))) (λ _. next)))

abbrev element : ℕ → ℤ
element i = pos (8 + i)

abbrev elsewhere : List ℕ
elsewhere = 1 ∷ 2 ∷ 3 ∷ 4 ∷ 5 ∷ 6 ∷ 7 ∷ []

abbrev then_ends : Action → Acts
then_ends action = make action (λ r. ends (word_of r))

a_load_behind_the_last_word_traps : end_of (checked (allocating (then_ends (Load (at 52) (element 8))))) (acts 3 main) [] ≡ Some (ending.Trap trap.OutOfBounds (at 52) main)
a_load_behind_the_last_word_traps = refl

a_load_of_the_last_word_does_not : end_of (checked (allocating (then_ends (Load (at 52) (element 7))))) (acts 2 main ++ apply_at main elsewhere ++ acts 2 main) [] ≡ Some (ending.Done (pos 0))
a_load_of_the_last_word_does_not = refl

a_load_elsewhere_waits_for_the_grants : run_of (checked (allocating (then_ends (Load (at 52) (element 7))))) (acts 3 main) ≡ None
a_load_elsewhere_waits_for_the_grants = refl

-- a load outside at another nodelet
abbrev far_load : Meaning
far_load = allocating (then_ends (Load (at 52) (element 9)))

it_traps_at_the_owner : status_of main (run_of (checked far_load) (acts 2 main ++ apply_at main elsewhere ++ act main ∷ [])) ≡ Some (Trapped trap.OutOfBounds (at 52))
it_traps_at_the_owner = refl

where_the_strand_then_is : place_of main (run_of (checked far_load) (acts 2 main ++ apply_at main elsewhere ++ act main ∷ [])) ≡ Some 1
where_the_strand_then_is = refl

a_fetch_outside_leaves_the_word :
    word_at 1 (element 9) (run_of (checked (allocating (then_ends (Fetch (at 52) (fetch.Add (pos 1)) (element 9))))) (acts 2 main ++ apply_at main elsewhere ++ act main ∷ [])) ≡ Some (pos 0)
a_fetch_outside_leaves_the_word = refl

a_store_outside_at_the_place_traps_at_once : end_of (checked (allocating (then_ends (Issue (at 45) Store (element 8) (pos 1))))) (acts 3 main) [] ≡ Some (ending.Trap trap.OutOfBounds (at 45) main)
a_store_outside_at_the_place_traps_at_once = refl

an_init_outside_traps_at_once : end_of (checked (with_replicated 1 (alone (then_ends (Init (at 3) (pos 34084860461057) (pos 9)))))) (act main ∷ []) [] ≡ Some (ending.Trap trap.OutOfBounds (at 3) main)
an_init_outside_traps_at_once = refl

-- ---- a store outside at another nodelet is refused there, and its strand is late

abbrev far_store : Acts → Meaning
far_store next = allocating (make (Issue (at 45) Store (element 9) (pos 1)) (λ _. next))

abbrev refused : List Step
refused = acts 3 main ++ apply_at main (1 ∷ 1 ∷ [])

abbrev prints : Meaning
prints = far_store (make (Print (55 ∷ [])) (λ _. ends (pos 0)))

a_refused_store_traps_nobody : status_of main (run_of (checked prints) refused) ≡ Some Live
a_refused_store_traps_nobody = refl

it_makes_its_strand_late : late_of main (run_of (checked prints) refused) ≡ Some (Some (at 45))
it_makes_its_strand_late = refl

and_leaves_the_word : word_at 1 (element 9) (run_of (checked prints) refused) ≡ Some (pos 0)
and_leaves_the_word = refl

a_late_strand_goes_on_where_it_is : pieces_of (run_of (checked prints) (refused ++ act main ∷ [])) ≡ Some ((55 ∷ []) ∷ [])
a_late_strand_goes_on_where_it_is = refl

and_traps_at_its_end : end_of (checked prints) (refused ++ act main ∷ apply_at main (2 ∷ 3 ∷ 4 ∷ 5 ∷ 6 ∷ 7 ∷ []) ++ act main ∷ []) [] ≡ Some (ending.Trap trap.OutOfBounds (at 45) main)
and_traps_at_its_end = refl

once_it_is_clear : run_of (checked prints) (refused ++ acts 2 main) ≡ None
once_it_is_clear = refl

or_at_a_fence : end_of (checked (far_store (then_ends Fence))) (refused ++ apply_at main (2 ∷ 3 ∷ 4 ∷ 5 ∷ 6 ∷ 7 ∷ []) ++ act main ∷ []) [] ≡ Some (ending.Trap trap.OutOfBounds (at 45) main)
or_at_a_fence = refl

or_before_it_moves :
    place_of main (run_of (checked (far_store (then_ends (Move (at 50) (element 2))))) (refused ++ apply_at main (2 ∷ 3 ∷ 4 ∷ 5 ∷ 6 ∷ 7 ∷ []) ++ act main ∷ [])) ≡ Some 0
or_before_it_moves = refl

loosely_the_store_is_done : end_of (loose (far_store (then_ends Fence))) (acts 3 main ++ apply main 1 ∷ acts 2 main) [] ≡ Some (ending.Done (pos 0))
loosely_the_store_is_done = refl

what_is_pending_first_is_the_grant : late_of main (run_of (checked (far_store (then_ends Fence))) (acts 3 main ++ apply main 1 ∷ [])) ≡ Some None
what_is_pending_first_is_the_grant = refl

a_late_strand's_own_trap_keeps_its_kind : end_of (checked (far_store (λ _. Trap (at 60) trap.Divide ∷ []))) (refused ++ act main ∷ []) [] ≡ Some (ending.Trap trap.Divide (at 60) main)
a_late_strand's_own_trap_keeps_its_kind = refl

-- ---- of two refused stores the lesser place is late

abbrev two_stores : Meaning
two_stores = far_store (make (Issue (at 30) Store (element 10) (pos 1)) (λ _. then_ends Fence))

the_first_is_late : late_of main (run_of (checked two_stores) (acts 4 main ++ apply_at main (1 ∷ 1 ∷ []))) ≡ Some (Some (at 45))
the_first_is_late = refl

then_the_second : late_of main (run_of (checked two_stores) (acts 4 main ++ apply_at main (1 ∷ 1 ∷ 2 ∷ 2 ∷ []))) ≡ Some (Some (at 30))
then_the_second = refl

in_whatever_order : late_of main (run_of (checked two_stores) (acts 4 main ++ apply_at main (2 ∷ 2 ∷ 1 ∷ 1 ∷ []))) ≡ Some (Some (at 30))
in_whatever_order = refl

-- ---- a late strand away from home does not wait for its children

abbrev child : Name
child = name 0 1

abbrev late_sync : Meaning
late_sync = program
    (make Turn (λ _. make (Alloc (Striped (pos 8))) (λ _. make (Spawn 1 1 [] None) (λ _. make (Move (at 80) (element 1)) (λ _.
    make (Issue (at 94) Store (element 10) (pos 1)) (λ _. make (Sync 1) (λ _. ends (pos 0))))))))
    (λ _. then_ends Turn)

abbrev away : List Step
away = acts 2 main ++ apply_at main elsewhere ++ spawn main child ∷ acts 2 main

a_late_sync_traps_before_the_child_has_ended : end_of (checked late_sync) (away ++ apply main 2 ∷ act main ∷ []) [] ≡ Some (ending.Trap trap.OutOfBounds (at 94) main)
a_late_sync_traps_before_the_child_has_ended = refl

and_after_it_has : end_of (checked late_sync) (away ++ acts 2 child ++ apply main 2 ∷ act main ∷ []) [] ≡ Some (ending.Trap trap.OutOfBounds (at 94) main)
and_after_it_has = refl

it_waits_for_its_store : run_of (checked late_sync) (away ++ act main ∷ []) ≡ None
it_waits_for_its_store = refl
