-- What a late strand may still do, and which of several refusals counts, computed under the checked rules.
use Rattle.std.proofs.Common.{◌≡◌, ℕ, ◌+◌, List, [], ◌∷◌, ◌++◌, refl, Option, Some, None, ℤ, pos, map}
use Rattle.std.specs.Prelude.{replicate}
use Rattle.word_ops.specs.declared.place.Pos.{Pos}
use Rattle.word_ops.specs.declared.name.Name.{Name}
use Rattle.word_ops.specs.declared.step.Step.{Step}
use Rattle.word_ops.specs.declared.ending.TrapKind.TheVariants as trap
use Rattle.mem_atomics.specs.declared.op.Op.TheVariants.{Store}
use Rattle.mem_atomics.specs.declared.fetch_op.FetchOp.TheVariants as fetch
use Rattle.world_model.specs.Action.{Action, Turn, Load, Issue, Fetch, Move, Where, Alloc, Spawn, Sync, Striped, Local}
use Rattle.world_model.specs.Meaning.{Meaning, Acts, make}
use Rattle.world_model.specs.World.{World, Status, Live, Trapped}
use Rattle.world_model.specs.Step.{late_after}
use Rattle.world_model.specs.Run.{run_of}
use Rattle.world_model.proofs.Samples.{at, name, main, ends, program, alone, checked, act, acts, spawn, apply, apply_at, status_of, place_of}

abbrev element : ℕ → ℤ
element i = pos (8 + i)

abbrev child : Name
child = name 0 1

abbrev then_ends : Action → Acts
then_ends action = make action (λ _. ends (pos 0))

-- eight words are allocated, and all nodelets know of them
abbrev allocates : Acts → Acts
allocates next = make (Alloc (Striped (pos 8))) (λ _. next)

abbrev allocated : List Step
allocated = act main ∷ apply_at main (1 ∷ 2 ∷ 3 ∷ 4 ∷ 5 ∷ 6 ∷ 7 ∷ [])

abbrev strays : ℕ → Acts → Acts
strays i next = make (Issue (at 45) Store (element i) (pos 1)) (λ _. next)

-- ---- clear and late, at nodelet 0

abbrev late_then : Action → Meaning
late_then action = alone (allocates (strays 9 (then_ends action)))

abbrev late : List Step
late = allocated ++ act main ∷ apply main 1 ∷ []

abbrev after_late : Action → Option World
after_late action = run_of (checked (late_then action)) (late ++ act main ∷ [])

abbrev status_late : Action → Option Status
status_late action = status_of main (after_late action)

a_late_strand_traps_before_it_spawns : status_late (Spawn 1 1 [] None) ≡ Some (Trapped trap.OutOfBounds (at 45))
a_late_strand_traps_before_it_spawns = refl

and_has_no_child : run_of (checked (late_then (Spawn 1 1 [] None))) (late ++ spawn main child ∷ []) ≡ None
and_has_no_child = refl

abbrev leaving : List Action
leaving = Load (at 60) (element 2) ∷ Fetch (at 60) (fetch.Add (pos 1)) (element 2) ∷ Move (at 60) (element 2) ∷ Alloc (Local (at 60) (pos 1) (element 2)) ∷ []

and_before_it_changes_its_place : map status_late leaving ≡ replicate 4 (Some (Trapped trap.OutOfBounds (at 45)))
and_before_it_changes_its_place = refl

where_it_is : map (λ action. place_of main (after_late action)) leaving ≡ replicate 4 (Some 0)
where_it_is = refl

it_goes_on_with_all_else : map status_late (Turn ∷ Load (at 60) (element 0) ∷ Fetch (at 60) (fetch.Add (pos 1)) (element 0) ∷ Issue (at 60) Store (element 2) (pos 1) ∷ Move (at 60) (element 0) ∷ Where ∷ Alloc (Striped (pos 8)) ∷ Sync 1 ∷ []) ≡ replicate 8 (Some Live)
it_goes_on_with_all_else = refl

-- ---- which refusal counts

abbrev bad : ℤ
bad = pos 43980465111040

a_bad_address_counts_before_lateness : map status_late (Load (at 60) bad ∷ Move (at 60) bad ∷ Spawn 1 1 [] (Some (record { pos = at 60; address = bad })) ∷ []) ≡ replicate 3 (Some (Trapped trap.BadAddress (at 60)))
a_bad_address_counts_before_lateness = refl

lateness_counts_before_a_word_outside : map status_late (Load (at 60) (element 10) ∷ Fetch (at 60) (fetch.Add (pos 1)) (element 10) ∷ []) ≡ replicate 2 (Some (Trapped trap.OutOfBounds (at 45)))
lateness_counts_before_a_word_outside = refl

and_traps_the_strand_where_it_is : place_of main (after_late (Load (at 60) (element 10))) ≡ Some 0
and_traps_the_strand_where_it_is = refl

a_word_outside_at_the_place_counts : status_late (Load (at 60) (element 8)) ≡ Some (Trapped trap.OutOfBounds (at 60))
a_word_outside_at_the_place_counts = refl

a_fetch_outside_traps_at_the_owner : place_of main (run_of (checked (alone (then_ends (Fetch (at 60) (fetch.Add (pos 1)) (element 3))))) (act main ∷ [])) ≡ Some 3
a_fetch_outside_traps_at_the_owner = refl

-- ---- which late position counts

abbrev on_line : ℕ → ℕ → Pos
on_line line column = record { line = line; column = column }

lines_are_compared_before_columns : late_after (Some (on_line 1 45)) (on_line 2 30) ≡ on_line 1 45
lines_are_compared_before_columns = refl

also_where_the_lesser_line_is_the_new_one : late_after (Some (on_line 2 30)) (on_line 1 45) ≡ on_line 1 45
also_where_the_lesser_line_is_the_new_one = refl

-- ---- a late strand's sync

abbrev sync_at_home : Meaning
sync_at_home = program (allocates (make (Spawn 1 1 [] None) (λ _. strays 9 (then_ends (Sync 1))))) (λ _. ends (pos 0))

abbrev late_at_home : List Step
late_at_home = allocated ++ spawn main child ∷ act main ∷ apply main 1 ∷ []

at_home_it_waits_for_the_child : run_of (checked sync_at_home) (late_at_home ++ act main ∷ []) ≡ None
at_home_it_waits_for_the_child = refl

and_then_joins_it : status_of main (run_of (checked sync_at_home) (late_at_home ++ act child ∷ act main ∷ [])) ≡ Some Live
and_then_joins_it = refl

-- at nodelet 1, with stores outside at nodelets 2 and 3
abbrev sync_away : Meaning
sync_away = program (allocates (make (Spawn 1 1 [] None) (λ _. make (Move (at 1) (element 1)) (λ _. strays 10 (strays 11 (then_ends (Sync 1))))))) (λ _. ends (pos 0))

abbrev late_away : List Step
late_away = allocated ++ spawn main child ∷ acts 3 main ++ apply main 2 ∷ []

away_it_waits_for_all_its_stores : run_of (checked sync_away) (late_away ++ act main ∷ []) ≡ None
away_it_waits_for_all_its_stores = refl

though_the_child_has_ended : run_of (checked sync_away) (late_away ++ act child ∷ act main ∷ []) ≡ None
though_the_child_has_ended = refl

and_then_traps_there : place_of main (run_of (checked sync_away) (late_away ++ apply main 3 ∷ act main ∷ [])) ≡ Some 1
and_then_traps_there = refl
