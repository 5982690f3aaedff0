-- Which actions wait for what their strand has pending, and which do not, computed.
use Rattle.std.proofs.Common.{◌≡◌, ℕ, ◌+◌, List, [], ◌∷◌, ◌++◌, refl, Option, Some, None, ℤ, pos, map}
use Rattle.std.specs.Prelude.{replicate}
use Rattle.word_ops.specs.declared.name.Name.{Name}
use Rattle.word_ops.specs.declared.step.Step.{Step}
use Rattle.word_ops.specs.declared.ending.TrapKind.TheVariants as trap
use Rattle.mem_atomics.specs.declared.op.Op.TheVariants.{Store}
use Rattle.mem_atomics.specs.declared.fetch_op.FetchOp.TheVariants as fetch
use Rattle.world_model.specs.Action.{Action, Turn, Load, Issue, Fetch, Init, Move, Where, Print, Alloc, Spawn, Sync, Trap, Striped, Local}
use Rattle.world_model.specs.Meaning.{Meaning, Acts, make}
use Rattle.world_model.specs.World.{Status, Live, Trapped}
use Rattle.world_model.specs.Run.{run_of}
use Rattle.world_model.proofs.Samples.{at, name, main, ends, program, alone, loose, act, acts, spawn, apply, status_of, place_of}

abbrev element : ℕ → ℤ
element i = pos (8 + i)

abbrev child : Name
child = name 0 1

abbrev then_ends : Action → Acts
then_ends action = make action (λ _. ends (pos 0))

-- ---- at nodelet 0, with a store pending at nodelet 2

abbrev stores_and : Acts → Acts
stores_and next = make (Issue (at 1) Store (element 2) (pos 1)) (λ _. next)

abbrev behind_a_store : Action → Meaning
behind_a_store action = alone (stores_and (then_ends action))

abbrev status_behind : Action → Option Status
status_behind action = status_of main (run_of (loose (behind_a_store action)) (acts 2 main))

these_wait : map status_behind (Load (at 9) (element 3) ∷ Fetch (at 9) (fetch.Add (pos 1)) (element 3) ∷ Move (at 9) (element 3) ∷ Alloc (Local (at 9) (pos 1) (element 3)) ∷ []) ≡ replicate 4 None
these_wait = refl

these_do_not : map status_behind (Turn ∷ Load (at 9) (element 0) ∷ Fetch (at 9) (fetch.Add (pos 1)) (element 0) ∷ Issue (at 9) Store (element 3) (pos 2)
    ∷ Init (at 9) (pos 34084860461056) (pos 2) ∷ Move (at 9) (element 0) ∷ Where ∷ Print [] ∷ Alloc (Striped (pos 8)) ∷ Sync 1 ∷ []) ≡ replicate 10 (Some Live)
these_do_not = refl

a_trap_does_not_wait : status_behind (Trap (at 9) trap.Divide) ≡ Some (Trapped trap.Divide (at 9))
a_trap_does_not_wait = refl

a_spawn_waits : run_of (loose (behind_a_store (Spawn 1 1 [] None))) (act main ∷ spawn main child ∷ []) ≡ None
a_spawn_waits = refl

once_the_store_is_applied_it_does_not : status_of child (run_of (loose (behind_a_store (Spawn 1 1 [] None))) (act main ∷ apply main 2 ∷ spawn main child ∷ [])) ≡ Some Live
once_the_store_is_applied_it_does_not = refl

-- view 40 has no nodelet of eight
abbrev bad : ℤ
bad = pos 43980465111040

no_bad_action_waits : map status_behind (Load (at 9) bad ∷ Issue (at 9) Store bad (pos 1) ∷ Fetch (at 9) (fetch.Add (pos 1)) bad ∷ Init (at 9) bad (pos 1)
    ∷ Move (at 9) bad ∷ Alloc (Local (at 9) (pos 1) bad) ∷ Spawn 1 1 [] (Some (record { pos = at 9; address = bad })) ∷ []) ≡ replicate 7 (Some (Trapped trap.BadAddress (at 9)))
no_bad_action_waits = refl

-- ---- at nodelet 1, with a store pending at nodelet 2

abbrev away : Action → Meaning
away action = alone (make (Move (at 1) (element 1)) (λ _. stores_and (then_ends action)))

abbrev place_away : List Step → Action → Option ℕ
place_away told action = place_of main (run_of (loose (away action)) told)

what_nodelet_0_does_waits_there : map (place_away (acts 3 main)) (Print [] ∷ Alloc (Striped (pos 8)) ∷ []) ≡ None ∷ None ∷ []
what_nodelet_0_does_waits_there = refl

and_then_goes_to_nodelet_0 : map (place_away (acts 2 main ++ apply main 2 ∷ act main ∷ [])) (Print [] ∷ Alloc (Striped (pos 8)) ∷ []) ≡ Some 0 ∷ Some 0 ∷ []
and_then_goes_to_nodelet_0 = refl

a_sync_without_children_does_not_wait : place_away (acts 3 main) (Sync 1) ≡ Some 1
a_sync_without_children_does_not_wait = refl

-- ---- a sync with a child

abbrev sync_at_home : Meaning
sync_at_home = program (make (Spawn 1 1 [] None) (λ _. stores_and (then_ends (Sync 1)))) (λ _. ends (pos 0))

at_home_it_does_not_wait_for_stores : status_of main (run_of (loose sync_at_home) (spawn main child ∷ act main ∷ act child ∷ act main ∷ [])) ≡ Some Live
at_home_it_does_not_wait_for_stores = refl

but_for_the_child : run_of (loose sync_at_home) (spawn main child ∷ acts 2 main) ≡ None
but_for_the_child = refl

abbrev sync_away : Meaning
sync_away = program (make (Spawn 1 1 [] None) (λ _. make (Move (at 1) (element 1)) (λ _. stores_and (then_ends (Sync 1))))) (λ _. ends (pos 0))

away_it_waits_for_stores_too : run_of (loose sync_away) (spawn main child ∷ acts 2 main ++ act child ∷ act main ∷ []) ≡ None
away_it_waits_for_stores_too = refl

and_then_goes_home : place_of main (run_of (loose sync_away) (spawn main child ∷ acts 2 main ++ act child ∷ apply main 2 ∷ act main ∷ [])) ≡ Some 0
and_then_goes_home = refl
