-- Where actions leave a strand and its children, and what joins answer, computed.
use Rattle.std.proofs.Common.{◌≡◌, ℕ, ◌+◌, List, [], ◌∷◌, ◌++◌, refl, Option, Some, None, ℤ, pos, map}
use Rattle.std.specs.Prelude.{option_map, option_and_then}
use Rattle.word_ops.specs.declared.name.Name.{Name}
use Rattle.word_ops.specs.declared.step.Step.{Step}
use Rattle.world_model.specs.Action.{Action, Init, Move, Print, Alloc, Spawn, Sync, Striped, Blocked, Hint}
use Rattle.world_model.specs.Allocation.{taken_from}
use Rattle.world_model.specs.Meaning.{Meaning, make}
use Rattle.world_model.specs.World.{World, strand_of}
use Rattle.world_model.specs.Run.{run_of}
use Rattle.world_model.proofs.Samples.{at, name, main, ends, program, alone, loose, act, acts, spawn, apply, place_of, word_at, answers_of, pieces_of}

abbrev element : ℕ → ℤ
element i = pos (8 + i)

abbrev replicated : ℤ
replicated = pos 34084860461056

abbrev first : Name
first = name 0 1

abbrev second : Name
second = name 0 2

abbrev third : Name
third = name 0 3

abbrev home_of : Name → Option World → Option ℕ
home_of q world = option_and_then (λ w. option_map (λ s. s.home) (strand_of w q)) world

-- ---- from nodelet 5

abbrev moved_then : Action → Meaning
moved_then action = alone (make (Move (at 1) (element 5)) (λ _. make action (λ _. ends (pos 0))))

abbrev from_5 : Action → Option World
from_5 action = run_of (loose (moved_then action)) (acts 2 main)

a_request_that_takes_nothing_goes_to_its_server : map (λ request. place_of main (from_5 (Alloc request))) (Striped (pos 0) ∷ Blocked (pos 0) (pos 4) ∷ Blocked (pos 2) (pos 3) ∷ []) ≡ Some 0 ∷ Some 0 ∷ Some 0 ∷ []
a_request_that_takes_nothing_goes_to_its_server = refl

no_block_takes_nothing : taken_from 8 0 (Blocked (pos 0) (pos 4)) ≡ None
no_block_takes_nothing = refl

a_print_goes_to_nodelet_0 : place_of main (from_5 (Print (55 ∷ []))) ≡ Some 0
a_print_goes_to_nodelet_0 = refl

an_init_stores_at_the_place : word_at 5 replicated (from_5 (Init (at 1) replicated (pos 9))) ≡ Some (pos 9)
an_init_stores_at_the_place = refl

and_not_yet_at_nodelet_0 : word_at 0 replicated (from_5 (Init (at 1) replicated (pos 9))) ≡ Some (pos 0)
and_not_yet_at_nodelet_0 = refl

where_it_is_pending : word_at 0 replicated (run_of (loose (moved_then (Init (at 1) replicated (pos 9)))) (acts 2 main ++ apply main 0 ∷ [])) ≡ Some (pos 9)
where_it_is_pending = refl

but_not_at_the_place : run_of (loose (moved_then (Init (at 1) replicated (pos 9)))) (acts 2 main ++ apply main 5 ∷ []) ≡ None
but_not_at_the_place = refl

-- ---- children born from there

abbrev born_from_5 : Option Hint → Option World
born_from_5 hint = run_of (loose (moved_then (Spawn 1 1 [] hint))) (act main ∷ spawn main first ∷ [])

abbrev hint : ℤ → Option Hint
hint address = Some (record { pos = at 5; address = address })

a_child_is_born_at_its_parent's_place : place_of first (born_from_5 None) ≡ Some 5
a_child_is_born_at_its_parent's_place = refl

which_is_its_home : home_of first (born_from_5 None) ≡ Some 5
which_is_its_home = refl

a_replicated_hint_is_the_parent's_place : place_of first (born_from_5 (hint replicated)) ≡ Some 5
a_replicated_hint_is_the_parent's_place = refl

and_the_child's_home : home_of first (born_from_5 (hint replicated)) ≡ Some 5
and_the_child's_home = refl

a_hint's_owner_is_the_child's_home : home_of first (born_from_5 (hint (element 6))) ≡ Some 6
a_hint's_owner_is_the_child's_home = refl

the_parent_stays : place_of main (born_from_5 (hint (element 6))) ≡ Some 5
the_parent_stays = refl

-- ---- what joins answer: each child ends with its argument

abbrev joins_all : Meaning
joins_all = program (make (Spawn 1 1 (pos 1 ∷ []) None) (λ _. make (Spawn 1 1 (pos 2 ∷ []) None) (λ _. make (Sync 1) (λ _. ends (pos 0))))) ends

values_stand_in_spawn_order : answers_of main (run_of (loose joins_all) (spawn main second ∷ spawn main first ∷ act first ∷ act second ∷ act main ∷ [])) ≡ Some ([] ∷ [] ∷ (pos 1 ∷ pos 2 ∷ []) ∷ [])
values_stand_in_spawn_order = refl

abbrev joins_by_depth : Meaning
joins_by_depth = program
    (make (Spawn 1 1 (pos 1 ∷ []) None) (λ _. make (Spawn 2 1 (pos 2 ∷ []) None) (λ _. make (Spawn 1 1 (pos 3 ∷ []) None) (λ _.
    make (Sync 2) (λ _. make (Sync 1) (λ _. make (Sync 1) (λ _. ends (pos 0))))))))
    ends

abbrev spawned : List Step
spawned = spawn main first ∷ spawn main second ∷ spawn main third ∷ []

a_sync_joins_its_own_depth_alone : answers_of main (run_of (loose joins_by_depth) (spawned ++ act second ∷ act main ∷ [])) ≡ Some ([] ∷ [] ∷ [] ∷ (pos 2 ∷ []) ∷ [])
a_sync_joins_its_own_depth_alone = refl

and_once : answers_of main (run_of (loose joins_by_depth) (spawned ++ act third ∷ act second ∷ act first ∷ acts 3 main)) ≡ Some ([] ∷ [] ∷ [] ∷ (pos 2 ∷ []) ∷ (pos 1 ∷ pos 3 ∷ []) ∷ [] ∷ [])
and_once = refl

-- ---- what comes after what

a_second_allocation_lies_behind_the_first : answers_of main (run_of (loose (alone (make (Alloc (Striped (pos 8))) (λ _. make (Alloc (Striped (pos 8))) (λ _. ends (pos 0)))))) (acts 2 main)) ≡ Some ((pos 8 ∷ []) ∷ (pos 16 ∷ []) ∷ [])
a_second_allocation_lies_behind_the_first = refl

pieces_stand_in_their_order : pieces_of (run_of (loose (alone (make (Print (55 ∷ [])) (λ _. make (Print (56 ∷ [])) (λ _. ends (pos 0)))))) (acts 2 main)) ≡ Some ((55 ∷ []) ∷ (56 ∷ []) ∷ [])
pieces_stand_in_their_order = refl
