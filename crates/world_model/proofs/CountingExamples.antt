-- What counts as traffic, computed at two nodelets; each table goes by the first nodelet and then the second.
use Rattle.std.proofs.Common.{◌≡◌, List, [], ◌∷◌, ◌++◌, refl, Some, None, ℤ, pos}
use Rattle.std.specs.Prelude.{if◌then◌else◌}
use Rattle.word_ops.specs.declared.name.Name.{Name}
use Rattle.word_ops.specs.declared.step.Step.{Step}
use Rattle.word_ops.specs.declared.rules.Rules.TheVariants.{Loose, Checked}
use Rattle.word_ops.specs.Operators.{same_word}
use Rattle.mem_atomics.specs.declared.op.Op.TheVariants.{Store}
use Rattle.world_model.specs.Action.{Issue, Move, Alloc, Spawn, Sync, Striped, Hint}
use Rattle.world_model.specs.Meaning.{Meaning, make}
use Rattle.world_model.specs.World.{Setting}
use Rattle.world_model.specs.Traffic.{traffic_of}
use Rattle.world_model.proofs.Samples.{at, name, main, ends, alone, program, setting, act, acts, spawn, apply_at}

abbrev on_two : Meaning → Setting
on_two meaning = setting meaning 2 1000000 Loose

abbrev first : Name
first = name 0 1

abbrev second : Name
second = name 0 2

-- ---- births: a child without a hint, one by a hint at its parent's nodelet, one by a hint at nodelet 1

abbrev hint : ℤ → Hint
hint address = record { pos = at 1; address = address }

abbrev births : Meaning
births = program (make (Spawn 1 1 [] None) (λ _. make (Spawn 1 1 [] (Some (hint (pos 2)))) (λ _. make (Spawn 1 1 [] (Some (hint (pos 3)))) (λ _. ends (pos 0))))) ends

only_hinted_births_count : (traffic_of (on_two births) (spawn main first ∷ spawn main second ∷ spawn main (name 0 3) ∷ [])).births ≡ 1 ∷ 1 ∷ 0 ∷ 0 ∷ []
only_hinted_births_count = refl

-- ---- a parent goes to nodelet 1, where its child too goes and ends; then the parent goes home

abbrev parent_away : Meaning
parent_away = program (make (Spawn 1 1 [] None) (λ _. make (Move (at 2) (pos 3)) (λ _. make (Sync 1) (λ _. ends (pos 0))))) (λ _. make (Move (at 3) (pos 3)) (λ _. ends (pos 0)))

abbrev parent_steps : List Step
parent_steps = spawn main first ∷ act main ∷ acts 2 first ++ acts 2 main

an_end_counts_from_the_place_to_the_parent's_home : (traffic_of (on_two parent_away) parent_steps).dones ≡ 0 ∷ 0 ∷ 1 ∷ 0 ∷ []
an_end_counts_from_the_place_to_the_parent's_home = refl

a_sync_that_goes_home_counts_as_a_move : (traffic_of (on_two parent_away) parent_steps).moves ≡ 0 ∷ 2 ∷ 1 ∷ 0 ∷ []
a_sync_that_goes_home_counts_as_a_move = refl

-- ---- a grandchild at nodelet 0 of a child at nodelet 1

abbrev grandparent : Meaning
grandparent = program (make (Spawn 1 1 (pos 1 ∷ []) (Some (hint (pos 3)))) (λ _. ends (pos 0)))
    (λ v. if same_word v (pos 1) then make (Spawn 1 1 (pos 2 ∷ []) (Some (hint (pos 2)))) (λ _. ends (pos 0)) else ends (pos 0))

its_end_counts_to_its_own_parent's_home : (traffic_of (on_two grandparent) (spawn main first ∷ spawn first second ∷ act second ∷ [])).dones ≡ 0 ∷ 1 ∷ 0 ∷ 0 ∷ []
its_end_counts_to_its_own_parent's_home = refl

main's_end_counts_nowhere : (traffic_of (on_two births) (spawn main first ∷ spawn main second ∷ spawn main (name 0 3) ∷ act main ∷ [])).dones ≡ 0 ∷ 0 ∷ 0 ∷ 0 ∷ []
main's_end_counts_nowhere = refl

-- ---- grants that are applied, and then a store outside them

abbrev asks_and_strays : Setting
asks_and_strays = setting (alone (make (Alloc (Striped (pos 2))) (λ _. make (Issue (at 1) Store (pos 5) (pos 1)) (λ _. ends (pos 0))))) 2 1000000 Checked

a_grant_counts_nowhere_and_a_refused_store_counts : (traffic_of asks_and_strays (acts 2 main ++ apply_at main (1 ∷ 1 ∷ []))).applied ≡ 0 ∷ 1 ∷ []
a_grant_counts_nowhere_and_a_refused_store_counts = refl

a_grant_is_no_post : (traffic_of asks_and_strays (acts 2 main ++ apply_at main (1 ∷ 1 ∷ []))).posts ≡ 0 ∷ 1 ∷ 0 ∷ 0 ∷ []
a_grant_is_no_post = refl
