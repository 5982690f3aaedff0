-- Which answers fit, computed.
use Rattle.std.proofs.Common.{◌≡◌, [], ◌∷◌, None, refl, true, false, pos}
use Rattle.world_model.specs.Action.{Turn, Spawn, Sync}
use Rattle.world_model.specs.Meaning.{Meaning, make, fits}
use Rattle.world_model.proofs.Samples.{ends, alone}

-- two children at depth 1 and one at depth 2, which is joined first
abbrev spawns : Meaning
spawns = alone
    (make Turn (λ _. make (Spawn 1 1 [] None) (λ _. make (Spawn 2 1 [] None) (λ _. make (Spawn 1 1 [] None) (λ _.
    make (Sync 2) (λ _. make (Sync 1) (λ _. make (Sync 1) (λ _. ends (pos 0)))))))))

each_sync_answers_for_its_own_depth : fits spawns 0 [] ([] ∷ [] ∷ [] ∷ [] ∷ (pos 5 ∷ []) ∷ (pos 6 ∷ pos 7 ∷ []) ∷ [] ∷ []) ≡ true
each_sync_answers_for_its_own_depth = refl

a_value_too_few : fits spawns 0 [] ([] ∷ [] ∷ [] ∷ [] ∷ (pos 5 ∷ []) ∷ (pos 6 ∷ []) ∷ []) ≡ false
a_value_too_few = refl

an_end_has_no_answer : fits (alone (ends (pos 0))) 0 [] ([] ∷ []) ≡ false
an_end_has_no_answer = refl

a_turn_has_no_word : fits (alone (make Turn (λ _. ends (pos 0)))) 0 [] ((pos 1 ∷ []) ∷ []) ≡ false
a_turn_has_no_word = refl

no_answers_fit : fits spawns 0 [] [] ≡ true
no_answers_fit = refl
