-- Fetches and operations on one word, computed.
use Rattle.std.proofs.Common.{◌≡◌, List, [], ◌∷◌, ◌++◌, refl, Some, ℤ, pos}
use Rattle.mem_atomics.specs.declared.op.Op.TheVariants as op
use Rattle.mem_atomics.specs.declared.fetch_op.FetchOp.TheVariants as fetch
use Rattle.world_model.specs.Action.{Turn, Alloc, Striped, Issue, Load, Fetch}
use Rattle.world_model.specs.Meaning.{Meaning, make, word_of}
use Rattle.word_ops.specs.declared.step.Step.{Step}
use Rattle.world_model.specs.Run.{run_of}
use Rattle.world_model.proofs.Samples.{at, main, ends, alone, checked, acts, apply, answers_of, place_of, word_at}

-- a = malloc(8); a[5] = 10; an ADDMS by 3, a CAS from 13 to 1, a SWAP to 7, a REMOTE_MIN with 2; a[5] is read
abbrev element : ℤ
element = pos 13

abbrev one_word : Meaning
one_word = alone
    (make Turn (λ _. make (Alloc (Striped (pos 8))) (λ _. make (Issue (at 1) op.Store element (pos 10)) (λ _.
    make (Fetch (at 2) (fetch.Add (pos 3)) element) (λ _. make (Fetch (at 3) (fetch.Cas (pos 13) (pos 1)) element) (λ _.
    make (Fetch (at 4) (fetch.Swap (pos 7)) element) (λ _. make (Issue (at 5) op.Min element (pos 2)) (λ _.
    make (Load (at 6) element) (λ r. ends (word_of r))))))))))

abbrev told : List Step
told = acts 3 main ++ apply main 5 ∷ apply main 5 ∷ apply main 1 ∷ apply main 2 ∷ apply main 3 ∷ apply main 4 ∷ apply main 6 ∷ apply main 7 ∷ acts 5 main

a_fetch_answers_the_old_word : answers_of main (run_of (checked one_word) told)
    ≡ Some ([] ∷ (pos 8 ∷ []) ∷ [] ∷ (pos 10 ∷ []) ∷ (pos 13 ∷ []) ∷ (pos 1 ∷ []) ∷ [] ∷ (pos 2 ∷ []) ∷ [])
a_fetch_answers_the_old_word = refl

a_fetch_moves_to_the_owner : place_of main (run_of (checked one_word) told) ≡ Some 5
a_fetch_moves_to_the_owner = refl

an_operation_at_its_owner_is_done_at_once : word_at 5 element (run_of (checked one_word) told) ≡ Some (pos 2)
an_operation_at_its_owner_is_done_at_once = refl
