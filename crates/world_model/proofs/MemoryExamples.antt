-- Stores, loads and fetches, computed.
use Rattle.std.proofs.Common.{◌≡◌, ℕ, ◌+◌, [], ◌∷◌, ◌++◌, refl, Some, None, ℤ, pos}
use Rattle.mem_atomics.specs.declared.op.Op.TheVariants as op
use Rattle.world_model.specs.Action.{Turn, Alloc, Striped, Issue, Load}
use Rattle.world_model.specs.Meaning.{Meaning, make, word_of}
use Rattle.world_model.specs.World.{Ended}
use Rattle.world_model.specs.Run.{run_of}
use Rattle.world_model.proofs.Samples.{at, main, ends, alone, loose, act, acts, apply, status_of, place_of, word_at}

-- a = malloc(8); a[3] = 1; a[3] = 2; return a[3];
-- the first allocation of eight words at eight nodelets begins at address 8
abbrev element : ℕ → ℤ
element i = pos (8 + i)

abbrev two_stores : Meaning
two_stores = alone
    (make Turn (λ _. make (Alloc (Striped (pos 8))) (λ _.
    make (Issue (at 1) op.Store (element 3) (pos 1)) (λ _. make (Issue (at 2) op.Store (element 3) (pos 2)) (λ _.
    make (Load (at 3) (element 3)) (λ r. ends (word_of r)))))))

a_load_waits_for_its_own_stores : run_of (loose two_stores) (acts 5 main) ≡ None
a_load_waits_for_its_own_stores = refl

it_waits_for_both : run_of (loose two_stores) (acts 4 main ++ apply main 3 ∷ act main ∷ []) ≡ None
it_waits_for_both = refl

the_first_store_is_applied_first : word_at 3 (element 3) (run_of (loose two_stores) (acts 4 main ++ apply main 3 ∷ [])) ≡ Some (pos 1)
the_first_store_is_applied_first = refl

stores_are_read_back : status_of main (run_of (loose two_stores) (acts 4 main ++ apply main 3 ∷ apply main 3 ∷ acts 2 main)) ≡ Some (Ended (pos 2))
stores_are_read_back = refl

a_load_moves_to_its_owner : place_of main (run_of (loose two_stores) (acts 4 main ++ apply main 3 ∷ apply main 3 ∷ act main ∷ [])) ≡ Some 3
a_load_moves_to_its_owner = refl

nothing_is_applied_where_nothing_is_pending : run_of (loose two_stores) (acts 4 main ++ apply main 2 ∷ []) ≡ None
nothing_is_applied_where_nothing_is_pending = refl

nothing_is_applied_twice : run_of (loose two_stores) (acts 4 main ++ apply main 3 ∷ apply main 3 ∷ apply main 3 ∷ []) ≡ None
nothing_is_applied_twice = refl
