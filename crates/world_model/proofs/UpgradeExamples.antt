-- Runs written again under the checked rules, computed.
use Rattle.std.proofs.Common.{◌≡◌, ℕ, List, [], ◌∷◌, ◌++◌, refl, ap, Ok, Err, Option, Some, Bool, true, false, true≢false, ℤ, pos}
use Rattle.word_ops.specs.declared.ending.End.{End}
use Rattle.word_ops.specs.declared.ending.End.TheVariants.{Done, Trap}
use Rattle.word_ops.specs.declared.ending.TrapKind.TheVariants.{OutOfBounds}
use Rattle.word_ops.specs.declared.step.Step.{Step}
use Rattle.mem_atomics.specs.declared.op.Op.TheVariants.{Store}
use Rattle.world_model.specs.Action.{Turn, Alloc, Striped, Issue, Load}
use Rattle.world_model.specs.Meaning.{Meaning, make, word_of}
use Rattle.world_model.specs.Run.{end_of}
use Rattle.world_model.specs.Upgrade.{upgraded, EndsAlike, loosely, checkedly}
use Rattle.world_model.proofs.Samples.{at, main, ends, alone, loose, act, acts, apply, apply_at}

abbrev elsewhere : List ℕ
elsewhere = 1 ∷ 2 ∷ 3 ∷ 4 ∷ 5 ∷ 6 ∷ 7 ∷ []

a_run_without_allocations_is_the_same : upgraded (loose (alone (make Turn (λ _. ends (pos 0))))) (acts 2 main) ≡ Ok (acts 2 main)
a_run_without_allocations_is_the_same = refl

-- a = malloc(8); return a[1]
abbrev reads : ℤ → Meaning
reads address = alone (make Turn (λ _. make (Alloc (Striped (pos 8))) (λ _. make (Load (at 52) address) (λ r. ends (word_of r)))))

grants_are_applied_behind_their_allocation : upgraded (loose (reads (pos 9))) (acts 4 main) ≡ Ok (acts 2 main ++ apply_at main elsewhere ++ acts 2 main)
grants_are_applied_behind_their_allocation = refl

a_step_behind_a_trap_changes : upgraded (loose (reads (pos 16))) (acts 4 main) ≡ Err 3
a_step_behind_a_trap_changes = refl

-- a = malloc(8); a[1] = 1; b = malloc(8): at nodelet 1 the store stands before the second grant
abbrev twice : Meaning
twice = alone (make (Alloc (Striped (pos 8))) (λ _. make (Issue (at 1) Store (pos 9) (pos 1)) (λ _. make (Alloc (Striped (pos 8))) (λ _. ends (pos 0)))))

a_grant_behind_a_store_waits_for_it :
    upgraded (loose twice) (acts 3 main ++ apply main 1 ∷ act main ∷ [])
    ≡ Ok (act main ∷ apply_at main elsewhere ++ acts 2 main ++ apply_at main (2 ∷ 3 ∷ 4 ∷ 5 ∷ 6 ∷ 7 ∷ []) ++ apply main 1 ∷ apply main 1 ∷ act main ∷ [])
a_grant_behind_a_store_waits_for_it = refl

-- ---- endings

a_run_within_its_words_ends_alike : EndsAlike (loose (reads (pos 9))) (acts 4 main) (acts 2 main ++ apply_at main elsewhere ++ acts 2 main)
a_run_within_its_words_ends_alike = record { end = refl; pieces = refl }

-- a = malloc(8); a[9] = 1: the store goes to nodelet 1, and is applied there before the end
abbrev strays : Meaning
strays = alone (make (Alloc (Striped (pos 8))) (λ _. make (Issue (at 45) Store (pos 17) (pos 1)) (λ _. ends (pos 0))))

abbrev strayed : List Step
strayed = acts 2 main ++ apply main 1 ∷ act main ∷ []

abbrev strayed_again : List Step
strayed_again = act main ∷ apply_at main elsewhere ++ act main ∷ apply main 1 ∷ act main ∷ []

a_stray_store_is_written_again : upgraded (loose strays) strayed ≡ Ok strayed_again
a_stray_store_is_written_again = refl

it_was_applied_before : end_of (loosely (loose strays)) strayed [] ≡ Some (Done (pos 0))
it_was_applied_before = refl

it_traps_the_end : end_of (checkedly (loose strays)) strayed_again [] ≡ Some (Trap OutOfBounds (at 45) main)
it_traps_the_end = refl

-- so the run written again does not end as it did
abbrev is_trap : Option End → Bool
is_trap (Some (Trap _ _ _)) = true
is_trap _ = false

a_stray_store_ends_otherwise : EndsAlike (loose strays) strayed strayed_again → ⊥
a_stray_store_ends_otherwise alike = true≢false (ap is_trap alike.end)
