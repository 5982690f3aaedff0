-- Which grant is applied next when a run is written again, and which runs end alike, computed.
use Rattle.std.proofs.Common.{◌≡◌, ℕ, List, [], ◌∷◌, ◌++◌, refl, ap, Ok, Option, Some, None, Bool, false, true≢false, pos}
use Rattle.std.specs.Prelude.{option_and_then, unsigned_abs, ◌==◌}
use Rattle.word_ops.specs.declared.name.Name.{Name}
use Rattle.word_ops.specs.declared.step.Step.{Step}
use Rattle.word_ops.specs.declared.ending.TrapKind.TheVariants as trap
use Rattle.mem_atomics.specs.declared.op.Op.TheVariants.{Store}
use Rattle.world_model.specs.Action.{Issue, Print, Alloc, Spawn, Trap, Striped}
use Rattle.world_model.specs.Meaning.{Meaning, Acts, make}
use Rattle.world_model.specs.Run.{run_of, end_of}
use Rattle.world_model.specs.Upgrade.{next_grant, upgraded, EndsAlike, loosely, checkedly}
use Rattle.world_model.proofs.Samples.{at, name, main, ends, alone, program, loose, checked, act, acts, spawn, apply, apply_at}

abbrev asks : Acts
asks = make (Alloc (Striped (pos 8))) (λ _. ends (pos 0))

-- ---- two children and then main ask for words, which are granted at nodelet 0 and pending at the others

abbrev all_ask : Meaning
all_ask = program (make (Spawn 1 1 [] None) (λ _. make (Spawn 1 1 [] None) (λ _. asks))) (λ _. asks)

-- what is next where children of these names have asked, and after more steps
abbrev next : Name → Name → List Step → Option (Name × ℕ)
next p q told = option_and_then (next_grant 8) (run_of (checked all_ask) (spawn main p ∷ spawn main q ∷ act p ∷ act q ∷ told))

the_lesser_nodelet_of_a_name_goes_first : next (name 1 0) (name 0 5) [] ≡ Some (name 0 5, 1)
the_lesser_nodelet_of_a_name_goes_first = refl

in_whatever_order_they_were_born : next (name 0 5) (name 1 0) [] ≡ Some (name 0 5, 1)
in_whatever_order_they_were_born = refl

of_one_nodelet_the_lesser_number : next (name 0 5) (name 0 2) [] ≡ Some (name 0 2, 1)
of_one_nodelet_the_lesser_number = refl

a_name_counts_before_the_place_of_the_grant : next (name 0 2) (name 0 5) (apply (name 0 2) 1 ∷ []) ≡ Some (name 0 2, 2)
a_name_counts_before_the_place_of_the_grant = refl

main_goes_first : next (name 0 2) (name 0 5) (act main ∷ []) ≡ Some (main, 1)
main_goes_first = refl

-- ---- a grant of a strand that has trapped, which waits behind a store

abbrev trapping : Meaning
trapping = alone (make (Alloc (Striped (pos 8))) (λ _. make (Issue (at 1) Store (pos 9) (pos 1)) (λ _. make (Alloc (Striped (pos 8))) (λ _ answers. Trap (at 9) trap.Divide ∷ []))))

grants_of_a_trapped_strand_are_applied :
    upgraded (loose trapping) (acts 4 main ++ apply main 1 ∷ [])
    ≡ Ok (act main ∷ apply_at main (1 ∷ 2 ∷ 3 ∷ 4 ∷ 5 ∷ 6 ∷ 7 ∷ []) ++ acts 2 main ++ apply_at main (2 ∷ 3 ∷ 4 ∷ 5 ∷ 6 ∷ 7 ∷ []) ++ act main ∷ apply main 1 ∷ apply main 1 ∷ [])
grants_of_a_trapped_strand_are_applied = refl

-- ---- two children write a piece each, in one order or the other

abbrev writers : Meaning
writers = program (make (Spawn 1 1 (pos 1 ∷ []) None) (λ _. make (Spawn 1 1 (pos 2 ∷ []) None) (λ _. ends (pos 0))))
    (λ v. make (Print (unsigned_abs v ∷ [])) (λ _. ends (pos 0)))

abbrev first : Name
first = name 0 1

abbrev second : Name
second = name 0 2

abbrev told : List Step
told = spawn main first ∷ spawn main second ∷ act first ∷ act second ∷ act main ∷ []

abbrev again : List Step
again = spawn main first ∷ spawn main second ∷ act second ∷ act first ∷ act main ∷ []

both_are_done : end_of (checkedly (loose writers)) again [] ≡ end_of (loosely (loose writers)) told []
both_are_done = refl

abbrev begins_with_2 : Option (List (List ℕ)) → Bool
begins_with_2 (Some ((byte ∷ _) ∷ _)) = byte == 2
begins_with_2 _ = false

but_other_pieces_are_not_alike : EndsAlike (loose writers) told again → ⊥
but_other_pieces_are_not_alike alike = true≢false (ap begins_with_2 alike.pieces)
