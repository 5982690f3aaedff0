-- How runs end, computed.
use Rattle.std.proofs.Common.{◌≡◌, ℕ, ◌-◌, ◌^◌, [], ◌∷◌, refl, Some, None, ℤ, pos, negsuc}
use Rattle.word_ops.specs.declared.step.Entry.{Entry}
use Rattle.word_ops.specs.declared.step.NodeEvent.TheVariants.{Take}
use Rattle.word_ops.specs.declared.ending.End.TheVariants.{Done, Trap, Spent}
use Rattle.word_ops.specs.declared.ending.SpentCause.TheVariants as cause
use Rattle.word_ops.specs.declared.ending.TrapKind.TheVariants as trap
use Rattle.word_ops.specs.declared.rules.Rules.TheVariants.{Loose}
use Rattle.world_model.specs.Action as action
use Rattle.world_model.specs.Meaning.{Meaning, make, word_of}
use Rattle.world_model.specs.Run.{run_of, end_of}
use Rattle.world_model.proofs.Samples.{at, main, ends, alone, setting, loose, act, acts}

-- ---- a loop of three rounds has five turns, with the function's own

abbrev loop : Meaning
loop = alone (make action.Turn (λ _. make action.Turn (λ _. make action.Turn (λ _. make action.Turn (λ _. make action.Turn (λ _. ends (pos 0)))))))

five_turns_are_enough : end_of (setting loop 8 5 Loose) (acts 6 main) [] ≡ Some (Done (pos 0))
five_turns_are_enough = refl

with_four_the_fifth_is_not_served : run_of (setting loop 8 4 Loose) (acts 5 main) ≡ None
with_four_the_fifth_is_not_served = refl

and_the_run_is_spent : end_of (setting loop 8 4 Loose) (acts 4 main) [] ≡ Some (Spent 0 cause.Turns)
and_the_run_is_spent = refl

before_that_it_has_not_ended : end_of (setting loop 8 4 Loose) (acts 3 main) [] ≡ None
before_that_it_has_not_ended = refl

-- ---- stamps

abbrev stamped : ℕ → Entry
stamped stamp = record { stamp = stamp; event = Take 0; step = None }

the_last_stamp_at_nodelet_2 :
    end_of (setting loop 8 4 Loose) (acts 4 main) ([] ∷ (stamped (2 ^ 64 - 1) ∷ stamped 7 ∷ []) ∷ (stamped 3 ∷ stamped (2 ^ 64 - 1) ∷ []) ∷ []) ≡ Some (Spent 2 cause.Stamps)
the_last_stamp_at_nodelet_2 = refl

main's_value_outweighs_spent_stamps : end_of (setting loop 8 5 Loose) (acts 6 main) ((stamped (2 ^ 64 - 1) ∷ []) ∷ []) ≡ Some (Done (pos 0))
main's_value_outweighs_spent_stamps = refl

-- ---- traps

abbrev reads : ℤ → Meaning
reads address = alone (make action.Turn (λ _. make (action.Load (at 23) address) (λ r. ends (word_of r))))

the_null_address_is_bad : end_of (loose (reads (pos 0))) (acts 2 main) [] ≡ Some (Trap trap.BadAddress (at 23) main)
the_null_address_is_bad = refl

so_is_a_view_without_a_nodelet : end_of (loose (reads (pos 43980465111040))) (acts 2 main) [] ≡ Some (Trap trap.BadAddress (at 23) main)
so_is_a_view_without_a_nodelet = refl

so_is_an_address_below_0 : end_of (loose (reads (negsuc 0))) (acts 2 main) [] ≡ Some (Trap trap.BadAddress (at 23) main)
so_is_an_address_below_0 = refl

a_division_traps : end_of (loose (alone (λ _. action.Trap (at 67) trap.Divide ∷ []))) (act main ∷ []) [] ≡ Some (Trap trap.Divide (at 67) main)
a_division_traps = refl

a_run_that_is_none_has_no_end : end_of (loose (reads (pos 0))) (acts 3 main) [] ≡ None
a_run_that_is_none_has_no_end = refl
