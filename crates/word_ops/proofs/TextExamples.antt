-- Texts of the plain types, computed.
use Rattle.std.proofs.Common.{◌≡◌, [], ◌∷◌, Some, None, pos, negsuc, refl, codes}
use Rattle.std.specs.Fmt.{digits}
use Rattle.word_ops.specs.Ending.{ending_line}
use Rattle.word_ops.specs.Journal.{journal_of}
use Rattle.word_ops.specs.Numbers.{count_in}
use Rattle.word_ops.specs.Report.{words_text, report_of}
use Rattle.word_ops.specs.declared.ending.TrapKind.TheVariants as trap
use Rattle.word_ops.specs.declared.ending.SpentCause.TheVariants as cause
use Rattle.word_ops.specs.declared.ending.End.TheVariants.{Done, Trap, Spent}
use Rattle.word_ops.specs.declared.step.Step.TheVariants.{Act}

a_run_that_is_done : ending_line (Done (negsuc 4)) ≡ codes "end: done -5\n"
unfolding digits
a_run_that_is_done = refl

a_strand_that_traps : ending_line (Trap trap.BadAddress (record { line = 1; column = 23 }) (record { nodelet = 0; number = 0 })) ≡ codes "end: trap BadAddress 1:23 strand 0.0\n"
unfolding digits
a_strand_that_traps = refl

turns_that_are_spent : ending_line (Spent 0 cause.Turns) ≡ codes "end: spent turns at nodelet 0\n"
unfolding digits
turns_that_are_spent = refl

a_journal : journal_of 2 8 1000000 (codes "int main() { return 0; }") (Act (record { nodelet = 0; number = 0 }) None ∷ Act (record { nodelet = 0; number = 0 }) None ∷ [])
    ≡ codes "emu-journal 2\nnodelets 8\nturns 1000000\nsource 24\nint main() { return 0; }\nsteps 2\nact 0.0\nact 0.0\nend\n"
unfolding digits
a_journal = refl

the_words_of_a_run : words_text (record { nodelet = 0; address = pos 35184372088832; word = pos 5 } ∷ []) ≡ codes "words\n0 35184372088832 5\n"
unfolding digits
the_words_of_a_run = refl

the_report_of_a_run_at_one_nodelet : report_of (record { n = 1; moves = 0 ∷ []; births = 0 ∷ []; posts = 4 ∷ []; dones = 0 ∷ []; turns = 11 ∷ []; applied = 4 ∷ [] })
    ≡ codes "traffic\npost 0 0 4\nnodelet 0 turns 11 applied 4\n"
unfolding digits
the_report_of_a_run_at_one_nodelet = refl

leading_zeros_count : count_in (codes "00000000000000000008") 1 64 ≡ Some 8
leading_zeros_count = refl

twenty_one_digits_are_no_count : count_in (codes "000000000000000000008") 1 64 ≡ None
twenty_one_digits_are_no_count = refl

a_sign_is_no_count : count_in (codes "+8") 1 64 ≡ None
a_sign_is_no_count = refl

nothing_is_no_count : count_in [] 0 64 ≡ None
nothing_is_no_count = refl

a_count_over_the_most_is_none : count_in (codes "65") 1 64 ≡ None
a_count_over_the_most_is_none = refl
