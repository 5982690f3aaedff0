-- Journals, computed.
use Rattle.std.proofs.Common.{◌≡◌, [], Some, Err, refl, codes, arith}
use Rattle.std.specs.Fmt.{digits}
use Rattle.word_ops.specs.Journal.{journal_of, step_line}
use Rattle.word_ops.specs.declared.step.Step.TheVariants.{Act, Apply}
use Rattle.journal_text.specs.Decoding.{broken, journal_in}
use Rattle.journal_text.specs.Journals.{IsAmong}
use Rattle.journal_text.specs.declared.fault.JournalKind.TheVariants as kind

a_spawn_names_the_child : step_line (Act (record { nodelet = 0; number = 0 }) (Some (record { nodelet = 3; number = 17 }))) ≡ codes "act 0.0 spawn 3.17\n"
unfolding digits
a_spawn_names_the_child = refl

an_operation_is_applied_at_a_nodelet : step_line (Apply (record { nodelet = 1; number = 2 }) 63) ≡ codes "apply 1.2 63\n"
unfolding digits
an_operation_is_applied_at_a_nodelet = refl

a_journal_with_no_text_and_no_steps : journal_of 1 64 1 [] [] ≡ codes "emu-journal 1\nnodelets 64\nturns 1\nsource 0\n\nsteps 0\nend\n"
unfolding digits
a_journal_with_no_text_and_no_steps = refl

the_name_of_a_strand_may_be_of_any_nodelet : IsAmong 2 (Apply (record { nodelet = 9; number = 0 }) 1)
the_name_of_a_strand_may_be_of_any_nodelet = omega arith

there_is_no_third_version : journal_in (codes "emu-journal 3\nnodelets 8\n") ≡ Err (broken 1 kind.BadHead)
unfolding digits
there_is_no_third_version = refl

a_number_has_no_leading_zero : journal_in (codes "emu-journal 2\nnodelets 08\n") ≡ Err (broken 2 kind.BadNodelets)
unfolding digits
a_number_has_no_leading_zero = refl

the_newlines_of_the_text_count : journal_in (codes "emu-journal 2\nnodelets 8\nturns 1\nsource 3\n\n\n") ≡ Err (broken 7 kind.ShortSource)
unfolding digits
the_newlines_of_the_text_count = refl

a_step_is_applied_at_one_of_the_nodelets : journal_in (codes "emu-journal 2\nnodelets 8\nturns 1\nsource 1\na\nsteps 1\napply 9.0 8\nend\n") ≡ Err (broken 7 kind.BadStep)
unfolding digits
a_step_is_applied_at_one_of_the_nodelets = refl

a_last_line_ends : journal_in (codes "emu-journal 2\nnodelets 8\nturns 1\nsource 1\na\nsteps 0\nend") ≡ Err (broken 7 kind.BadEnd)
unfolding digits
a_last_line_ends = refl
