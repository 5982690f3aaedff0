-- What some words ask for, computed.
use Rattle.std.proofs.Common.{◌≡◌, ℕ, [], ◌∷◌, Option, Some, None, codes, refl, true, false}
use Rattle.clap.proofs.OnLiterals.{clap_on_literals}
use Rattle.emu_words.specs.Line.{emu_app}
use Rattle.emu_words.specs.Asking.{asked_in, asked_of, flag_in, mode_in, number_if_given, number_in}
use Rattle.emu_words.specs.declared.asked.Asked.{Asked}
use Rattle.emu_words.specs.declared.asked.Mode.{Mode}
use Rattle.emu_words.specs.declared.asked.Mode.TheVariants as mode

-- a mode with nothing else given
abbrev plain : Mode → Option ℕ → Asked
plain m workload = record { mode = m; n = 8; turns = 1000000; serial = None; report = false; memory = false; journal = false; workload = workload; watch = false }

a_mode_alone_has_the_defaults : asked_of (codes "run" ∷ []) ≡ Some (plain mode.Run None)
unfolding clap_on_literals asked_of asked_in emu_app flag_in mode_in number_if_given number_in
a_mode_alone_has_the_defaults = refl

gen_has_workload_0 : asked_of (codes "gen" ∷ []) ≡ Some (plain mode.Gen (Some 0))
unfolding clap_on_literals asked_of asked_in emu_app flag_in mode_in number_if_given number_in
gen_has_workload_0 = refl

leading_zeros_count : asked_of (codes "--nodelets" ∷ codes "04" ∷ codes "run" ∷ codes "--record" ∷ []) ≡ Some (record (plain mode.Run None) { n = 4; journal = true })
unfolding clap_on_literals asked_of asked_in emu_app flag_in mode_in number_if_given number_in
leading_zeros_count = refl

there_are_at_most_64_nodelets : asked_of (codes "run" ∷ codes "--nodelets" ∷ codes "65" ∷ []) ≡ None
unfolding clap_on_literals asked_of asked_in emu_app flag_in mode_in number_if_given number_in
there_are_at_most_64_nodelets = refl

no_words_ask_for_nothing : asked_of [] ≡ None
unfolding clap_on_literals asked_of asked_in emu_app flag_in mode_in number_if_given number_in
no_words_ask_for_nothing = refl

a_flag_stands_once : asked_of (codes "run" ∷ codes "--report" ∷ codes "--report" ∷ []) ≡ None
unfolding clap_on_literals asked_of asked_in emu_app flag_in mode_in number_if_given number_in
a_flag_stands_once = refl

help_is_refused : asked_of (codes "--help" ∷ []) ≡ None
unfolding clap_on_literals asked_of asked_in emu_app flag_in mode_in number_if_given number_in
help_is_refused = refl

ranges_hold_in_every_mode : asked_of (codes "check" ∷ codes "--workload" ∷ codes "1000001" ∷ []) ≡ None
unfolding clap_on_literals asked_of asked_in emu_app flag_in mode_in number_if_given number_in
ranges_hold_in_every_mode = refl
