-- The command is one of those whose matches and faults the parser states.
use Rattle.std.proofs.Common.{◌≡◌, true, refl}
use Rattle.clap.specs.Words.{is_simple, is_simple_and_free}
use Rattle.emu_words.specs.Line.{emu_app}

pub its_matches_are_stated : is_simple emu_app ≡ true
unfolding emu_app
its_matches_are_stated = refl

pub its_faults_are_stated : is_simple_and_free emu_app ≡ true
unfolding emu_app
its_faults_are_stated = refl
