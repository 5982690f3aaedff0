-- What is read of the matches, by their rows.
use Rattle.std.proofs.Common.{◌≡◌}
use Rattle.clap.specs.Words.{Text, first_of, first_value, rows_of}
use Rattle.clap.proofs.WalkLemmas.{first_value-rows}
use Rattle.clap.specs.declared.parser.matches.Found.{Found}

pub value_by_rows : (found : Found) (name : Text) → first_value found name ≡ first_of name (rows_of found)
value_by_rows found name = first_value-rows found name
