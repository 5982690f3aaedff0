-- The line that says how a run ended.
use Rattle.std.specs.Prelude.{ℕ, List, [], ◌∷◌, ◌++◌, codes}
use Rattle.std.specs.Fmt.{decimal, signed_decimal}
use Rattle.word_ops.specs.Naming.{name_text}
use Rattle.word_ops.specs.declared.place.Pos.{Pos}
use Rattle.word_ops.specs.declared.ending.TrapKind.{TrapKind}
use Rattle.word_ops.specs.declared.ending.TrapKind.TheVariants as trap
use Rattle.word_ops.specs.declared.ending.SpentCause.{SpentCause}
use Rattle.word_ops.specs.declared.ending.SpentCause.TheVariants as cause
use Rattle.word_ops.specs.declared.ending.End.{End}
use Rattle.word_ops.specs.declared.ending.End.TheVariants.{Done, Trap, Spent}

-- a line of text
abbrev pub line : List ℕ → List ℕ
line text = text ++ 10 ∷ []

-- a place, as line and column with a colon between them
abbrev pub place_text : Pos → List ℕ
place_text pos = decimal pos.line ++ 58 ∷ decimal pos.column

-- a kind of trap, by its name
abbrev pub trap_text : TrapKind → List ℕ
trap_text trap.Divide = codes "Divide"
trap_text trap.BadAddress = codes "BadAddress"
trap_text trap.Depth = codes "Depth"
trap_text trap.OutOfBounds = codes "OutOfBounds"

-- what was spent, by its name
abbrev pub cause_text : SpentCause → List ℕ
cause_text cause.Turns = codes "turns"
cause_text cause.Stamps = codes "stamps"

-- the ending line
abbrev pub ending_line : End → List ℕ
ending_line (Done value) = line (codes "end: done " ++ signed_decimal value)
ending_line (Trap kind at name) = line (codes "end: trap " ++ trap_text kind ++ 32 ∷ [] ++ place_text at ++ codes " strand " ++ name_text name)
ending_line (Spent nodelet what) = line (codes "end: spent " ++ cause_text what ++ codes " at nodelet " ++ decimal nodelet)
