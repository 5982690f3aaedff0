-- What is written of a text that is refused.
use Rattle.std.specs.Prelude.{ℕ, List, ◌∷◌, ◌++◌, codes}
use Rattle.word_ops.specs.Ending.{line, place_text}
use Rattle.cilk_ast.specs.declared.fault.FaultKind.{FaultKind}
use Rattle.cilk_ast.specs.declared.fault.FaultKind.TheVariants as kind
use Rattle.cilk_ast.specs.declared.fault.TextFault.{TextFault}

-- A kind of fault, by its name.
abbrev pub fault_name : FaultKind → List ℕ
fault_name kind.BadByte = codes "BadByte"
fault_name kind.BadLiteral = codes "BadLiteral"
fault_name kind.OpenComment = codes "OpenComment"
fault_name kind.OpenText = codes "OpenText"
fault_name kind.TooDeep = codes "TooDeep"
fault_name kind.Unexpected = codes "Unexpected"
fault_name kind.Unknown = codes "Unknown"
fault_name kind.Twice = codes "Twice"
fault_name kind.WrongType = codes "WrongType"
fault_name kind.WrongCount = codes "WrongCount"
fault_name kind.NotAPlace = codes "NotAPlace"
fault_name kind.BadFormat = codes "BadFormat"
fault_name kind.AssignsOuter = codes "AssignsOuter"
fault_name kind.Escapes = codes "Escapes"
fault_name kind.TooMany = codes "TooMany"
fault_name kind.NoMain = codes "NoMain"

-- The line of a text's fault.
abbrev pub fault_line : TextFault → List ℕ
fault_line fault = line (codes "fault: " ++ place_text fault.pos ++ 32 ∷ fault_name fault.kind)
