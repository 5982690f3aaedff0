-- The text of code.
use Rattle.std.specs.Prelude.{ℕ, List, [], ◌∷◌, ◌++◌, codes, length, IsTrue}
use Rattle.std.specs.List.{flat_map, list_all, All}
use Rattle.word_ops.specs.Ending.{line}
use Rattle.word_ops.specs.Journal.{count_line}
use Rattle.word_ops.specs.Formats.{is_printable}
use Rattle.word_ops.specs.declared.place.Pos.{Pos}
use Rattle.word_ops.specs.declared.format.Part.{Part}
use Rattle.threadlet_code.specs.declared.instr.Instr.{Instr}
use Rattle.threadlet_code.specs.declared.code.FuncCode.{FuncCode}
use Rattle.threadlet_code.specs.declared.code.Code.{Code}
use Rattle.code_text.specs.Lines.{format_text, header_of, header_text, placed_text}

-- the lines of instructions, each with its place
abbrev pub body_text : List Pos → List Instr → List ℕ
body_text (p ∷ ps) (i ∷ is) = line (placed_text p i) ++ body_text ps is
body_text _ _ = []

-- the lines of a function
abbrev pub function_text : FuncCode → List ℕ
function_text f = line (header_text (header_of f)) ++ body_text f.places f.body

-- the line of a format
abbrev pub format_line : List Part → List ℕ
format_line format = line (format_text format)

-- the whole text
abbrev pub code_text : Code → List ℕ
code_text code =
    line (codes "emu-code 1") ++ count_line (codes "globals") code.globals ++ count_line (codes "replicated") code.replicated
    ++ count_line (codes "formats") (length code.formats) ++ flat_map format_line code.formats
    ++ count_line (codes "functions") (length code.functions) ++ count_line (codes "main") code.main
    ++ flat_map function_text code.functions ++ line (codes "end")

-- formats hold no byte other than newline and 0x20 to 0x7E
abbrev pub ArePrintable : Code → Type 0
ArePrintable code = All (λ format. IsTrue (list_all is_printable format)) code.formats
