-- What the lines of a code text say.
use Rattle.std.specs.Prelude.{ℕ, Bool, true, false, ◌==◌, if◌then◌else◌, List, [], ◌∷◌, ◌++◌, codes, Option, Some, None, length}
use Rattle.std.specs.List.{flat_map}
use Rattle.std.specs.Fmt.{decimal, signed_decimal}
use Rattle.word_ops.specs.Ending.{place_text}
use Rattle.word_ops.specs.declared.place.Pos.{Pos}
use Rattle.word_ops.specs.declared.format.Part.{Part}
use Rattle.word_ops.specs.declared.format.Part.TheVariants.{Byte, Long}
use Rattle.threadlet_code.specs.declared.instr.Instr.{Instr}
use Rattle.threadlet_code.specs.declared.instr.Instr.TheVariants as instr
use Rattle.threadlet_code.specs.declared.code.FuncCode.{FuncCode}
use Rattle.code_text.specs.declared.header.Header.{Header}
use Rattle.code_text.specs.Names.{unary_name, binary_name, op_name, alloc_name, flag_text}

-- a part of a format: newline, backslash, quote and percent by two bytes each, a word as `%ld`
abbrev pub part_text : Part → List ℕ
part_text (Byte b) =
    if b == 10 then codes "\\n" else (if b == 92 then codes "\\\\" else (if b == 34 then codes "\\\"" else (if b == 37 then codes "%%" else b ∷ [])))
part_text Long = codes "%ld"

-- a format, as a text literal
abbrev pub format_text : List Part → List ℕ
format_text format = codes "format \"" ++ (flat_map part_text format ++ 34 ∷ [])

-- what the first line of a function tells
abbrev pub header_of : FuncCode → Header
header_of f = record { params = f.params; slots = f.slots; height = f.height; spawns = f.spawns; length = length f.body }

-- the line that begins a function
abbrev pub header_text : Header → List ℕ
header_text h =
    codes "function params " ++ decimal h.params ++ codes " slots " ++ decimal h.slots ++ codes " height " ++ decimal h.height
    ++ codes " spawns " ++ flag_text h.spawns ++ codes " length " ++ decimal h.length

-- the slot for the result of a child
abbrev pub target_text : Option ℕ → List ℕ
target_text None = codes "none"
target_text (Some slot) = decimal slot

-- how the place of a child is found
abbrev pub hint_text : Bool → List ℕ
hint_text true = codes "hinted"
hint_text false = codes "plain"

-- an instruction
abbrev pub instr_text : Instr → List ℕ
instr_text (instr.Push word) = codes "push " ++ signed_decimal word
instr_text (instr.Get slot) = codes "get " ++ decimal slot
instr_text (instr.Set slot) = codes "set " ++ decimal slot
instr_text instr.Pop = codes "pop"
instr_text instr.Dup = codes "dup"
instr_text (instr.Un op) = codes "un " ++ unary_name op
instr_text (instr.Bin op) = codes "bin " ++ binary_name op
instr_text (instr.Jump to) = codes "jump " ++ decimal to
instr_text (instr.JumpZero to) = codes "jumpzero " ++ decimal to
instr_text (instr.Call function) = codes "call " ++ decimal function
instr_text instr.Return = codes "return"
instr_text instr.Turn = codes "turn"
instr_text instr.Load = codes "load"
instr_text (instr.Post op) = codes "post " ++ op_name op
instr_text instr.FetchAdd = codes "fetchadd"
instr_text instr.FetchSwap = codes "fetchswap"
instr_text instr.FetchCas = codes "fetchcas"
instr_text instr.Init = codes "init"
instr_text instr.Fence = codes "fence"
instr_text instr.Move = codes "move"
instr_text instr.Where = codes "where"
instr_text (instr.Print format) = codes "print " ++ decimal format
instr_text (instr.Alloc code) = codes "alloc " ++ alloc_name code
instr_text (instr.Spawn function target hinted) = codes "spawn " ++ (decimal function ++ (32 ∷ (target_text target ++ (32 ∷ hint_text hinted))))
instr_text instr.Sync = codes "sync"

-- an instruction behind its place in the source
abbrev pub placed_text : Pos → Instr → List ℕ
placed_text pos i = place_text pos ++ (32 ∷ instr_text i)
