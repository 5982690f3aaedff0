-- What the instructions of a body name, and which they are.
use Rattle.std.specs.Prelude.{ℕ, suc, Bool, true, false, nat_le, ◌==◌, Option, Some, None, slice_get, option_and_then, length, List, [], ◌∷◌}
use Rattle.std.specs.List.{list_any}
use Rattle.threadlet_code.specs.declared.instr.Instr.{Instr}
use Rattle.threadlet_code.specs.declared.instr.Instr.TheVariants.{Get, Set, Jump, JumpZero, Call, Return, Turn, Print, Spawn, Sync}
use Rattle.threadlet_code.specs.declared.code.FuncCode.{FuncCode}

-- ---- what an instruction names

abbrev pub slot_named : Instr → Option ℕ
slot_named (Get slot) = Some slot
slot_named (Set slot) = Some slot
slot_named (Spawn _ target _) = target
slot_named _ = None

abbrev pub function_named : Instr → Option ℕ
function_named (Call function) = Some function
function_named (Spawn function _ _) = Some function
function_named _ = None

abbrev pub format_named : Instr → Option ℕ
format_named (Print format) = Some format
format_named _ = None

abbrev pub jump_of : Instr → Option ℕ
jump_of (Jump to) = Some to
jump_of (JumpZero to) = Some to
jump_of _ = None

-- What the instruction at a place names, if anything.
abbrev pub named : (Instr → Option ℕ) → FuncCode → ℕ → Option ℕ
named what f place = option_and_then what (slice_get f.body place)

-- What is named is none of so many.
abbrev pub is_past : ℕ → Option ℕ → Bool
is_past n None = false
is_past n (Some i) = nat_le n i

-- This is what is named.
abbrev pub is_named : ℕ → Option ℕ → Bool
is_named i None = false
is_named i (Some j) = i == j

-- How many instructions a function has, if it is there.
abbrev pub body_length : Option FuncCode → ℕ
body_length None = 0
body_length (Some f) = length f.body

-- ---- which instruction it is

abbrev pub is_turn : Option Instr → Bool
is_turn (Some Turn) = true
is_turn _ = false

abbrev pub is_return : Option Instr → Bool
is_return (Some Return) = true
is_return _ = false

abbrev pub is_sync : Option Instr → Bool
is_sync (Some Sync) = true
is_sync _ = false

abbrev pub is_spawn : Option Instr → Bool
is_spawn (Some (Spawn _ _ _)) = true
is_spawn _ = false

-- Nothing runs on behind it.
abbrev pub is_last : Option Instr → Bool
is_last (Some (Jump _)) = true
is_last (Some Return) = true
is_last _ = false

-- ---- where it leads

-- The places behind an instruction.
abbrev pub successors : ℕ → Instr → List ℕ
successors place (Jump to) = to ∷ []
successors place (JumpZero to) = to ∷ suc place ∷ []
successors place Return = []
successors place _ = suc place ∷ []

-- An instruction at a place leads to another.
abbrev pub leads_to : ℕ → Instr → ℕ → Bool
leads_to place instr to = list_any (λ next. to == next) (successors place instr)
