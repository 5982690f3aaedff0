-- The codes that have a text, and which text is whose.
use Rattle.std.specs.Prelude.{⊤, ℕ, ◌<◌, ◌≤◌, ◌^◌, ◌≡◌, ◌≢◌, ℤ, pos, negsuc, List, Some, None, length}
use Rattle.std.specs.List.{All}
use Rattle.word_ops.specs.declared.place.Pos.{Pos}
use Rattle.threadlet_code.specs.declared.instr.Instr.{Instr}
use Rattle.threadlet_code.specs.declared.instr.Instr.TheVariants.{Push, Get, Set, Jump, JumpZero, Call, Print, Spawn}
use Rattle.threadlet_code.specs.declared.code.FuncCode.{FuncCode}
use Rattle.threadlet_code.specs.declared.code.Code.{Code}
use Rattle.code_text.specs.declared.fault.CodeFault.{CodeFault}
use Rattle.code_text.specs.declared.fault.CodeRefusal.{CodeRefusal}
use Rattle.code_text.specs.declared.fault.CodeRefusal.TheVariants.{Fault, OutOfMemory}
use Rattle.code_text.specs.CodeText.{ArePrintable, code_text}

-- a number of 32 bits
abbrev pub IsSmall : ℕ → Type 0
IsSmall n = n < 2 ^ 32

-- a word of 64 bits
abbrev pub IsWord : ℤ → Type 0
IsWord (pos n) = n < 2 ^ 63
IsWord (negsuc n) = n < 2 ^ 63

-- the numbers of an instruction are of their sizes
abbrev pub IsInstr : Instr → Type 0
IsInstr (Push w) = IsWord w
IsInstr (Get slot) = IsSmall slot
IsInstr (Set slot) = IsSmall slot
IsInstr (Jump to) = IsSmall to
IsInstr (JumpZero to) = IsSmall to
IsInstr (Call function) = IsSmall function
IsInstr (Print format) = IsSmall format
IsInstr (Spawn function None hinted) = IsSmall function
IsInstr (Spawn function (Some slot) hinted) = IsSmall function × IsSmall slot
IsInstr _ = ⊤

-- so are those of a place
abbrev pub IsPos : Pos → Type 0
IsPos p = IsSmall p.line × IsSmall p.column

-- there is a place for each instruction
abbrev pub IsPlaced : FuncCode → Type 0
IsPlaced f = length f.places ≡ length f.body

-- a function whose numbers are of their sizes, with a place for each instruction
pub record IsFunction (f : FuncCode) : Type 0 where
  pub params : IsSmall f.params
  pub slots : IsSmall f.slots
  pub height : IsSmall f.height
  pub places : All IsPos f.places
  pub body : All IsInstr f.body
  pub size : length f.body < 2 ^ 64
  pub placed : IsPlaced f

-- a code of such functions, whose numbers are of their sizes and whose formats a literal can spell
pub record IsCode (code : Code) : Type 0 where
  pub globals : IsSmall code.globals
  pub replicated : IsSmall code.replicated
  pub formats : length code.formats < 2 ^ 64
  pub printable : ArePrintable code
  pub main : IsSmall code.main
  pub size : length code.functions < 2 ^ 64
  pub functions : All IsFunction code.functions

-- what holds of the fault, where a refusal is one
abbrev pub IfFault : CodeRefusal → (CodeFault → Type 0) → Type 0
IfFault (Fault fault) P = P fault
IfFault OutOfMemory P = ⊤

-- the bytes are the text of this code, and of no other
pub record IsTextOf (code : Code) (bytes : List ℕ) : Type 0 where
  pub is_text : bytes ≡ code_text code
  pub printable : ArePrintable code
  pub placed : All IsPlaced code.functions
  pub alone : (other : Code) → IsCode other → bytes ≡ code_text other → other ≡ code

-- the bytes are the text of no code
abbrev pub IsNoText : List ℕ → Type 0
IsNoText bytes = (code : Code) → IsCode code → bytes ≢ code_text code

-- no list of the code is longer than that
pub record IsWithin (size : ℕ) (code : Code) : Type 0 where
  pub functions : length code.functions ≤ size
  pub formats : length code.formats ≤ size
  pub parts : All (λ format. length format ≤ size) code.formats
  pub bodies : All (λ f. length f.body ≤ size) code.functions
  pub places : All (λ f. length f.places ≤ size) code.functions
