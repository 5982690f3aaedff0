-- Where code stands.
use Rattle.std.specs.Prelude.{◌≡◌, ℕ, suc, List, [], ◌∷◌, Some, slice_get}
use Rattle.word_ops.specs.declared.format.Part.{Part}
use Rattle.threadlet_code.specs.declared.code.FuncCode.{FuncCode}
use Rattle.threadlet_code.specs.Machine.{place_in}
use Rattle.codegen_expr.specs.Piece.{Line}

-- This line stands at a place of a function.
pub record LineAt (f : FuncCode) (place : ℕ) (line : Line) : Type 0 where
  pub instr : slice_get f.body place ≡ Some line.instr
  pub pos : place_in f place ≡ line.pos

-- These lines stand in a function from a place on.
abbrev pub LinesAt : FuncCode → ℕ → List Line → Type 0
LinesAt f place [] = Unit {0}
LinesAt f place (line ∷ lines) = LineAt f place line × LinesAt f (suc place) lines

-- These formats are numbered from a number on.
abbrev pub FormatsAt : List (List Part) → ℕ → List (List Part) → Type 0
FormatsAt all first [] = Unit {0}
FormatsAt all first (format ∷ formats) = (slice_get all first ≡ Some format) × FormatsAt all (suc first) formats
