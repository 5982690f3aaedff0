-- What a draft gains.
use Rattle.std.specs.Prelude.{◌≡◌, ◌<◌, ◌≤◌, ℕ, ◌+◌, ◌^◌, max, List, ◌++◌, length, map}
use Rattle.word_ops.specs.declared.format.Part.{Part}
use Rattle.cilk_ast.specs.declared.program.Expr.{Expr}
use Rattle.codegen_expr.specs.declared.draft.Draft.{Draft}
use Rattle.codegen_expr.specs.Piece.{Line, Piece}
use Rattle.codegen_expr.specs.Emitted.{emitted}

-- A draft gains lines and formats at its ends. Then the stack has so many words, and it had so many at most on
-- the way.
pub record Gains (old new : Draft) (lines : List Line) (more : List (List Part)) (words highest : ℕ) : Type 0 where
  pub function : new.function ≡ old.function
  pub slots : new.slots ≡ old.slots
  pub body : new.body ≡ old.body ++ map (λ line. line.instr) lines
  pub places : new.places ≡ old.places ++ map (λ line. line.pos) lines
  pub formats : new.formats ≡ old.formats ++ more
  pub depth : new.depth ≡ words
  pub height : new.height ≡ max old.height highest

-- It gains a piece that leaves so many words.
abbrev pub GainsPiece : Draft → Draft → Piece → ℕ → Type 0
GainsPiece old new piece words =
    Gains old new (piece.lines (length old.body) (length old.formats)) piece.formats (old.depth + words) (old.depth + piece.rise)

-- It gains the code of an expression.
abbrev pub GainsValue : Draft → Draft → Expr → Type 0
GainsValue old new e = GainsPiece old new (emitted e) 1

-- It has room for so many lines, formats and words more, and its stack was never lower at most than it is now.
pub record HasRoom (draft : Draft) (more : ℕ) : Type 0 where
  pub body : length draft.body + more < 2 ^ 32
  pub formats : length draft.formats + more < 2 ^ 32
  pub depth : draft.depth + more < 2 ^ 32
  pub highest : draft.depth ≤ draft.height
