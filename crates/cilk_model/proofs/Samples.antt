-- Small programs to compute with.
use Rattle.std.proofs.Common.{ℕ, List, [], ◌∷◌, ℤ, pos, Bool}
use Rattle.word_ops.specs.declared.place.Pos.{Pos}
use Rattle.word_ops.specs.declared.format.Part.{Part}
use Rattle.word_ops.specs.declared.format.Part.TheVariants.{Byte, Long}
use Rattle.word_ops.specs.declared.operators.BinaryOp.TheVariants as by
use Rattle.cilk_ast.specs.declared.program.Expr as code_expr
use Rattle.cilk_ast.specs.declared.program.Expr.{Expr, Word}
use Rattle.cilk_ast.specs.declared.program.Stmt as code
use Rattle.cilk_ast.specs.declared.program.Stmt.{Stmt}
use Rattle.cilk_ast.specs.declared.program.Function.{Function}

-- a place in the first line
abbrev pub at : ℕ → Pos
at column = record { line = 1; column = column }

abbrev pub word : ℕ → Expr
word n = Word (pos n)

-- a function of so many parameters and slots, with these statements
abbrev pub function : ℕ → ℕ → Bool → List Stmt → Function
function params slots spawns body = record { name = []; params = params; slots = slots; spawns = spawns; body = code.Block body }

-- the format of a word in a line of its own
abbrev pub word_line : List Part
word_line = Long ∷ Byte 10 ∷ []

-- answers without a word
abbrev pub no_word : List ℤ
no_word = []

-- an answer of one word
abbrev pub one_word : ℕ → List ℤ
one_word n = pos n ∷ []

abbrev pub add : Expr → Expr → Expr
add left right = code_expr.Bin (at 1) by.Add left right
