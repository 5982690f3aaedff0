-- What a draft gains by a statement.
use Rattle.std.specs.Prelude.{ℕ, List, length, sum, map}
use Rattle.cilk_ast.specs.declared.program.Expr.{Expr}
use Rattle.cilk_ast.specs.Nodes.{expression_nodes}
use Rattle.cilk_ast.specs.declared.program.Stmt.{Stmt}
use Rattle.codegen_expr.specs.declared.draft.Draft.{Draft}
use Rattle.codegen_expr.specs.Gains.{Gains, GainsPiece}
use Rattle.codegen_expr.specs.Piece.{in_order}
use Rattle.codegen_expr.specs.Emitted.{emitted_each}
use Rattle.codegen_stmt.specs.declared.around.Around.{Around}
use Rattle.codegen_stmt.specs.Stretch.{Exits, Stretch}
use Rattle.codegen_stmt.specs.Compiled.{compiled}

abbrev pub exits_of : Around → Exits
exits_of around = record { broken = around.broken; continued = around.continued }

-- It gains a stretch, which leaves no word.
abbrev pub GainsStretch : Draft → Draft → Stretch → Exits → Type 0
GainsStretch old new stretch exits = Gains old new (stretch.lines exits (length old.body) (length old.formats)) stretch.formats 0 stretch.rise

-- The stretch of a statement, by what stands around it.
abbrev pub stretch_of : Around → Stmt → Stretch
stretch_of around s = compiled around.spawns around.kept s

-- It gains the code of expressions, which leaves a word for each.
abbrev pub GainsWords : Draft → Draft → List Expr → Type 0
GainsWords old new es = GainsPiece old new (in_order (emitted_each es)) (length es)

abbrev pub nodes_of : List Expr → ℕ
nodes_of es = sum (map expression_nodes es)
