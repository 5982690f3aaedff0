use Rattle.std.proofs.Common.{◌≡◌, ◌+◌, take}
use Rattle.cilk_ast.specs.Nodes.{statement_nodes}
use Rattle.codegen_expr.specs.Piece.{in_order}
use Rattle.codegen_expr.specs.Emitted.{emitted_each}
use Rattle.codegen_stmt.specs.Parts.{children_of, own_size}
use Rattle.codegen_stmt.proofs.Small.{all_words, sizes}
use Rattle.codegen_stmt.proofs.sizes.+size.Given as goal

abbrev pub decreases-size : goal.decreases-size
decreases-size l = statement_nodes l.s.now

abbrev pub invariant-loop-i : goal.invariant-loop-i
invariant-loop-i l = l.total ≡ own_size l.around l.s + (in_order (emitted_each (all_words l.s))).size + sizes l.around (take l.i (children_of l.s))
