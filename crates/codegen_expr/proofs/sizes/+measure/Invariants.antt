use Rattle.std.proofs.Common.{◌≡◌, ◌+◌, take}
use Rattle.cilk_ast.specs.Nodes.{expression_nodes}
use Rattle.codegen_expr.specs.Piece.{in_order}
use Rattle.codegen_expr.specs.Emitted.{emitted_each}
use Rattle.codegen_expr.specs.Parts.{parts_of, own_size}
use Rattle.codegen_expr.proofs.sizes.+measure.Given as goal

abbrev pub decreases-measure : goal.decreases-measure
decreases-measure l = expression_nodes l.e.now

abbrev pub invariant-loop-i : goal.invariant-loop-i
invariant-loop-i l = l.size ≡ own_size l.e + (in_order (emitted_each (take l.i (parts_of l.e)))).size
