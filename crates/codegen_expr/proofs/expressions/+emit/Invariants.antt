use Rattle.std.proofs.Common.{length, take}
use Rattle.cilk_ast.specs.Nodes.{expression_nodes}
use Rattle.codegen_expr.specs.Piece.{in_order}
use Rattle.codegen_expr.specs.Emitted.{emitted_each}
use Rattle.codegen_expr.specs.Parts.{parts_of}
use Rattle.codegen_expr.specs.Gains.{GainsPiece}
use Rattle.codegen_expr.proofs.expressions.+emit.Given as goal

abbrev pub decreases-emit : goal.decreases-emit
decreases-emit l = expression_nodes l.e.now

abbrev pub invariant-loop-i : goal.invariant-loop-i
invariant-loop-i l = GainsPiece l.fn.draft l.draft (in_order (emitted_each (take l.i (parts_of l.e)))) (length (take l.i (parts_of l.e)))
