use Rattle.std.proofs.Common.{take}
use Rattle.cilk_ast.specs.Nodes.{statement_nodes}
use Rattle.codegen_stmt.specs.Compiling.{exits_of, GainsStretch}
use Rattle.codegen_stmt.proofs.Blocks.{stretches}
use Rattle.codegen_stmt.proofs.appending.+statement.Given as goal

abbrev pub decreases-statement : goal.decreases-statement
decreases-statement l = statement_nodes l.s.now

abbrev pub invariant-loop-i : goal.invariant-loop-i
invariant-loop-i l = GainsStretch l.fn.draft l.draft (stretches l.around (take l.i l.body)) (exits_of l.around)
