use Rattle.std.proofs.Common.{◌≡◌, take, true}
use Rattle.cilk_ast.specs.Nodes.{statement_nodes}
use Rattle.codegen_stmt.specs.Parts.{children_of}
use Rattle.codegen_stmt.proofs.EachForms.{none_each}
use Rattle.codegen_stmt.proofs.functions.+is_spawning_each.Given as goal

abbrev pub decreases-is_spawning_each : goal.decreases-is_spawning_each
decreases-is_spawning_each l = statement_nodes l.s.now

abbrev pub invariant-loop-i : goal.invariant-loop-i
invariant-loop-i l = none_each (take l.i (children_of l.s)) ≡ true
