use Rattle.std.proofs.Common.{◌≡◌, ◌≤◌, ◌<◌, ◌++◌, drop, map, length, All}
use Rattle.cilk_ast.specs.declared.tree.TExpr.{size-TExpr}
use Rattle.cilk_model.specs.TreeTokens.{expression}
use Rattle.cilk_print.specs.Printing.{printed, printed_behind, printed_indexes, indexes_of}
use Rattle.cilk_print.proofs.expressions.+expressions.Given as goal

abbrev pub invariant-behind_commas-loop-i : goal.invariant-behind_commas-loop-i
invariant-behind_commas-loop-i l = printed_behind l.page (drop l.i l.args) ≡ printed_behind l.initial.page (drop l.initial.i l.args)

abbrev pub invariant-expression-loop-rest : goal.invariant-expression-loop-rest
invariant-expression-loop-rest l = record {
  depth : size-TExpr l.rest ≤ size-TExpr l.fn.e;
  depths : All (λ i. size-TExpr i.now < size-TExpr l.fn.e) l.indexes.items;
  tokens : expression l.rest ++ indexes_of (map (λ i. i.now) l.indexes.items) ≡ expression l.fn.e;
}

abbrev pub invariant-expression-loop-index : goal.invariant-expression-loop-index
invariant-expression-loop-index l = record {
  depths : All (λ i. size-TExpr i.now < size-TExpr l.fn.e) l.indexes.items;
  left : printed_indexes l.page (map (λ i. i.now) l.indexes.items) ≡ printed l.fn.page l.fn.e;
}

abbrev pub decreases-expression-loop-index : goal.decreases-expression-loop-index
decreases-expression-loop-index l = length l.indexes.items
