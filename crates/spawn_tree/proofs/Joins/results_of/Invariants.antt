use Rattle.std.proofs.Common.{◌≡◌, map, Some}
use Rattle.word_ops.specs.Report.{below}
use Rattle.spawn_tree.specs.Joining.{result_of}
use Rattle.spawn_tree.proofs.Joins.results_of.Given as goal

abbrev pub invariant-loop-order : goal.invariant-loop-order
invariant-loop-order l = map Some l.results.items ≡ map (result_of l.self l.parent l.depth) (below l.order)
