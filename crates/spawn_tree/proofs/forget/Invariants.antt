use Rattle.spawn_tree.specs.code.Records.{result_in, ForgetsUnder}
use Rattle.spawn_tree.proofs.forget.Given as goal

abbrev pub invariant-loop-order : goal.invariant-loop-order
invariant-loop-order l = ForgetsUnder (result_in l.initial.results) l.activation.parent l.activation.depth l.order (result_in l.results)
