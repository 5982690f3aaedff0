use Rattle.std.proofs.Common.{◌≡◌}
use Rattle.word_ops.specs.Report.{below}
use Rattle.cilk_types.proofs.lower_functions.below.Given as goal

abbrev pub invariant-loop-i : goal.invariant-loop-i
invariant-loop-i l = l.numbers ≡ below l.i
