use Rattle.std.proofs.Common.{◌≡◌, ◌++◌}
use Rattle.cilk_types.proofs.lower_items.joined.Given as goal

abbrev pub invariant-loop-function : goal.invariant-loop-function
invariant-loop-function l = l.all ≡ l.fn.first ++ l.yielded
