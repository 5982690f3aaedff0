use Rattle.std.proofs.Common.{drop}
use Rattle.cilk_types.proofs.WholeItems.{Counting}
use Rattle.cilk_types.proofs.lower_items.counted.Given as goal

abbrev pub invariant-loop-i : goal.invariant-loop-i
invariant-loop-i l = Counting l.counts (drop l.i l.items) l.items
