use Rattle.std.proofs.Common.{◌≡◌, ◌+◌, drop}
use Rattle.cilk_model.specs.Breaks.{functions_of}
use Rattle.cilk_model.specs.Lowering.{main_of}
use Rattle.cilk_types.proofs.lower_items.main_index.Given as goal

abbrev pub invariant-loop-i : goal.invariant-loop-i
invariant-loop-i l = l.n + main_of (functions_of (drop l.i l.items)) ≡ main_of (functions_of l.items)
