use Rattle.std.proofs.Common.{◌≡◌, drop}
use Rattle.cilk_model.specs.Breaks.{functions_of, has_main}
use Rattle.cilk_types.proofs.file.has_main.Given as goal

abbrev pub invariant-loop-i : goal.invariant-loop-i
invariant-loop-i l = has_main (functions_of (drop l.i l.items)) ≡ has_main (functions_of l.items)
