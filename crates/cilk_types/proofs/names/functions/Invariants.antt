use Rattle.std.proofs.Common.{drop}
use Rattle.cilk_model.specs.Breaks.{entries_from}
use Rattle.cilk_types.specs.Shown.{bare}
use Rattle.cilk_types.specs.Files.{entries_behind, Keeps}
use Rattle.cilk_types.proofs.names.functions.Given as goal

abbrev pub invariant-loop-i : goal.invariant-loop-i
invariant-loop-i l = Keeps (bare l.found.entries) (entries_behind l.counts (drop l.i l.items)) (entries_from 0 0 0 l.items)
