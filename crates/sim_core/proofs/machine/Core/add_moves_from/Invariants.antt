use Rattle.std.proofs.Common.{◌≡◌, ◌++◌, map}
use Rattle.word_ops.specs.Report.{below}
use Rattle.threadlet_code.specs.declared.code.Code.{Code}
use Rattle.sim_core.specs.Kept.{core_in}
use Rattle.sim_core.proofs.machine.Core.add_moves_from.Given as goal

abbrev pub invariant-loop-j : goal.invariant-loop-j
invariant-loop-j l = (code : Code) → l.counts ≡ l.initial.counts ++ map (λ j. ((core_in code l.self).nodes j).tallies.moves l.i) (below l.j)
