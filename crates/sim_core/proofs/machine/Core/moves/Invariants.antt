use Rattle.std.proofs.Common.{◌≡◌, map}
use Rattle.std.specs.Prelude.{flat_map}
use Rattle.word_ops.specs.Report.{below}
use Rattle.threadlet_code.specs.declared.code.Code.{Code}
use Rattle.sim_core.specs.Kept.{core_in}
use Rattle.sim_core.proofs.machine.Core.moves.Given as goal

abbrev pub invariant-loop-i : goal.invariant-loop-i
invariant-loop-i l = (code : Code) → l.counts ≡ flat_map (λ i. map (λ j. ((core_in code l.self).nodes j).tallies.moves i) (below l.self.count)) (below l.i)
