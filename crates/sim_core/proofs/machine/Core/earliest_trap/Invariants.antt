use Rattle.std.proofs.Common.{◌≡◌}
use Rattle.std.specs.Prelude.{filter_map}
use Rattle.word_ops.specs.Report.{below}
use Rattle.threadlet_code.specs.declared.code.Code.{Code}
use Rattle.sim_core.specs.Kept.{core_in}
use Rattle.core_model.specs.CoreEnd.{earliest}
use Rattle.sim_core.proofs.machine.Core.earliest_trap.Given as goal

abbrev pub invariant-loop-k : goal.invariant-loop-k
invariant-loop-k l = (code : Code) → l.first ≡ earliest (filter_map (λ k. ((core_in code l.self).nodes k).first_trap) (below l.k))
