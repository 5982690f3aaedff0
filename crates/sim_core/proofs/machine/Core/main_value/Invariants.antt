use Rattle.std.proofs.Common.{◌≡◌, []}
use Rattle.std.specs.Prelude.{filter_map}
use Rattle.word_ops.specs.Report.{below}
use Rattle.threadlet_code.specs.declared.code.Code.{Code}
use Rattle.sim_core.specs.Kept.{core_in}
use Rattle.sim_core.proofs.machine.Core.main_value.Given as goal

abbrev pub invariant-loop-k : goal.invariant-loop-k
invariant-loop-k l = (code : Code) → filter_map (λ k. ((core_in code l.self).nodes k).main_value) (below l.k) ≡ []
