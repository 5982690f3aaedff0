use Rattle.std.proofs.Common.{◌≡◌, None}
use Rattle.std.specs.Prelude.{find, ◌==◌}
use Rattle.word_ops.specs.Report.{below}
use Rattle.merge_law.specs.Machine.{last_stamp}
use Rattle.threadlet_code.specs.declared.code.Code.{Code}
use Rattle.sim_core.specs.Kept.{core_in}
use Rattle.sim_core.proofs.machine.Core.without_stamps.Given as goal

abbrev pub invariant-loop-k : goal.invariant-loop-k
invariant-loop-k l = (code : Code) → find (λ k. ((core_in code l.self).nodes k).stamp == last_stamp) (below l.k) ≡ None
