use Rattle.std.proofs.Common.{◌≡◌, false, is_some}
use Rattle.std.specs.List.{list_any}
use Rattle.word_ops.specs.Report.{below}
use Rattle.threadlet_code.specs.declared.code.Code.{Code}
use Rattle.sim_core.specs.Kept.{core_in}
use Rattle.serial_sim.proofs.choosing.has_trapped.Given as goal

-- no nodelet before this one has trapped
abbrev pub invariant-loop-k : goal.invariant-loop-k
invariant-loop-k l = (code : Code) → list_any (λ k. is_some ((core_in code l.core).nodes k).first_trap) (below l.k) ≡ false
