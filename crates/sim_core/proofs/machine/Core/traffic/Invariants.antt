use Rattle.std.proofs.Common.{◌≡◌}
use Rattle.threadlet_code.specs.declared.code.Code.{Code}
use Rattle.sim_core.specs.Kept.{core_in}
use Rattle.sim_core.specs.code.CountedUpTo.{IsCountedUpTo}
use Rattle.sim_core.proofs.machine.Core.traffic.Given as goal

abbrev pub invariant-loop-k : goal.invariant-loop-k
invariant-loop-k l = record {
  n : l.traffic.n ≡ l.initial.traffic.n;
  moves : l.traffic.moves ≡ l.initial.traffic.moves;
  counted : (code : Code) → IsCountedUpTo l.self.count (core_in code l.self) l.k l.traffic;
}
