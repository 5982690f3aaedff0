use Rattle.std.proofs.Common.{◌≡◌}
use Rattle.std.specs.Prelude.{true}
use Rattle.sim_core.specs.Kept.{core_fits}
use Rattle.sim_core.specs.Advanced.{IsReached}
use Rattle.sim_core.proofs.tests.play.Given as goal

abbrev pub invariant-loop-happened : goal.invariant-loop-happened
invariant-loop-happened l = record {
  reached : IsReached l.code.code l.core;
  fits : core_fits l.code.code l.core ≡ true;
  count : l.core.count ≡ l.initial.core.count;
}
