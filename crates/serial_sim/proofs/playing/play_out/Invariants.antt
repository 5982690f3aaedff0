use Rattle.std.proofs.Common.{◌≡◌, true}
use Rattle.sim_core.specs.code.Numbered.{setup_with}
use Rattle.sim_core.specs.Kept.{core_in, core_fits}
use Rattle.core_model.specs.Rank.{rank}
use Rattle.serial_sim.specs.code.Going.{IsGoing}
use Rattle.serial_sim.proofs.playing.play_out.Given as goal

abbrev pub invariant-loop-told : goal.invariant-loop-told
invariant-loop-told l = record {
  going : IsGoing l.code.code l.seed (setup_with l.code.code l.n l.turns l.fn.rules) l.core l.generator l.told;
  fits : core_fits l.code.code l.core ≡ true;
  count : l.core.count ≡ l.n;
}

-- each event lowers the rank of the core
abbrev pub decreases-loop-told : goal.decreases-loop-told
decreases-loop-told l = rank (setup_with l.code.code l.n l.turns l.fn.rules) (core_in l.code.code l.core)
