use Rattle.std.proofs.Common.{◌≡◌, take}
use Rattle.std.specs.Prelude.{true}
use Rattle.threadlet_state.specs.Fit.{are_slots}
use Rattle.threadlet_state.proofs.fitting.have_slots.Given as goal

abbrev pub invariant-loop-target : goal.invariant-loop-target
invariant-loop-target l = are_slots l.slots (take l.target-index l.targets) ≡ true
