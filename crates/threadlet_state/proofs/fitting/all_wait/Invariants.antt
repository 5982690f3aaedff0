use Rattle.std.proofs.Common.{◌≡◌, take}
use Rattle.std.specs.Prelude.{true}
use Rattle.std.specs.List.{list_all}
use Rattle.threadlet_state.specs.Fit.{frame_fits}
use Rattle.threadlet_state.proofs.fitting.all_wait.Given as goal

abbrev pub invariant-loop-frame : goal.invariant-loop-frame
invariant-loop-frame l = list_all (frame_fits l.code.code 1) (take l.frame-index l.frames) ≡ true
