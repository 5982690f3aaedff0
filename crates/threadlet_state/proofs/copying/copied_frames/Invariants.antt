use Rattle.std.proofs.Common.{◌≡◌, ◌++◌, take, drop}
use Rattle.threadlet_state.proofs.copying.copied_frames.Given as goal

abbrev pub invariant-loop-i : goal.invariant-loop-i
invariant-loop-i l = l.copies ≡ take l.i l.frames ++ drop l.i l.initial.copies
