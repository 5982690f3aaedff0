use Rattle.std.proofs.Common.{◌≡◌, take}
use Rattle.cilk_model.specs.Copies.{copies_of}
use Rattle.cilk_types.proofs.frames.among.Given as goal

abbrev pub invariant-loop-number : goal.invariant-loop-number
invariant-loop-number l = l.copies ≡ copies_of (take l.number-index l.frame) l.fn.named
