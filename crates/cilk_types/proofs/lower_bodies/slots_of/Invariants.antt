use Rattle.std.proofs.Common.{◌≡◌, map, take}
use Rattle.cilk_model.specs.ExpressionLowering.{slot_in}
use Rattle.cilk_types.proofs.lower_bodies.slots_of.Given as goal

abbrev pub invariant-loop-number : goal.invariant-loop-number
invariant-loop-number l = l.slots ≡ map (slot_in l.frame) (take l.number-index l.numbers)
