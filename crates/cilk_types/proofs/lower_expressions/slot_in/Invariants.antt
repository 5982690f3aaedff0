use Rattle.std.proofs.Common.{◌≡◌, ◌+◌, drop}
use Rattle.cilk_model.specs.ExpressionLowering.{slot_in}
use Rattle.cilk_types.proofs.lower_expressions.slot_in.Given as goal

abbrev pub invariant-loop-other : goal.invariant-loop-other
invariant-loop-other l = l.slot + slot_in (drop l.other-index l.frame) l.number ≡ slot_in l.frame l.number
