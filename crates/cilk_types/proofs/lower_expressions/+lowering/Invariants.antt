use Rattle.std.proofs.Common.{◌≡◌, take}
use Rattle.cilk_types.specs.Lowered.{lowered_list}
use Rattle.cilk_types.specs.Shown.{names_of}
use Rattle.cilk_types.proofs.lower_expressions.+lowering.Given as goal

abbrev pub invariant-expressions-loop-i : goal.invariant-expressions-loop-i
invariant-expressions-loop-i l = l.made ≡ lowered_list (names_of l.scopes) l.frame (take l.i l.es)
