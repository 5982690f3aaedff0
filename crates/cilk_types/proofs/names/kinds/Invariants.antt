use Rattle.std.proofs.Common.{◌≡◌, map, take}
use Rattle.cilk_types.proofs.names.kinds.Given as goal

abbrev pub invariant-loop-param : goal.invariant-loop-param
invariant-loop-param l = l.kinds ≡ map (λ p. p.kind) (take l.param-index l.params)
