use Rattle.std.proofs.Common.{◌≡◌, map, take}
use Rattle.cilk_types.proofs.items.param_places.Given as goal

abbrev pub invariant-loop-param : goal.invariant-loop-param
invariant-loop-param l = l.places ≡ map (λ p. p.pos) (take l.param-index l.params)
