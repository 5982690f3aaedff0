use Rattle.std.proofs.Common.{◌≡◌, ◌++◌, map, drop}
use Rattle.cilk_model.specs.Breaks.{functions_of}
use Rattle.cilk_types.proofs.file.function_places.Given as goal

abbrev pub invariant-loop-i : goal.invariant-loop-i
invariant-loop-i l = l.places ++ map (λ f. f.0) (functions_of (drop l.i l.items)) ≡ map (λ f. f.0) (functions_of l.items)
