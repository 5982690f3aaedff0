use Rattle.std.proofs.Common.{◌≡◌, ◌++◌, drop}
use Rattle.cilk_types.specs.Places.{places_in_list}
use Rattle.cilk_types.proofs.locals.+counting.Given as goal

abbrev pub invariant-add_all_places-loop-i : goal.invariant-add_all_places-loop-i
invariant-add_all_places-loop-i l = l.places ++ places_in_list (drop l.i l.body) ≡ l.fn.places ++ places_in_list l.body
