use Rattle.std.proofs.Common.{◌+◌, add-one}
use Rattle.std.proofs.lemmas.List.{drop_all}
use Rattle.cilk_types.proofs.ArgumentLemmas.{at_item}
use Rattle.cilk_types.proofs.PlaceForms.{places_next, places_over, for_added}
use Rattle.cilk_types.proofs.locals.+counting.Goals as goal

pub add_all_places-loop-i-preserved : goal.add_all_places-loop-i-preserved
add_all_places-loop-i-preserved t c =
    places_next c.args.body.now c.loop-i.i (c.loop-i.i + 1) c.index-body-i.result c.loop-i.places c.add_places.new.places _ (add-one c.loop-i.i)
    (at_item c.args.body.now c.loop-i.i c.index-body-i.result c.loop-i-test.true c.index-body-i.is) c.in_ok-add_places.ensures c.loop-i.invariant

pub add_all_places-returns : goal.add_all_places-returns
add_all_places-returns t c = places_over _ c.loop-i.places _ (drop_all c.loop-i.i c.args.body.now c.loop-i-test.false) c.loop-i.invariant

pub add_places-returns-in_ok-add_places-in-For : goal.add_places-returns-in_ok-add_places-in-For
add_places-returns-in_ok-add_places-in-For t c =
    for_added c.args.s.now c.in-For.init c.in-For.test c.in-For.step c.in-For.body c.get-in-For.result.now c.args.places.now
    c.add_places_of_part-in-For.new.places c.add_places_of_part-in-For-2.new.places c.add_places-in-For.new.places c.in-For.is c.get-in-For.ensures
    c.in_ok-add_places_of_part-in-For.ensures c.in_ok-add_places_of_part-in-For-2.ensures c.in_ok-add_places-in-For.ensures
