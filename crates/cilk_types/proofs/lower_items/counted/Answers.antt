use Rattle.std.proofs.Common.{◌+◌, add-one, refl}
use Rattle.std.proofs.lemmas.List.{drop_all}
use Rattle.cilk_types.proofs.ArgumentLemmas.{at_item}
use Rattle.cilk_types.proofs.WholeItems.{counting_none, counting_next, counting_over}
use Rattle.cilk_types.proofs.lower_items.counted.Goals as goal

pub loop-i-init : goal.loop-i-init
loop-i-init c = counting_none c.args.items.now _ refl

pub loop-i-preserved : goal.loop-i-preserved
loop-i-preserved c =
    let item = at_item c.args.items.now c.loop-i.i c.index-items-i.result c.loop-i-test.true c.index-items-i.is in
    counting_next c.args.items.now c.loop-i.i (c.loop-i.i + 1) c.index-items-i.result c.loop-i.counts c.in_ok-counts.counts (add-one c.loop-i.i) item
    c.in_ok-counts.ensures c.loop-i.invariant

pub returns : goal.returns
returns c = counting_over c.args.items.now _ c.loop-i.counts (drop_all c.loop-i.i c.args.items.now c.loop-i-test.false) c.loop-i.invariant
