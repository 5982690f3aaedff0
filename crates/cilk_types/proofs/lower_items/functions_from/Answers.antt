use Rattle.std.proofs.Common.{◌+◌, ◌<◌, add-one}
use Rattle.std.proofs.lemmas.List.{drop_all}
use Rattle.cilk_model.specs.Breaks.{entries_from}
use Rattle.cilk_types.specs.Shown.{file_of}
use Rattle.cilk_types.proofs.ArgumentLemmas.{at_item}
use Rattle.cilk_types.proofs.Fronts.{front_next, front_known}
use Rattle.cilk_types.proofs.WholeItems.{items_next, items_over}
use Rattle.cilk_types.proofs.lower_items.functions_from.Goals as goal

pub loop-i-preserved : goal.loop-i-preserved
loop-i-preserved c =
    let item = at_item c.args.items.now c.loop-i.i c.index-items-i.result c.loop-i-test.true c.index-items-i.is in
    let next = add-one c.loop-i.i in
    record {
      front =
          front_next c.args.items.now c.loop-i.i (c.loop-i.i + 1) c.index-items-i.result c.loop-i.file c.pass.new.file c.loop-i.counts
          c.in_ok-counts.counts next item c.in_ok-counts.ensures c.in_ok-pass.ensures.functions c.in_ok-pass.ensures.before c.loop-i.invariant.front;
      all =
          items_next (entries_from 0 0 0 c.args.items.now) c.args.items.now c.loop-i.i (c.loop-i.i + 1) c.index-items-i.result (file_of c.loop-i.file)
          c.loop-i.functions c.in_ok-functions.functions _ next item
          (front_known c.loop-i.file c.loop-i.counts c.loop-i.i c.args.items.now c.loop-i.invariant.front) c.in_ok-functions.ensures c.loop-i.invariant.all;
    }

pub returns : goal.returns
returns c = items_over _ c.loop-i.i _ c.loop-i.functions _ (drop_all c.loop-i.i c.args.items.now c.loop-i-test.false) c.loop-i.invariant.all
