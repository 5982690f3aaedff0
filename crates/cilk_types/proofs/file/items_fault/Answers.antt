use Rattle.std.proofs.Common.{◌+◌, ◌<◌, add-one}
use Rattle.std.proofs.lemmas.List.{drop_all}
use Rattle.cilk_model.specs.Breaks.{entries_from}
use Rattle.cilk_types.specs.Shown.{file_of}
use Rattle.cilk_types.proofs.ArgumentLemmas.{at_item}
use Rattle.cilk_types.proofs.Fronts.{front_next, front_known}
use Rattle.cilk_types.proofs.ItemForms.{found_next, found_over}
use Rattle.cilk_types.proofs.file.items_fault.Goals as goal

pub loop-i-preserved : goal.loop-i-preserved
loop-i-preserved c =
    let item = at_item c.args.items.now c.loop-i.i c.index-items-i.result c.loop-i-test.true c.index-items-i.is in
    let next = add-one c.loop-i.i in
    record {
      front =
          front_next c.args.items.now c.loop-i.i (c.loop-i.i + 1) c.index-items-i.result c.loop-i.file c.pass.new.file c.loop-i.counts
          c.in_ok-counts.counts next item c.in_ok-counts.ensures c.in_ok-twice.ensures.functions c.in_ok-twice.ensures.before c.loop-i.invariant.front;
      worst =
          found_next (entries_from 0 0 0 c.args.items.now) c.args.items.now c.loop-i.i (c.loop-i.i + 1) c.index-items-i.result (file_of c.loop-i.file)
          c.in_ok-twice.twice c.place_of.result c.in_ok-inner.inner c.broken_if-again.result c.earlier.result c.loop-i.worst c.earlier-worst.result _ next item
          (front_known c.loop-i.file c.loop-i.counts c.loop-i.i c.args.items.now c.loop-i.invariant.front)
          (c.in_ok-twice.ensures.twice _ c.loop-i.invariant.front.before) c.place_of.ensures c.in_ok-inner.ensures c.broken_if-again.ensures c.earlier.ensures
          c.earlier-worst.ensures c.loop-i.invariant.worst;
    }

pub returns : goal.returns
returns c = found_over _ c.loop-i.i _ c.loop-i.worst _ (drop_all c.loop-i.i c.args.items.now c.loop-i-test.false) c.loop-i.invariant.worst
