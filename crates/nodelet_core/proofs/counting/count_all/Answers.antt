use Rattle.std.proofs.Common.{◌<◌, length, ap, ◌∙◌, arith}
use Rattle.std.proofs.Math.ListN.{length-set}
use Rattle.nodelet_core.proofs.Tallying.{all_then_one, rest_kept, bound_kept}
use Rattle.nodelet_core.proofs.counting.count_all.Goals as goal

pub loop-k-preserved : goal.loop-k-preserved
loop-k-preserved c =
    let first = c.args.counts.now in
    let before = c.loop-k.counts in
    let k = c.loop-k.k in
    let inside : k < length before = omega arith in
    record {
      size = (ap length c.count_one.ensures ∙ simp length-set) ∙ c.loop-k.invariant.size;
      all = all_then_one first before c.count_one.new.counts k inside c.loop-k.invariant.all c.count_one.ensures;
      rest = rest_kept first before c.count_one.new.counts k c.loop-k.invariant.rest c.count_one.ensures;
      bound = bound_kept first before c.count_one.new.counts k inside c.loop-k.invariant.rest c.loop-k.invariant.bound c.count_one.ensures;
    }
