use Rattle.std.proofs.Common.{◌+◌, ◌-◌, ◌/◌, ◌<◌, ◌≤ℤ◌, ◌<ℤ◌, length, get_or, arith, rules, SFits, to_z, of_z, w64}
use Rattle.std.proofs.lemmas.Int.{ints, to_z-of_z}
use Rattle.nodelet_mem.proofs.RunsJoined.{no_run}
use Rattle.nodelet_mem.proofs.RunsOrdered.{more_before, more_behind}
use Rattle.nodelet_mem.proofs.grants.place_of.Goals as goal

pub loop-low-preserved-then-runs-middle : goal.loop-low-preserved-then-runs-middle
loop-low-preserved-then-runs-middle c =
    let inv = c.loop-low.invariant in
    let m = c.loop-low.low + (c.loop-low.high - c.loop-low.low) / 2 in
    let inside : m < length c.args.runs.now = omega arith in
    let fits : SFits w64 (get_or c.args.runs.now m no_run).first = search rules in
    let here : (get_or c.args.runs.now m no_run).first ≤ℤ to_z w64 (of_z w64 c.args.address) = grind (arith, ints, to_z-of_z w64 _ fits, c.if-runs-middle.true) in
    record {
      in_order = omega arith;
      within = inv.within;
      before = more_before c.args.runs.now m _ no_run c.requires inside here;
      behind = inv.behind;
    }

pub loop-low-preserved : goal.loop-low-preserved
loop-low-preserved c =
    let inv = c.loop-low.invariant in
    let m = c.loop-low.low + (c.loop-low.high - c.loop-low.low) / 2 in
    let inside : m < length c.args.runs.now = omega arith in
    let fits : SFits w64 (get_or c.args.runs.now m no_run).first = search rules in
    let here : to_z w64 (of_z w64 c.args.address) <ℤ (get_or c.args.runs.now m no_run).first = grind (arith, ints, to_z-of_z w64 _ fits, c.if-runs-middle.false) in
    record {
      in_order = omega arith;
      within = omega arith;
      before = inv.before;
      behind = more_behind c.args.runs.now m _ no_run c.requires inside here;
    }
