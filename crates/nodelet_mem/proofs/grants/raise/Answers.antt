use Rattle.std.proofs.Common.{rules, ◌≤◌, ◌≤ℤ◌, SFits, subst, ap, ◌∙◌, refl, arith, ◌<◌, length, to_z, of_z}
use mir.Syntax.{w128}
use Rattle.std.proofs.lemmas.List.{get_or_default}
use Rattle.std.proofs.lemmas.Int.{to_z-of_z, ints}
use Rattle.nodelet_mem.specs.declared.grants.Run.{Run}
use Rattle.nodelet_mem.specs.Grants.{run_up_to, AreRaised}
use Rattle.nodelet_mem.proofs.RunsOrdered.{raised_sizes, raised_low, raised_high, raised_rest, raised_all}
use Rattle.nodelet_mem.proofs.grants.raise.Goals as goal

pub loop-i-preserved : goal.loop-i-preserved
loop-i-preserved c =
    let inv = c.loop-i.invariant in
    let xs = c.args.runs.now.items in
    let ys = c.loop-i.runs.items in
    let end = to_z w128 (of_z w128 c.args.end) in
    let below : c.loop-i.i < length ys = (let s = inv.sizes in omega arith) in
    record {
      sizes = raised_sizes xs ys _ c.args.from c.loop-i.i end c.up_to.result inv.sizes below refl;
      low = raised_low xs ys _ c.args.from c.loop-i.i end c.up_to.result inv.sizes below refl (omega arith) inv.low;
      high = raised_high xs ys _ c.args.from c.loop-i.i end c.up_to.result inv.sizes below refl
          (λ d. c.up_to.ensures ∙ ap (λ r. run_up_to r end) (c.index-in-loop-i.ensures ∙ get_or_default ys c.loop-i.i c.index-in-loop-i.result.now d below)) inv.high inv.rest;
      rest = raised_rest xs ys _ c.args.from c.loop-i.i end c.up_to.result inv.sizes below refl inv.rest;
    }

pub returns-then-end-index : goal.returns-then-end-index
returns-then-end-index c =
    let inv = c.loop-i.invariant in
    let xs = c.args.runs.now.items in
    let ys = c.loop-i.runs.items in
    let end = to_z w128 (of_z w128 c.args.end) in
    let x = c.index.result.now in
    let below : c.loop-i.i < length xs = (let s = inv.sizes in omega arith) in
    let le : c.args.from ≤ c.loop-i.i = omega arith in
    let fits : SFits w128 x.end = search rules in
    let reach : end ≤ℤ x.end = grind (arith, ints, to_z-of_z w128 x.end fits, c.if-end-index.true) in
    subst (λ e. AreRaised xs c.args.from e ys) (to_z-of_z w128 c.args.end c.ranges.end)
    (raised_all xs ys c.args.from c.loop-i.i end x c.requires le below inv.sizes
    (subst (λ (r : Run). end ≤ℤ r.end) (c.index.ensures ∙ inv.rest c.loop-i.i x (omega arith)) reach) inv.low inv.high inv.rest)
