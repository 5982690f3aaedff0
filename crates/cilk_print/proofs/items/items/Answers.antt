use Rattle.std.proofs.Common.{◌∙◌, ap, sym, ◌+◌, drop}
use Rattle.cilk_print.specs.Printing.{printed_items}
use Rattle.cilk_print.proofs.ItemSteps.{items_next, items_last}
use Rattle.cilk_print.proofs.items.items.Goals as goal

pub loop-i-preserved : goal.loop-i-preserved
loop-i-preserved c =
    ap (λ p. printed_items p (drop (c.loop-i.i + 1) c.args.items.now)) c.in_ok-item.ensures
    ∙ sym (items_next c.loop-i.page c.args.items.now c.loop-i.i c.index-items-i.result c.loop-i-test.true c.index-items-i.is)
    ∙ c.loop-i.invariant

pub returns : goal.returns
returns c = sym (items_last c.loop-i.page c.args.items.now c.loop-i.i c.loop-i-test.false) ∙ c.loop-i.invariant
