use Rattle.std.proofs.Common.{◌∙◌, ap, sym, ◌+◌, drop}
use Rattle.cilk_print.specs.Printing.{params_behind, printed_param}
use Rattle.cilk_print.proofs.ItemSteps.{params_next, params_last}
use Rattle.cilk_print.proofs.items.behind_commas.Goals as goal

pub loop-i-preserved : goal.loop-i-preserved
loop-i-preserved c =
    ap (λ p. params_behind p (drop (c.loop-i.i + 1) c.args.params.now)) (c.in_ok-param.ensures ∙ ap (λ p. printed_param p c.index-params-i.result) c.in_ok-tight.ensures)
    ∙ sym (params_next c.loop-i.page c.args.params.now c.loop-i.i c.index-params-i.result c.loop-i-test.true c.index-params-i.is)
    ∙ c.loop-i.invariant

pub returns : goal.returns
returns c = sym (params_last c.loop-i.page c.args.params.now c.loop-i.i c.loop-i-test.false) ∙ c.loop-i.invariant
