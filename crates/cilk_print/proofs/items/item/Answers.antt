use Rattle.std.proofs.Common.{◌∙◌, ap, sym}
use Rattle.cilk_model.specs.Layout.{put}
use Rattle.cilk_model.specs.TreeTokens.{mark, name}
use Rattle.cilk_print.specs.Printing.{params_between, printed_item, printed_statement}
use Rattle.cilk_print.proofs.ItemSteps.{function_step}
use Rattle.cilk_print.proofs.items.item.Goals as goal

pub returns-in_ok-close_round-in-Function : goal.returns-in_ok-close_round-in-Function
returns-in_ok-close_round-in-Function c =
    let f = c.in-Function.name in
    let params = c.in-Function.params in
    let named = c.in_ok-plain-in-Function.ensures
    ∙ (λ i. put (c.in_ok-result_kind-in-Function.ensures i) (name (c.as_slice-in-Function.ensures i))) in
    let opened = c.in_ok-open_round-in-Function.ensures ∙ ap (λ p. put p (mark "(")) named in
    let closed = c.in_ok-close_round-in-Function.ensures
    ∙ ap (λ p. put p (mark ")")) (c.in_ok-between_commas-in-Function.ensures ∙ (λ i. params_between (opened i) (c.as_slice-in-Function-2.ensures i))) in
    rw (ap (printed_item c.args.page.now) c.in-Function.is
    ∙ function_step c.args.page.now c.in-Function.pos c.in-Function.result c.in-Function.name_pos f params c.in-Function.body
    ∙ ap (λ p. printed_statement p c.in-Function.body) (sym closed)) c.statement.ensures
