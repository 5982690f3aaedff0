use Rattle.std.proofs.Common.{◌∙◌, ap}
use Rattle.cilk_model.specs.Layout.{put}
use Rattle.cilk_model.specs.TreeTokens.{name, mark}
use Rattle.cilk_print.specs.Printing.{called, addressed}
use Rattle.cilk_print.proofs.expressions.address_of.Goals as goal

pub returns : goal.returns
unfolding called addressed
returns c =
    let marked = c.in_ok-operator.ensures ∙ ap (λ p. put p (mark "&")) c.in_ok-call_of.ensures in
    let named = c.in_ok-plain.ensures ∙ ap (λ p. put p (name c.args.name.now)) marked in
    rw named at c.tight.ensures
