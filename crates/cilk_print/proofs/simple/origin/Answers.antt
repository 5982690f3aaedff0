use Rattle.std.proofs.Common.{◌∙◌, ap, sym}
use Rattle.cilk_print.specs.Printing.{bracketed, printed_origin}
use Rattle.cilk_print.proofs.StatementSteps.{no_origin, some_origin}
use Rattle.cilk_print.proofs.simple.origin.Goals as goal

pub returns-in-None : goal.returns-in-None
returns-in-None c = rw (ap (printed_origin c.args.page.now) c.in-None.is ∙ no_origin c.args.page.now) c.word.ensures

pub returns-in_ok-word-in-Some : goal.returns-in_ok-word-in-Some
returns-in_ok-word-in-Some c =
    rw (ap (printed_origin c.args.page.now) c.in-Some.is ∙ some_origin c.args.page.now c.in-Some.hint ∙ ap (λ p. bracketed p c.in-Some.hint) (sym c.in_ok-word-in-Some.ensures))
    c.bracketed.ensures
