use Rattle.std.proofs.Common.{◌∙◌, ap, sym, ◌+◌, drop}
use Rattle.cilk_model.specs.Layout.{put}
use Rattle.cilk_model.specs.TreeTokens.{mark}
use Rattle.cilk_print.specs.Printing.{printed_statements}
use Rattle.cilk_print.proofs.StatementSteps.{statements_next, statements_last}
use Rattle.cilk_print.proofs.SimpleStatements.{simple_statement}
use Rattle.cilk_print.proofs.statements.+statements.Goals as goal

pub statement-returns-in_ok-simple-in_default : goal.statement-returns-in_ok-simple-in_default
statement-returns-in_ok-simple-in_default t c =
    rw (simple_statement c.args.page.now c.args.s.now c.in_default.not-Block c.in_default.not-If c.in_default.not-While c.in_default.not-For c.in_default.not-CilkFor
    ∙ ap (λ p. put p (mark ";")) (sym c.in_ok-simple-in_default.ensures))
    c.semicolon.ensures

pub statements-loop-i-preserved : goal.statements-loop-i-preserved
statements-loop-i-preserved t c =
    ap (λ p. printed_statements p (drop (c.loop-i.i + 1) c.args.body.now)) c.in_ok-statement.ensures
    ∙ sym (statements_next c.loop-i.page c.args.body.now c.loop-i.i c.index-body-i.result c.loop-i-test.true c.index-body-i.is)
    ∙ c.loop-i.invariant

pub statements-returns : goal.statements-returns
statements-returns t c = sym (statements_last c.loop-i.page c.args.body.now c.loop-i.i c.loop-i-test.false) ∙ c.loop-i.invariant
