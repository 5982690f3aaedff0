use Rattle.std.proofs.Common.{sym, ◌∙◌, reverse}
use Rattle.cilk_model.specs.Lexemes.{lexeme_of}
use Rattle.cilk_parser.specs.NestingOf.{nesting_of}
use Rattle.cilk_parser.proofs.Innermost.{on_ok, kept_all, closed_kept, passed_open, passed_close, passed_other}
use Rattle.cilk_parser.proofs.nesting.Nesting.pass_bracket.Goals as goal

pub returns-then-opens-clause-brackets : goal.returns-then-opens-clause-brackets
returns-then-opens-clause-brackets c =
    on_ok c.open.result _ _
    (λ e. e ∙ passed_open (nesting_of c.args.text.now c.args.self.now) (lexeme_of c.args.text.now c.args.token) (sym c.if-opens.ensures) (kept_all (reverse c.args.self.now.brackets)))
    c.open.ensures.brackets

pub returns-then-closes-clause-brackets : goal.returns-then-closes-clause-brackets
returns-then-closes-clause-brackets c =
    c.close.ensures.brackets ∙ sym (closed_kept (reverse c.args.self.now.brackets))
    ∙ passed_close (nesting_of c.args.text.now c.args.self.now) (lexeme_of c.args.text.now c.args.token) (sym c.if-opens.ensures) (sym c.if-closes.ensures)

pub returns-else-is_mark-clause-brackets : goal.returns-else-is_mark-clause-brackets
returns-else-is_mark-clause-brackets c =
    sym (kept_all (reverse c.args.self.now.brackets))
    ∙ passed_other (nesting_of c.args.text.now c.args.self.now) (lexeme_of c.args.text.now c.args.token) (sym c.if-opens.ensures) (sym c.if-closes.ensures) (sym c.if-is_mark.ensures)
