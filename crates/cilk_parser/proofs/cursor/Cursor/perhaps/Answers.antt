use Rattle.std.proofs.Common.{sym, ◌∙◌, ap}
use Rattle.cilk_parser.specs.Parsers.{goes_on}
use Rattle.cilk_parser.proofs.Steps.{passes}
use Rattle.cilk_parser.proofs.CodeStatements.{perhaps_none, perhaps_some}
use Rattle.cilk_parser.proofs.cursor.Cursor.perhaps.Goals as goal

pub returns-then-at_mark-clause-reads : goal.returns-then-at_mark-clause-reads
returns-then-at_mark-clause-reads c =
    perhaps_none _ (sym c.if-at_mark.ensures)

pub returns-in_err-there-clause-reads : goal.returns-in_err-there-clause-reads
returns-in_err-there-clause-reads c =
    passes _ _ _ _ _ _ c.from_residual.ensures.1 c.in_err-there.ensures.reads (perhaps_some _ (sym c.if-at_mark.ensures))

pub returns-clause-reads : goal.returns-clause-reads
returns-clause-reads c =
    perhaps_some _ (sym c.if-at_mark.ensures) ∙ ap (goes_on _) c.in_ok-there.ensures.reads
