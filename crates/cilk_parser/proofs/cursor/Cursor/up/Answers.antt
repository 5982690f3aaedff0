use Rattle.std.proofs.Common.{sym, ◌∙◌, ap}
use Rattle.cilk_parser.specs.Parsers.{goes_on}
use Rattle.cilk_parser.proofs.Steps.{passes, onward}
use Rattle.cilk_parser.proofs.CodeStatements.{up_named, up_marked}
use Rattle.cilk_parser.proofs.cursor.Cursor.up.Goals as goal

pub returns-in_err-take_mark-clause-reads : goal.returns-in_err-take_mark-clause-reads
returns-in_err-take_mark-clause-reads c =
    passes _ _ _ _ _ _ c.from_residual-in_err-take_mark.ensures.1 c.in_err-take_mark.ensures.reads (up_named _ (sym c.if-at_name.ensures) ∙ ap (goes_on _) c.in_ok-name.ensures.reads)

pub returns-then-at_name-clause-reads : goal.returns-then-at_name-clause-reads
returns-then-at_name-clause-reads c =
    up_named _ (sym c.if-at_name.ensures) ∙ ap (goes_on _) c.in_ok-name.ensures.reads ∙ ap (goes_on _) c.in_ok-take_mark.ensures.reads

pub returns-in_err-name-clause-reads : goal.returns-in_err-name-clause-reads
returns-in_err-name-clause-reads c =
    passes _ _ _ _ _ _ c.from_residual.ensures.1 c.in_err-name.ensures.reads (up_named _ (sym c.if-at_name.ensures))

pub returns-in_err-take_mark-2-clause-reads : goal.returns-in_err-take_mark-2-clause-reads
returns-in_err-take_mark-2-clause-reads c =
    passes _ _ _ _ _ _ c.from_residual-in_err-take_mark-2.ensures.1 c.in_err-take_mark-2.ensures.reads (up_marked _ (sym c.if-at_name.ensures))

pub returns-clause-reads : goal.returns-clause-reads
returns-clause-reads c =
    onward _ _ _ _ (up_marked _ (sym c.if-at_name.ensures) ∙ ap (goes_on _) c.in_ok-take_mark-2.ensures.reads) c.take_name-2.ensures.reads
