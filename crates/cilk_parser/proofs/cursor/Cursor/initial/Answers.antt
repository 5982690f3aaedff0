use Rattle.std.proofs.Common.{◌∙◌, ap}
use Rattle.cilk_parser.specs.Parsers.{goes_on}
use Rattle.cilk_parser.proofs.Steps.{passes}
use Rattle.cilk_parser.proofs.CodeStatements.{initial_there, initial_not}
use Rattle.cilk_parser.proofs.cursor.Cursor.initial.Goals as goal

pub returns-then-is_none-clause-reads : goal.returns-then-is_none-clause-reads
returns-then-is_none-clause-reads c =
    initial_not c.mark.result _ _ c.mark.ensures.found c.mark.ensures.left c.if-is_none.ensures

pub returns-in_err-value-clause-reads : goal.returns-in_err-value-clause-reads
returns-in_err-value-clause-reads c =
    passes _ _ _ _ _ _ c.from_residual.ensures.1 c.in_err-value.ensures.reads (initial_there c.mark.result _ _ c.mark.ensures.found c.mark.ensures.left c.if-is_none.ensures)

pub returns-clause-reads : goal.returns-clause-reads
returns-clause-reads c =
    initial_there c.mark.result _ _ c.mark.ensures.found c.mark.ensures.left c.if-is_none.ensures ∙ ap (goes_on _) c.in_ok-value.ensures.reads
