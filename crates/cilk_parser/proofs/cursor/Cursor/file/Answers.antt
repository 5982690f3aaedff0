use Rattle.std.proofs.Common.{◌∙◌, ap}
use Rattle.cilk_parser.specs.Parsers.{goes_on}
use Rattle.cilk_parser.proofs.Steps.{passes}
use Rattle.cilk_parser.proofs.CodeItems.{file_step}
use Rattle.cilk_parser.proofs.cursor.Cursor.file.Goals as goal

pub returns-in_err-items-clause-reads : goal.returns-in_err-items-clause-reads
returns-in_err-items-clause-reads c =
    passes _ _ _ _ _ _ c.from_residual.ensures.1 c.in_err-items.ensures.reads (file_step _)

pub returns-in_err-end-clause-reads : goal.returns-in_err-end-clause-reads
returns-in_err-end-clause-reads c =
    passes _ _ _ _ _ _ c.from_residual-in_err-end.ensures.1 c.in_err-end.ensures.reads (file_step _ ∙ ap (goes_on _) c.in_ok-items.ensures.reads)

pub returns-clause-reads : goal.returns-clause-reads
returns-clause-reads c =
    file_step _ ∙ ap (goes_on _) c.in_ok-items.ensures.reads ∙ ap (goes_on _) c.in_ok-end.ensures.reads
