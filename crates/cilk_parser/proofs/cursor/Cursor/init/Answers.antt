use Rattle.std.proofs.Common.{sym, ◌∙◌, ap}
use Rattle.cilk_parser.specs.Parsers.{goes_on}
use Rattle.cilk_parser.proofs.Steps.{passes}
use Rattle.cilk_parser.proofs.CodeStatements.{init_none, init_some, init_local_there, init_local_not}
use Rattle.cilk_parser.proofs.cursor.Cursor.init.Goals as goal

pub returns-then-at_mark-clause-reads : goal.returns-then-at_mark-clause-reads
returns-then-at_mark-clause-reads c =
    init_none _ (sym c.if-at_mark.ensures)

pub returns-in_err-local-clause-reads : goal.returns-in_err-local-clause-reads
returns-in_err-local-clause-reads c =
    passes _ _ _ _ _ _ c.from_residual.ensures.1 c.in_err-local.ensures.reads (init_some _ (sym c.if-at_mark.ensures) ∙ init_local_there c.word.result _ _ c.word.ensures.found c.word.ensures.left (sym c.if-is_some.ensures))

pub returns-then-is_some-clause-reads : goal.returns-then-is_some-clause-reads
returns-then-is_some-clause-reads c =
    init_some _ (sym c.if-at_mark.ensures) ∙ init_local_there c.word.result _ _ c.word.ensures.found c.word.ensures.left (sym c.if-is_some.ensures) ∙ ap (goes_on _) c.in_ok-local.ensures.reads

pub returns-in_err-simple-clause-reads : goal.returns-in_err-simple-clause-reads
returns-in_err-simple-clause-reads c =
    passes _ _ _ _ _ _ c.from_residual-in_err-simple.ensures.1 c.in_err-simple.ensures.reads (init_some _ (sym c.if-at_mark.ensures) ∙ init_local_not c.word.result _ _ c.word.ensures.found c.word.ensures.left (sym c.if-is_some.ensures))

pub returns-clause-reads : goal.returns-clause-reads
returns-clause-reads c =
    init_some _ (sym c.if-at_mark.ensures) ∙ init_local_not c.word.result _ _ c.word.ensures.found c.word.ensures.left (sym c.if-is_some.ensures) ∙ ap (goes_on _) c.in_ok-simple.ensures.reads
