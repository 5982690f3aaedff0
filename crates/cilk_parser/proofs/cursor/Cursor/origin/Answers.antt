use Rattle.std.proofs.Common.{◌∙◌, ap}
use Rattle.cilk_parser.specs.Parsers.{goes_on}
use Rattle.cilk_parser.proofs.Steps.{passes}
use Rattle.cilk_parser.proofs.CodeStatements.{origin_here, origin_placed}
use Rattle.cilk_parser.proofs.cursor.Cursor.origin.Goals as goal

pub returns-in-Some-clause-reads : goal.returns-in-Some-clause-reads
returns-in-Some-clause-reads c =
    origin_here _ _ _ c.in-Some.ensures.found c.in-Some.ensures.left

pub returns-in_err-pos-clause-reads : goal.returns-in_err-pos-clause-reads
returns-in_err-pos-clause-reads c =
    passes _ _ _ _ _ _ c.from_residual.ensures.1 c.in_err-pos.ensures.reads (origin_placed _ _ c.in_default.ensures.found c.in_default.ensures.left)

pub returns-in_err-take_mark-clause-reads : goal.returns-in_err-take_mark-clause-reads
returns-in_err-take_mark-clause-reads c =
    passes _ _ _ _ _ _ c.from_residual-in_err-take_mark.ensures.1 c.in_err-take_mark.ensures.reads (origin_placed _ _ c.in_default.ensures.found c.in_default.ensures.left ∙ ap (goes_on _) c.in_ok-pos.ensures.reads)

pub returns-in_err-hint-clause-reads : goal.returns-in_err-hint-clause-reads
returns-in_err-hint-clause-reads c =
    passes _ _ _ _ _ _ c.from_residual-in_err-hint.ensures.1 c.in_err-hint.ensures.reads (origin_placed _ _ c.in_default.ensures.found c.in_default.ensures.left ∙ ap (goes_on _) c.in_ok-pos.ensures.reads ∙ ap (goes_on _) c.in_ok-take_mark.ensures.reads)

pub returns-in_err-take_mark-2-clause-reads : goal.returns-in_err-take_mark-2-clause-reads
returns-in_err-take_mark-2-clause-reads c =
    passes _ _ _ _ _ _ c.from_residual-in_err-take_mark-2.ensures.1 c.in_err-take_mark-2.ensures.reads (origin_placed _ _ c.in_default.ensures.found c.in_default.ensures.left ∙ ap (goes_on _) c.in_ok-pos.ensures.reads ∙ ap (goes_on _) c.in_ok-take_mark.ensures.reads ∙ ap (goes_on _) c.in_ok-hint.ensures.reads)

pub returns-clause-reads : goal.returns-clause-reads
returns-clause-reads c =
    origin_placed _ _ c.in_default.ensures.found c.in_default.ensures.left ∙ ap (goes_on _) c.in_ok-pos.ensures.reads ∙ ap (goes_on _) c.in_ok-take_mark.ensures.reads ∙ ap (goes_on _) c.in_ok-hint.ensures.reads ∙ ap (goes_on _) c.in_ok-take_mark-2.ensures.reads
