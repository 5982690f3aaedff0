use Rattle.std.proofs.Common.{◌∙◌, ap}
use Rattle.cilk_parser.specs.Parsers.{goes_on}
use Rattle.cilk_parser.proofs.Steps.{passes}
use Rattle.cilk_parser.proofs.CodeItems.{param_step}
use Rattle.cilk_parser.proofs.cursor.Cursor.param.Goals as goal

pub returns-in_err-take_word-clause-reads : goal.returns-in_err-take_word-clause-reads
returns-in_err-take_word-clause-reads c =
    passes _ _ _ _ _ _ c.from_residual.ensures.1 c.in_err-take_word.ensures.reads (param_step _)

pub returns-in_err-pos-clause-reads : goal.returns-in_err-pos-clause-reads
returns-in_err-pos-clause-reads c =
    passes _ _ _ _ _ _ c.from_residual-in_err-pos.ensures.1 c.in_err-pos.ensures.reads (param_step _ ∙ ap (goes_on _) c.in_ok-take_word.ensures.reads ∙ ap (goes_on _) c.star-kind.ensures.reads)

pub returns-clause-reads : goal.returns-clause-reads
returns-clause-reads c =
    param_step _ ∙ ap (goes_on _) c.in_ok-take_word.ensures.reads ∙ ap (goes_on _) c.star-kind.ensures.reads ∙ ap (goes_on _) c.in_ok-pos.ensures.reads
