use Rattle.std.proofs.Common.{◌∙◌, ap}
use Rattle.cilk_parser.specs.Parsers.{goes_on}
use Rattle.cilk_parser.proofs.Steps.{passes}
use Rattle.cilk_parser.proofs.CodeStatements.{spawn_step}
use Rattle.cilk_parser.proofs.cursor.Cursor.spawn.Goals as goal

pub returns-in_err-pos-clause-reads : goal.returns-in_err-pos-clause-reads
returns-in_err-pos-clause-reads c =
    passes _ _ _ _ _ _ c.from_residual.ensures.1 c.in_err-pos.ensures.reads (spawn_step _)

pub returns-in_err-name_pos-clause-reads : goal.returns-in_err-name_pos-clause-reads
returns-in_err-name_pos-clause-reads c =
    passes _ _ _ _ _ _ c.from_residual-in_err-name_pos.ensures.1 c.in_err-name_pos.ensures.reads (spawn_step _ ∙ ap (goes_on _) c.in_ok-pos.ensures.reads)

pub returns-in_err-take_mark-clause-reads : goal.returns-in_err-take_mark-clause-reads
returns-in_err-take_mark-clause-reads c =
    passes _ _ _ _ _ _ c.from_residual-in_err-take_mark.ensures.1 c.in_err-take_mark.ensures.reads (spawn_step _ ∙ ap (goes_on _) c.in_ok-pos.ensures.reads ∙ ap (goes_on _) c.in_ok-name_pos.ensures.reads)

pub returns-in_err-args-clause-reads : goal.returns-in_err-args-clause-reads
returns-in_err-args-clause-reads c =
    passes _ _ _ _ _ _ c.from_residual-in_err-args.ensures.1 c.in_err-args.ensures.reads (spawn_step _ ∙ ap (goes_on _) c.in_ok-pos.ensures.reads ∙ ap (goes_on _) c.in_ok-name_pos.ensures.reads ∙ ap (goes_on _) c.in_ok-take_mark.ensures.reads)

pub returns-in_err-take_mark-2-clause-reads : goal.returns-in_err-take_mark-2-clause-reads
returns-in_err-take_mark-2-clause-reads c =
    passes _ _ _ _ _ _ c.from_residual-in_err-take_mark-2.ensures.1 c.in_err-take_mark-2.ensures.reads (spawn_step _ ∙ ap (goes_on _) c.in_ok-pos.ensures.reads ∙ ap (goes_on _) c.in_ok-name_pos.ensures.reads ∙ ap (goes_on _) c.in_ok-take_mark.ensures.reads ∙ ap (goes_on _) c.in_ok-args.ensures.reads)

pub returns-clause-reads : goal.returns-clause-reads
returns-clause-reads c =
    spawn_step _ ∙ ap (goes_on _) c.in_ok-pos.ensures.reads ∙ ap (goes_on _) c.in_ok-name_pos.ensures.reads ∙ ap (goes_on _) c.in_ok-take_mark.ensures.reads ∙ ap (goes_on _) c.in_ok-args.ensures.reads ∙ ap (goes_on _) c.in_ok-take_mark-2.ensures.reads
