use Rattle.std.proofs.Common.{sym, ◌∙◌, ap}
use Rattle.cilk_parser.specs.Parsers.{goes_on}
use Rattle.cilk_parser.proofs.Steps.{passes, onward}
use Rattle.cilk_parser.proofs.CodeStatements.{up_there, up_not, down_there, down_not}
use Rattle.cilk_parser.proofs.cursor.Cursor.simple.Goals as goal

pub returns-in_err-left-clause-reads : goal.returns-in_err-left-clause-reads
returns-in_err-left-clause-reads c =
    passes _ _ _ _ _ _ c.from_residual.ensures.1 c.in_err-left.ensures.reads (up_there c.args.may_spawn c.mark.result _ _ c.mark.ensures.found c.mark.ensures.left (sym c.if-is_some.ensures))

pub returns-then-is_some-clause-reads : goal.returns-then-is_some-clause-reads
returns-then-is_some-clause-reads c =
    up_there c.args.may_spawn c.mark.result _ _ c.mark.ensures.found c.mark.ensures.left (sym c.if-is_some.ensures) ∙ ap (goes_on _) c.in_ok-left.ensures.reads

pub returns-in_err-left-2-clause-reads : goal.returns-in_err-left-2-clause-reads
returns-in_err-left-2-clause-reads c =
    passes _ _ _ _ _ _ c.from_residual-in_err-left-2.ensures.1 c.in_err-left-2.ensures.reads (up_not c.args.may_spawn c.mark.result _ _ c.mark.ensures.found c.mark.ensures.left (sym c.if-is_some.ensures) ∙ down_there c.args.may_spawn c.mark-2.result _ _ c.mark-2.ensures.found c.mark-2.ensures.left (sym c.if-is_some-2.ensures))

pub returns-then-is_some-2-clause-reads : goal.returns-then-is_some-2-clause-reads
returns-then-is_some-2-clause-reads c =
    up_not c.args.may_spawn c.mark.result _ _ c.mark.ensures.found c.mark.ensures.left (sym c.if-is_some.ensures) ∙ down_there c.args.may_spawn c.mark-2.result _ _ c.mark-2.ensures.found c.mark-2.ensures.left (sym c.if-is_some-2.ensures) ∙ ap (goes_on _) c.in_ok-left-2.ensures.reads

pub returns-in_err-left-3-clause-reads : goal.returns-in_err-left-3-clause-reads
returns-in_err-left-3-clause-reads c =
    passes _ _ _ _ _ _ c.from_residual-in_err-left-3.ensures.1 c.in_err-left-3.ensures.reads (up_not c.args.may_spawn c.mark.result _ _ c.mark.ensures.found c.mark.ensures.left (sym c.if-is_some.ensures) ∙ down_not c.args.may_spawn c.mark-2.result _ _ c.mark-2.ensures.found c.mark-2.ensures.left (sym c.if-is_some-2.ensures))

pub returns-clause-reads : goal.returns-clause-reads
returns-clause-reads c =
    onward _ _ _ _ (up_not c.args.may_spawn c.mark.result _ _ c.mark.ensures.found c.mark.ensures.left (sym c.if-is_some.ensures) ∙ down_not c.args.may_spawn c.mark-2.result _ _ c.mark-2.ensures.found c.mark-2.ensures.left (sym c.if-is_some-2.ensures) ∙ ap (goes_on _) c.in_ok-left-3.ensures.reads) c.change.ensures.reads
