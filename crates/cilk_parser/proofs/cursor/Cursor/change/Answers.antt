use Rattle.std.proofs.Common.{sym, ◌∙◌, ap}
use Rattle.cilk_parser.specs.Parsers.{goes_on}
use Rattle.cilk_parser.proofs.Steps.{passes}
use Rattle.cilk_parser.proofs.CodeStatements.{assign_there, assign_not, add_there, add_not, up_behind, up_not_behind, down_behind, nothing_behind}
use Rattle.cilk_parser.proofs.cursor.Cursor.change.Goals as goal

pub returns-in_err-value-clause-reads : goal.returns-in_err-value-clause-reads
returns-in_err-value-clause-reads c =
    passes _ _ _ _ _ _ c.from_residual.ensures.1 c.in_err-value.ensures.reads (assign_there c.args.may_spawn c.args.left c.in-Some.pos _ _ c.in-Some.ensures.found c.in-Some.ensures.left)

pub returns-in-Some-clause-reads : goal.returns-in-Some-clause-reads
returns-in-Some-clause-reads c =
    assign_there c.args.may_spawn c.args.left c.in-Some.pos _ _ c.in-Some.ensures.found c.in-Some.ensures.left ∙ ap (goes_on _) c.in_ok-value.ensures.reads

pub returns-in_err-value-2-clause-reads : goal.returns-in_err-value-2-clause-reads
returns-in_err-value-2-clause-reads c =
    passes _ _ _ _ _ _ c.from_residual-in_err-value-2.ensures.1 c.in_err-value-2.ensures.reads (assign_not c.args.may_spawn c.args.left _ _ c.in_default.ensures.found c.in_default.ensures.left ∙ add_there c.args.left c.in-Some-mark.pos c.mark.new.self c.mark-2.new.self c.in-Some-mark.ensures.found c.in-Some-mark.ensures.left)

pub returns-in-Some-mark-clause-reads : goal.returns-in-Some-mark-clause-reads
returns-in-Some-mark-clause-reads c =
    assign_not c.args.may_spawn c.args.left _ _ c.in_default.ensures.found c.in_default.ensures.left ∙ add_there c.args.left c.in-Some-mark.pos c.mark.new.self c.mark-2.new.self c.in-Some-mark.ensures.found c.in-Some-mark.ensures.left ∙ ap (goes_on _) c.in_ok-value-2.ensures.reads

pub returns-then-is_some-clause-reads : goal.returns-then-is_some-clause-reads
returns-then-is_some-clause-reads c =
    assign_not c.args.may_spawn c.args.left _ _ c.in_default.ensures.found c.in_default.ensures.left ∙ add_not c.args.left _ _ c.in_default-mark.ensures.found c.in_default-mark.ensures.left ∙ up_behind c.args.left c.mark-3.result _ _ c.mark-3.ensures.found c.mark-3.ensures.left (sym c.if-is_some.ensures)

pub returns-then-is_some-2-clause-reads : goal.returns-then-is_some-2-clause-reads
returns-then-is_some-2-clause-reads c =
    assign_not c.args.may_spawn c.args.left _ _ c.in_default.ensures.found c.in_default.ensures.left ∙ add_not c.args.left _ _ c.in_default-mark.ensures.found c.in_default-mark.ensures.left ∙ up_not_behind c.args.left c.mark-3.result _ _ c.mark-3.ensures.found c.mark-3.ensures.left (sym c.if-is_some.ensures) ∙ down_behind c.args.left c.mark-4.result _ _ c.mark-4.ensures.found c.mark-4.ensures.left (sym c.if-is_some-2.ensures)

pub returns-clause-reads : goal.returns-clause-reads
returns-clause-reads c =
    assign_not c.args.may_spawn c.args.left _ _ c.in_default.ensures.found c.in_default.ensures.left ∙ add_not c.args.left _ _ c.in_default-mark.ensures.found c.in_default-mark.ensures.left ∙ up_not_behind c.args.left c.mark-3.result _ _ c.mark-3.ensures.found c.mark-3.ensures.left (sym c.if-is_some.ensures) ∙ nothing_behind c.args.left c.mark-4.result _ _ c.mark-4.ensures.found c.mark-4.ensures.left (sym c.if-is_some-2.ensures)
