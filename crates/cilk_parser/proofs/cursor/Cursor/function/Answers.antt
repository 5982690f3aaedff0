use Rattle.std.proofs.Common.{sym, ◌∙◌, ap, Ok, append-nil}
use Rattle.cilk_parser.specs.Parsers.{goes_on}
use Rattle.cilk_parser.specs.Gives.{prefixed}
use Rattle.cilk_parser.proofs.Steps.{passes_item}
use Rattle.cilk_parser.proofs.CodeItems.{function_step, prototype_there, prototype_not}
use Rattle.cilk_parser.proofs.cursor.Cursor.function.Goals as goal

pub returns-in_err-take_mark-clause-reads : goal.returns-in_err-take_mark-clause-reads
returns-in_err-take_mark-clause-reads c =
    passes_item _ _ c.args.all.now _ _ _ _ _ c.from_residual.ensures.1 c.in_err-take_mark.ensures.reads (function_step _ _ _ _ _)

pub returns-in_err-params-clause-reads : goal.returns-in_err-params-clause-reads
returns-in_err-params-clause-reads c =
    passes_item _ _ c.args.all.now _ _ _ _ _ c.from_residual-in_err-params.ensures.1 c.in_err-params.ensures.reads (function_step _ _ _ _ _ ∙ ap (goes_on _) c.in_ok-take_mark.ensures.reads)

pub returns-in_err-take_mark-2-clause-reads : goal.returns-in_err-take_mark-2-clause-reads
returns-in_err-take_mark-2-clause-reads c =
    passes_item _ _ c.args.all.now _ _ _ _ _ c.from_residual-in_err-take_mark-2.ensures.1 c.in_err-take_mark-2.ensures.reads (function_step _ _ _ _ _ ∙ ap (goes_on _) c.in_ok-take_mark.ensures.reads ∙ ap (goes_on _) c.in_ok-params.ensures.reads)

pub returns-then-is_some-clause-reads : goal.returns-then-is_some-clause-reads
returns-then-is_some-clause-reads c =
    ap (prefixed c.args.all.now) (function_step _ _ _ _ _ ∙ ap (goes_on _) c.in_ok-take_mark.ensures.reads ∙ ap (goes_on _) c.in_ok-params.ensures.reads ∙ ap (goes_on _) c.in_ok-take_mark-2.ensures.reads ∙ prototype_there c.args.pos c.args.result_kind c.args.name_pos c.args.name c.in_ok-params.params c.mark.result _ _ c.mark.ensures.found c.mark.ensures.left (sym c.if-is_some.ensures)) ∙ ap (λ z. Ok (z, c.mark.new.self)) (append-nil c.args.all.now)

pub returns-in_err-body-clause-reads : goal.returns-in_err-body-clause-reads
returns-in_err-body-clause-reads c =
    passes_item _ _ c.args.all.now _ _ _ _ _ c.from_residual-in_err-body.ensures.1 c.in_err-body.ensures.reads (function_step _ _ _ _ _ ∙ ap (goes_on _) c.in_ok-take_mark.ensures.reads ∙ ap (goes_on _) c.in_ok-params.ensures.reads ∙ ap (goes_on _) c.in_ok-take_mark-2.ensures.reads ∙ prototype_not c.args.pos c.args.result_kind c.args.name_pos c.args.name c.in_ok-params.params c.mark.result _ _ c.mark.ensures.found c.mark.ensures.left (sym c.if-is_some.ensures))

pub returns-clause-reads : goal.returns-clause-reads
returns-clause-reads c =
    ap (prefixed c.args.all.now) (function_step _ _ _ _ _ ∙ ap (goes_on _) c.in_ok-take_mark.ensures.reads ∙ ap (goes_on _) c.in_ok-params.ensures.reads ∙ ap (goes_on _) c.in_ok-take_mark-2.ensures.reads ∙ prototype_not c.args.pos c.args.result_kind c.args.name_pos c.args.name c.in_ok-params.params c.mark.result _ _ c.mark.ensures.found c.mark.ensures.left (sym c.if-is_some.ensures) ∙ ap (goes_on _) c.in_ok-body.ensures.reads) ∙ ap (λ z. Ok (z, c.block.new.self)) (sym c.in_ok-add.ensures.ok)
