use Rattle.std.proofs.Common.{sym, ◌∙◌, ap, Ok, arith, append-nil, ◌∷◌, []}
use Rattle.cilk_model.specs.GrammarForms.{more_params}
use Rattle.cilk_parser.specs.Parsers.{goes_on}
use Rattle.cilk_parser.specs.Read.{read}
use Rattle.cilk_parser.specs.Gives.{prefixed}
use Rattle.cilk_parser.proofs.Steps.{passes_more, prefixed_twice}
use Rattle.cilk_parser.proofs.CodeItems.{param_there, param_not}
use Rattle.cilk_parser.proofs.cursor.Cursor.more_params.Goals as goal

pub returns-in_err-next-clause-reads : goal.returns-in_err-next-clause-reads
returns-in_err-next-clause-reads c =
    passes_more _ _ c.args.all.now c.more.all c.more.all c.param.new.self _ _ _ c.from_residual.ensures.1 c.in_err-next.ensures.reads (c.more.invariant.0 ∙ ap (prefixed _) (param_there c.mark.result _ _ c.mark.ensures.found c.mark.ensures.left (sym c.more-test.ensures)))

pub more-preserved : goal.more-preserved
more-preserved c = (
  c.more.invariant.0 ∙ ap (prefixed _) (param_there c.mark.result _ _ c.mark.ensures.found c.mark.ensures.left (sym c.more-test.ensures)) ∙ ap (λ z. prefixed c.more.all z) (ap (goes_on _) c.in_ok-next.ensures.reads)
      ∙ prefixed_twice c.more.all (c.in_ok-next.next ∷ []) (read more_params c.param.new.self) ∙ ap (λ xs. prefixed xs (read more_params c.param.new.self)) (sym c.in_ok-add.ensures.ok),
  omega (arith, c.more.invariant.1, c.in_ok-next.ensures.shrinks, c.mark.ensures.shrinks),
)

pub returns-clause-reads : goal.returns-clause-reads
returns-clause-reads c =
    c.more.invariant.0 ∙ ap (prefixed _) (param_not c.mark.result _ _ c.mark.ensures.found c.mark.ensures.left (sym c.more-test.ensures)) ∙ ap (λ z. Ok (z, c.mark.new.self)) (append-nil c.more.all)
