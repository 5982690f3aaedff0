use Rattle.std.proofs.Common.{sym, ◌∙◌, ap, Ok, arith, append-nil, ◌∷◌, []}
use Rattle.cilk_model.specs.GrammarForms.{more_globals}
use Rattle.cilk_parser.specs.Parsers.{goes_on}
use Rattle.cilk_parser.specs.Read.{read}
use Rattle.cilk_parser.specs.Gives.{prefixed}
use Rattle.cilk_parser.proofs.Steps.{passes_more, passes_more_lead, one_before, prefixed_twice}
use Rattle.cilk_parser.specs.Parts.{then_globals}
use Rattle.cilk_parser.proofs.CodeItems.{global_there, global_not}
use Rattle.cilk_parser.proofs.cursor.Cursor.more_globals.Goals as goal

pub returns-in_err-next-clause-reads : goal.returns-in_err-next-clause-reads
returns-in_err-next-clause-reads c =
    passes_more_lead _ _ c.args.all.now c.more.all c.more.all c.global.new.self (then_globals c.args.replicated) _ _ c.from_residual.ensures.1 (c.in_err-next.ensures.reads (then_globals c.args.replicated)) (c.more.invariant.0 ∙ ap (prefixed _) (global_there c.args.replicated c.mark.result _ _ c.mark.ensures.found c.mark.ensures.left (sym c.more-test.ensures)))

pub more-preserved : goal.more-preserved
more-preserved c = (
  c.more.invariant.0 ∙ ap (prefixed _) (global_there c.args.replicated c.mark.result _ _ c.mark.ensures.found c.mark.ensures.left (sym c.more-test.ensures)) ∙ ap (prefixed c.more.all) (c.in_ok-next.ensures.reads (then_globals c.args.replicated) ∙ one_before c.in_ok-next.next (read (more_globals c.args.replicated) c.global.new.self))
      ∙ prefixed_twice c.more.all (c.in_ok-next.next ∷ []) (read (more_globals c.args.replicated) c.global.new.self) ∙ ap (λ xs. prefixed xs (read (more_globals c.args.replicated) c.global.new.self)) (sym c.in_ok-add.ensures.ok),
  omega (arith, c.more.invariant.1, c.in_ok-next.ensures.shrinks, c.mark.ensures.shrinks),
)

pub returns-in_err-take_mark-clause-reads : goal.returns-in_err-take_mark-clause-reads
returns-in_err-take_mark-clause-reads c =
    passes_more _ _ c.args.all.now c.more.all c.more.all c.take_mark.new.self _ _ _ c.from_residual-in_err-take_mark.ensures.1 c.in_err-take_mark.ensures.reads (c.more.invariant.0 ∙ ap (prefixed _) (global_not c.args.replicated c.mark.result _ _ c.mark.ensures.found c.mark.ensures.left (sym c.more-test.ensures)))

pub returns-clause-reads : goal.returns-clause-reads
returns-clause-reads c =
    c.more.invariant.0 ∙ ap (prefixed _) (global_not c.args.replicated c.mark.result _ _ c.mark.ensures.found c.mark.ensures.left (sym c.more-test.ensures) ∙ ap (goes_on _) c.in_ok-take_mark.ensures.reads) ∙ ap (λ z. Ok (z, c.take_mark.new.self)) (append-nil c.more.all)
