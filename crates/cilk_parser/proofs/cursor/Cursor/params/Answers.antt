use Rattle.std.proofs.Common.{◌≡◌, sym, ◌∙◌, ap, ◌∷◌, [], ◌++◌}
use Rattle.cilk_model.specs.GrammarForms.{more_params}
use Rattle.cilk_parser.specs.Parsers.{goes_on}
use Rattle.cilk_parser.specs.Read.{read}
use Rattle.cilk_parser.specs.Gives.{prefixed}
use Rattle.cilk_parser.proofs.Steps.{passes, passes_list}
use Rattle.cilk_parser.proofs.CodeItems.{params_none, params_some, void_there, void_not}
use Rattle.cilk_parser.proofs.cursor.Cursor.params.Goals as goal

pub returns-then-at_mark-clause-reads : goal.returns-then-at_mark-clause-reads
returns-then-at_mark-clause-reads c =
    rw c.list-all.ensures (params_none _ (sym c.if-at_mark.ensures))

pub returns-then-is_some-clause-reads : goal.returns-then-is_some-clause-reads
returns-then-is_some-clause-reads c =
    rw c.list-all.ensures (params_some _ (sym c.if-at_mark.ensures) ∙ void_there c.word.result _ _ c.word.ensures.found c.word.ensures.left (sym c.if-is_some.ensures))

pub returns-in_err-first-clause-reads : goal.returns-in_err-first-clause-reads
returns-in_err-first-clause-reads c =
    passes _ _ _ _ _ _ c.from_residual.ensures.1 c.in_err-first.ensures.reads (params_some _ (sym c.if-at_mark.ensures) ∙ void_not c.word.result _ _ c.word.ensures.found c.word.ensures.left (sym c.if-is_some.ensures))

pub returns-in_err-more_params-clause-reads : goal.returns-in_err-more_params-clause-reads
returns-in_err-more_params-clause-reads c =
    passes_list _ _ c.add.new.self c.more_params.new.all (c.in_ok-first.first ∷ []) c.more_params.new.self (read more_params c.param.new.self) _ c.from_residual-in_err-more_params.ensures.1 c.in_err-more_params.ensures.reads (params_some _ (sym c.if-at_mark.ensures) ∙ void_not c.word.result _ _ c.word.ensures.found c.word.ensures.left (sym c.if-is_some.ensures) ∙ ap (goes_on _) c.in_ok-first.ensures.reads)

pub returns-clause-reads : goal.returns-clause-reads
returns-clause-reads c =
    let e : c.add.new.self ≡ c.in_ok-first.first ∷ [] = c.in_ok-add.ensures.ok ∙ ap (λ z. z ++ c.in_ok-first.first ∷ []) c.list-all.ensures in
    params_some _ (sym c.if-at_mark.ensures) ∙ void_not c.word.result _ _ c.word.ensures.found c.word.ensures.left (sym c.if-is_some.ensures) ∙ ap (goes_on _) c.in_ok-first.ensures.reads ∙ ap (λ z. prefixed z (read more_params c.param.new.self)) (sym e) ∙ c.in_ok-more_params.ensures.reads
