use Rattle.std.proofs.Common.{◌∙◌, ap, sym, ◌+◌, add-one}
use Rattle.std.proofs.lemmas.List.{drop_all}
use Rattle.cilk_model.specs.Scopes as model
use Rattle.cilk_model.specs.Scopes.{closed}
use Rattle.cilk_types.specs.Shown.{scopes_of}
use Rattle.cilk_types.specs.Walking.{left_by, left_by_part}
use Rattle.cilk_types.proofs.ArgumentLemmas.{at_item}
use Rattle.cilk_types.proofs.ControlForms.{if_left}
use Rattle.cilk_types.proofs.NamedStatementForms.{list_named_next, list_named_over, if_added, for_added}
use Rattle.cilk_types.proofs.StatementLists.{left_next, left_over}
use Rattle.cilk_types.proofs.named_statements.+naming.Goals as goal

pub cilk_for_body-returns-clause-scopes : goal.cilk_for_body-returns-clause-scopes
cilk_for_body-returns-clause-scopes t c =
    let known = c.close_scope.ensures ∙ ap closed (c.in_ok-add_named_in.ensures.scopes ∙ ap (left_by c.args.body.now) c.in_ok-enter_body.ensures) in
    ap (λ (s : model.Scopes). record s { level = c.args.scopes.now.level }) known

pub add_all_named_in-loop-i-preserved : goal.add_all_named_in-loop-i-preserved
add_all_named_in-loop-i-preserved t c =
    let item = at_item c.args.body.now c.loop-i.i c.index-body-i.result c.loop-i-test.true c.index-body-i.is in
    record {
      collected =
          list_named_next c.args.body.now c.loop-i.i (c.loop-i.i + 1) c.index-body-i.result (scopes_of c.loop-i.scopes)
          (scopes_of c.add_named_in.new.scopes) c.loop-i.named c.add_named_in.new.named _ (add-one c.loop-i.i) item
          c.in_ok-add_named_in.ensures.named c.in_ok-add_named_in.ensures.scopes c.loop-i.invariant.collected;
      known =
          left_next c.args.body.now c.loop-i.i (c.loop-i.i + 1) c.index-body-i.result (scopes_of c.loop-i.scopes)
          (scopes_of c.add_named_in.new.scopes) _ (add-one c.loop-i.i) item c.in_ok-add_named_in.ensures.scopes c.loop-i.invariant.known;
    }

pub add_all_named_in-returns-clause-named : goal.add_all_named_in-returns-clause-named
add_all_named_in-returns-clause-named t c =
    list_named_over _ (scopes_of c.loop-i.scopes) c.loop-i.named _ (drop_all c.loop-i.i c.args.body.now c.loop-i-test.false)
    c.loop-i.invariant.collected

pub add_all_named_in-returns-clause-scopes : goal.add_all_named_in-returns-clause-scopes
add_all_named_in-returns-clause-scopes t c =
    left_over _ (scopes_of c.loop-i.scopes) _ (drop_all c.loop-i.i c.args.body.now c.loop-i-test.false) c.loop-i.invariant.known

pub add_named_in-returns-in_ok-part-in-If-clause-named : goal.add_named_in-returns-in_ok-part-in-If-clause-named
add_named_in-returns-in_ok-part-in-If-clause-named t c =
    if_added c.args.s.now c.in-If.test c.in-If.yes c.get.result.now c.in-If.no (scopes_of c.args.scopes.now) (scopes_of c.add_named_in.new.scopes)
    c.args.named.now c.add_named-in-If.new.named c.add_named_in.new.named c.part.new.named c.in-If.is c.get.ensures c.in_ok-add_named-in-If.ensures
    c.in_ok-add_named_in-in-If.ensures.named c.in_ok-add_named_in-in-If.ensures.scopes c.in_ok-part-in-If.ensures.named

pub add_named_in-returns-in_ok-add_named_in-in-For-clause-named : goal.add_named_in-returns-in_ok-add_named_in-in-For-clause-named
add_named_in-returns-in_ok-add_named_in-in-For-clause-named t c =
    for_added c.args.s.now c.in-For.init c.in-For.test c.in-For.step c.in-For.body c.get-in-For.result.now (scopes_of c.args.scopes.now)
    (scopes_of c.open_scope.new.scopes) (scopes_of c.part-in-For.new.scopes) (scopes_of c.part-in-For-2.new.scopes) c.args.named.now
    c.part-in-For.new.named c.add_named_option.new.named c.part-in-For-2.new.named c.add_named_in-in-For.new.named c.in-For.is
    c.in_ok-open_scope-in-For.ensures c.in_ok-part-in-For.ensures.named c.in_ok-part-in-For.ensures.scopes c.in_ok-add_named_option-in-For.ensures
    c.in_ok-part-in-For-2.ensures.named c.in_ok-part-in-For-2.ensures.scopes c.get-in-For.ensures c.in_ok-add_named_in-in-For.ensures.named

pub add_named_in-returns-in_ok-part-in-If-clause-scopes : goal.add_named_in-returns-in_ok-part-in-If-clause-scopes
add_named_in-returns-in_ok-part-in-If-clause-scopes t c =
    let scopes = scopes_of c.args.scopes.now in
    c.in_ok-part-in-If.ensures.scopes
    ∙ ap (left_by_part c.in-If.no) (c.in_ok-add_named_in-in-If.ensures.scopes ∙ ap (λ s. left_by s scopes) c.get.ensures)
    ∙ sym (ap (λ s. left_by s scopes) c.in-If.is ∙ if_left c.in-If.test c.in-If.yes c.in-If.no scopes)
