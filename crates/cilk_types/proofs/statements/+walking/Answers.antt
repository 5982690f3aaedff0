use Rattle.std.proofs.Common.{◌∙◌, ap, ◌+◌, add-one}
use Rattle.std.proofs.lemmas.List.{drop_all}
use Rattle.cilk_model.specs.Scopes as model
use Rattle.cilk_model.specs.Scopes.{closed}
use Rattle.cilk_types.specs.Shown.{scopes_of}
use Rattle.cilk_types.specs.Walking.{left_by}
use Rattle.cilk_types.proofs.ArgumentLemmas.{at_item}
use Rattle.cilk_types.proofs.StatementLists.{list_next, left_next, list_over, left_over}
use Rattle.cilk_types.proofs.ControlForms.{if_fault, for_found}
use Rattle.cilk_types.proofs.statements.+walking.Goals as goal

pub cilk_for_body-returns-clause-scopes : goal.cilk_for_body-returns-clause-scopes
cilk_for_body-returns-clause-scopes t c =
    let known = c.close_scope.ensures ∙ ap closed (c.in_ok-fault.ensures.scopes ∙ ap (left_by c.args.body.now) c.in_ok-enter_body.ensures) in
    ap (λ (s : model.Scopes). record s { level = c.args.scopes.now.level }) known

pub statement-returns-in_ok-second-in-If-clause-fault : goal.statement-returns-in_ok-second-in-If-clause-fault
statement-returns-in_ok-second-in-If-clause-fault t c =
    let e = if_fault c.args.gives c.in-If.test c.in-If.yes c.in-If.no (scopes_of c.args.scopes.now) c.args.inside in
    cc (e, c.in_ok-first-in-If.ensures.fault, c.in_ok-first-in-If.ensures.scopes, c.in_ok-second-in-If.ensures.fault)

pub statement-returns-in_ok-fourth-in-For-clause-fault : goal.statement-returns-in_ok-fourth-in-For-clause-fault
statement-returns-in_ok-fourth-in-For-clause-fault t c =
    for_found c.args.gives c.args.s.now c.in-For.init c.in-For.test c.in-For.step c.in-For.body c.get-in-For.result.now (scopes_of c.args.scopes.now)
    (scopes_of c.open_scope.new.scopes) (scopes_of c.part-in-For.new.scopes) (scopes_of c.part-in-For-2.new.scopes) c.args.inside
    c.in_ok-first-in-For.first c.test_fault-second.result c.in_ok-third-in-For.third c.in_ok-fourth-in-For.fourth c.earlier-in-For.result
    c.earlier-in-For-2.result c.earlier-in-For-3.result c.in-For.is c.in_ok-open_scope-in-For.ensures c.in_ok-first-in-For.ensures.fault
    c.in_ok-first-in-For.ensures.scopes c.test_fault-second.ensures c.in_ok-third-in-For.ensures.fault c.in_ok-third-in-For.ensures.scopes
    c.get-in-For.ensures c.in_ok-fourth-in-For.ensures.fault c.earlier-in-For.ensures c.earlier-in-For-2.ensures c.earlier-in-For-3.ensures

pub statements-loop-i-preserved : goal.statements-loop-i-preserved
statements-loop-i-preserved t c =
    let item = at_item c.args.body.now c.loop-i.i c.index-body-i.result c.loop-i-test.true c.index-body-i.is in
    record {
      worst =
          list_next c.args.gives c.args.inside c.args.body.now c.loop-i.i (c.loop-i.i + 1) c.index-body-i.result (scopes_of c.loop-i.scopes)
          (scopes_of c.statement.new.scopes) c.in_ok-fault.fault c.loop-i.worst c.earlier-worst.result _ (add-one c.loop-i.i) item
          c.in_ok-fault.ensures.fault c.in_ok-fault.ensures.scopes c.earlier-worst.ensures c.loop-i.invariant.worst;
      known =
          left_next c.args.body.now c.loop-i.i (c.loop-i.i + 1) c.index-body-i.result (scopes_of c.loop-i.scopes) (scopes_of c.statement.new.scopes) _
          (add-one c.loop-i.i) item c.in_ok-fault.ensures.scopes c.loop-i.invariant.known;
    }

pub statements-returns-clause-fault : goal.statements-returns-clause-fault
statements-returns-clause-fault t c =
    list_over c.args.gives c.args.inside _ (scopes_of c.loop-i.scopes) c.loop-i.worst _ (drop_all c.loop-i.i c.args.body.now c.loop-i-test.false)
    c.loop-i.invariant.worst

pub statements-returns-clause-scopes : goal.statements-returns-clause-scopes
statements-returns-clause-scopes t c =
    left_over _ (scopes_of c.loop-i.scopes) _ (drop_all c.loop-i.i c.args.body.now c.loop-i-test.false) c.loop-i.invariant.known
