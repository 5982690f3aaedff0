use Rattle.std.proofs.Common.{◌≡◌, ◌+◌, add-one, subst, IfOk, OnOk}
use Rattle.cilk_ast.specs.declared.program.Stmt.{Stmt}
use Rattle.std.proofs.lemmas.List.{drop_all}
use Rattle.cilk_types.specs.Making.{Walked, walked_of}
use Rattle.cilk_types.proofs.ArgumentLemmas.{at_item}
use Rattle.cilk_types.proofs.MakingForms.{made_step, past_step, made_over, past_over}
use Rattle.cilk_types.proofs.MakingLoops.{if_made_so, if_past_so}
use Rattle.cilk_types.proofs.lower_statements.+making.Goals as goal

pub statements-loop-i-preserved : goal.statements-loop-i-preserved
statements-loop-i-preserved t c =
    let item = at_item c.args.body.now c.loop-i.i c.index-body-i.result c.loop-i-test.true c.index-body-i.is in
    record {
      all =
          made_step c.args.body.now c.loop-i.i (c.loop-i.i + 1) c.index-body-i.result c.in_ok-next.next (walked_of c.loop-i.walk)
          (walked_of c.statement.new.walk) c.loop-i.made c.add.new.self _ (add-one c.loop-i.i) item c.in_ok-next.ensures.made c.in_ok-next.ensures.past
          c.in_ok-add.ensures.ok c.loop-i.invariant.all;
      passed =
          past_step c.args.body.now c.loop-i.i (c.loop-i.i + 1) c.index-body-i.result (walked_of c.loop-i.walk) (walked_of c.statement.new.walk) _
          (add-one c.loop-i.i) item c.in_ok-next.ensures.past c.loop-i.invariant.passed;
    }

pub statements-returns-clause-made : goal.statements-returns-clause-made
statements-returns-clause-made t c =
    made_over _ (walked_of c.loop-i.walk) c.loop-i.made _ (drop_all c.loop-i.i c.args.body.now c.loop-i-test.false) c.loop-i.invariant.all

pub statements-returns-clause-past : goal.statements-returns-clause-past
statements-returns-clause-past t c =
    past_over _ (walked_of c.loop-i.walk) _ (drop_all c.loop-i.i c.args.body.now c.loop-i-test.false) c.loop-i.invariant.passed

pub statement-returns-in_ok-chosen-in-If-clause-made : goal.statement-returns-in_ok-chosen-in-If-clause-made
statement-returns-in_ok-chosen-in-If-clause-made t c =
    let e =
    if_made_so c.args.s.now c.in-If.test c.in-If.yes _ c.in-If.no (walked_of c.args.walk.now) _ _ c.in-If.is c.get-first.ensures c.in_ok-chosen-in-If.ensures.made
    c.in_ok-chosen-in-If.ensures.past in
    subst (λ (v : Stmt). IfOk c.if_rest.result (λ x. x ≡ v)) e c.if_rest.ensures.made

pub statement-returns-in_ok-chosen-in-If-clause-past : goal.statement-returns-in_ok-chosen-in-If-clause-past
statement-returns-in_ok-chosen-in-If-clause-past t c =
    let e =
    if_past_so c.args.s.now c.in-If.test c.in-If.yes _ c.in-If.no (walked_of c.args.walk.now) _ c.in-If.is c.get-first.ensures c.in_ok-chosen-in-If.ensures.past in
    subst (λ (v : Walked). OnOk c.if_rest.result (walked_of c.if_rest.new.walk ≡ v)) e c.if_rest.ensures.past
