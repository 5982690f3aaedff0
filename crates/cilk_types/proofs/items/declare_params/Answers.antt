use Rattle.std.proofs.Common.{◌+◌, add-one}
use Rattle.cilk_types.specs.Shown.{scopes_of}
use Rattle.cilk_types.proofs.ArgumentLemmas.{at_item}
use Rattle.cilk_types.proofs.ParamLemmas.{param_next, known_next}
use Rattle.cilk_types.proofs.items.declare_params.Goals as goal

pub loop-i-preserved : goal.loop-i-preserved
loop-i-preserved c =
    let item = at_item c.args.params.now c.loop-i.i c.index-params-i.result c.loop-i-test.true c.index-params-i.is in
    record {
      worst =
          param_next c.args.params.now c.loop-i.i (c.loop-i.i + 1) c.index-params-i.result c.as_slice.result.now (scopes_of c.loop-i.scopes)
          (scopes_of c.declare.new.scopes) c.in_ok-twice.twice c.broken_if.result c.loop-i.worst c.earlier-worst.result _ (add-one c.loop-i.i) item
          c.as_slice.ensures c.in_ok-twice.ensures.twice c.in_ok-twice.ensures.scopes c.broken_if.ensures c.earlier-worst.ensures c.loop-i.invariant.worst;
      known =
          known_next c.args.params.now c.loop-i.i (c.loop-i.i + 1) c.index-params-i.result c.as_slice.result.now (scopes_of c.loop-i.scopes)
          (scopes_of c.declare.new.scopes) _ (add-one c.loop-i.i) item c.as_slice.ensures c.in_ok-twice.ensures.scopes c.loop-i.invariant.known;
    }
