use Rattle.std.proofs.Common.{◌∙◌, sym, ap, ◌+◌, add-one}
use Rattle.std.proofs.lemmas.List.{drop_all}
use Rattle.cilk_types.specs.Spawning.{spawns_in_list}
use Rattle.cilk_types.proofs.ArgumentLemmas.{at_item}
use Rattle.cilk_types.proofs.SpawningForms.{spawns_here, spawns_later, none_spawns}
use Rattle.cilk_types.proofs.spawning.+spawning.Goals as goal

pub some_spawns-returns-then-spawns : goal.some_spawns-returns-then-spawns
some_spawns-returns-then-spawns t c =
    let item = at_item c.args.body.now c.loop-i.i c.index-body-i.result c.loop-i-test.true c.index-body-i.is in
    spawns_here c.args.body.now c.loop-i.i c.index-body-i.result c.spawns.result _ item c.spawns.ensures c.if-spawns.true c.loop-i.invariant

pub some_spawns-loop-i-preserved : goal.some_spawns-loop-i-preserved
some_spawns-loop-i-preserved t c =
    let item = at_item c.args.body.now c.loop-i.i c.index-body-i.result c.loop-i-test.true c.index-body-i.is in
    spawns_later c.args.body.now c.loop-i.i (c.loop-i.i + 1) c.index-body-i.result c.spawns.result _ (add-one c.loop-i.i) item c.spawns.ensures c.if-spawns.false
    c.loop-i.invariant

pub some_spawns-returns : goal.some_spawns-returns
some_spawns-returns t c =
    sym none_spawns ∙ sym (ap spawns_in_list (drop_all c.loop-i.i c.args.body.now c.loop-i-test.false)) ∙ c.loop-i.invariant
