use Rattle.std.proofs.Common.{◌+◌, add-one}
use Rattle.std.proofs.lemmas.List.{drop_all}
use Rattle.cilk_types.specs.Shown.{names_of}
use Rattle.cilk_types.proofs.ArgumentLemmas.{at_item}
use Rattle.cilk_types.proofs.NamedForms.{named_next, named_over}
use Rattle.cilk_types.proofs.named.+naming.Goals as goal

pub add_all_named-loop-i-preserved : goal.add_all_named-loop-i-preserved
add_all_named-loop-i-preserved t c =
    named_next (names_of c.args.scopes.now) c.args.es.now c.loop-i.i (c.loop-i.i + 1) c.index-es-i.result c.loop-i.named c.add_named.new.named _
    (add-one c.loop-i.i) (at_item c.args.es.now c.loop-i.i c.index-es-i.result c.loop-i-test.true c.index-es-i.is) c.in_ok-add_named.ensures
    c.loop-i.invariant

pub add_all_named-returns : goal.add_all_named-returns
add_all_named-returns t c =
    named_over (names_of c.args.scopes.now) _ c.loop-i.named _ (drop_all c.loop-i.i c.args.es.now c.loop-i-test.false) c.loop-i.invariant
