use Rattle.std.proofs.Common.{◌≡◌, true, refl, subst, arith, rules, to_z, of_z, w64}
use Rattle.mem_atomics.specs.NewWord.{applied}
use Rattle.nodelet_mem.specs.Words.{word_of}
use Rattle.world_model.specs.World as world
use Rattle.core_model.specs.Nodes.{is_granted, with_word, applied_here}
use Rattle.core_model.specs.Takes.{with_item}
use Rattle.core_model.specs.Machine.{stamped_node}
use Rattle.nodelet_core.specs.Kept.{node_of, setup_of}
use Rattle.nodelet_core.specs.code.Became.{Did}
use Rattle.nodelet_core.proofs.Becoming.{did_then}
use Rattle.nodelet_core.proofs.Taking.{did_stamp, did_as, operated_is}
use Rattle.nodelet_core.proofs.nodelet.Nodelet.operate.Goals as goal

pub count_applied-requires-2 : goal.count_applied-requires-2
count_applied-requires-2 c =
    let same = did_stamp _ c.args.self.now c.store.new.self c.in_ok-store.ensures.ok (λ v. refl) in
    record { later = omega (arith, same) }

pub returns-clause-ok : goal.returns-clause-ok
returns-clause-ok c = λ code.
    let v = c.args.self.now in
    let a = c.args.address in
    let new = c.apply-new.result in
    let stamp = c.args.stamp in
    let then_v = c.store.new.self in
    let address : to_z w64 (of_z w64 a) ≡ a = search rules in
    let word : to_z w64 (of_z w64 new) ≡ new = search rules in
    let stored = subst (λ z. Did (λ w. with_word w z new) v then_v) address
    (subst (λ z. Did (λ w. with_word w (to_z w64 (of_z w64 a)) z) v then_v) word c.in_ok-store.ensures.ok) in
    let did = did_then (λ w. with_word w a new) (λ w. stamped_node stamp (applied_here w)) v then_v c.count_applied-2.new.self stored c.count_applied-2.ensures in
    let e : new ≡ applied c.args.op (word_of v.words a) c.args.word = search rules in
    did_as (λ w. stamped_node stamp (applied_here (with_word w a new)))
    (λ w. stamped_node stamp (with_item (setup_of code v) w (world.Operation c.args.op a c.args.word c.args.pos))) v c.count_applied-2.new.self did
    (λ other.
    let granted : is_granted v.rules (node_of other v) a ≡ true = cc (c.is_granted.ensures other) in
    operated_is (setup_of code v) (node_of other v) c.args.op a c.args.word new c.args.pos stamp granted e)
