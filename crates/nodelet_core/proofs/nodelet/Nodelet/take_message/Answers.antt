use Rattle.std.proofs.Common.{◌≡◌, refl, ap, sym, ◌∙◌, arith, rules, to_z, of_z, w64}
use Rattle.std.specs.Prelude.{None}
use Rattle.world_model.specs.World as world
use Rattle.core_model.specs.Contexts.{Issued, Returned}
use Rattle.nodelet_core.specs.Carried.{body_in}
use Rattle.core_model.specs.Machine.{stamped_node}
use Rattle.nodelet_core.proofs.Arriving.{some_code}
use Rattle.nodelet_core.proofs.Becoming.{did_then}
use Rattle.nodelet_core.proofs.Taking.{did_stamp, linked_as, took_item, took_word, took_result}
use Rattle.nodelet_core.proofs.nodelet.Nodelet.take_message.Goals as goal

pub send-requires-clause-linked : goal.send-requires-clause-linked
send-requires-clause-linked g c =
    let did = c.in_ok-late-in-Op.ensures.ok some_code in
    linked_as c.args.self.now c.operate.new.self c.args.origin did.settings c.requires.awaited.linked

pub set_stamp-requires : goal.set_stamp-requires
set_stamp-requires g c =
    let same = did_stamp _ c.args.self.now c.add_grant.new.self c.in_ok-add_grant-in-Grant.ensures.ok (λ v. refl) in
    record { later = omega (arith, same, c.requires.later) }

pub set_stamp-requires-in-Done : goal.set_stamp-requires-in-Done
set_stamp-requires-in-Done g c =
    let same = did_stamp _ c.args.self.now c.keep_result.new.self c.in_ok-keep_result-in-Done.ensures.ok (λ v. refl) in
    record { later = omega (arith, same, c.requires.later) }

pub returns-in_ok-late-in-Op-clause-ok : goal.returns-in_ok-late-in-Op-clause-ok
returns-in_ok-late-in-Op-clause-ok g c = λ code.
    let v = c.args.self.now in
    let name = c.in-Op.name in
    let address : to_z w64 (of_z w64 c.in-Op.address) ≡ c.in-Op.address = search rules in
    let word : to_z w64 (of_z w64 c.in-Op.word) ≡ c.in-Op.word = search rules in
    let is : body_in code c.args.body.now ≡ Issued name (world.Operation c.in-Op.op (to_z w64 (of_z w64 c.in-Op.address)) (to_z w64 (of_z w64 c.in-Op.word)) c.in-Op.pos) =
    ap (body_in code) c.in-Op.is ∙ ap (λ z. Issued name (world.Operation c.in-Op.op z c.in-Op.word c.in-Op.pos)) (sym address)
    ∙ ap (λ z. Issued name (world.Operation c.in-Op.op (to_z w64 (of_z w64 c.in-Op.address)) z c.in-Op.pos)) (sym word) in
    took_item code c.args.stamp v c.operate.new.self c.args.origin c.args.body.now name
    (world.Operation c.in-Op.op (to_z w64 (of_z w64 c.in-Op.address)) (to_z w64 (of_z w64 c.in-Op.word)) c.in-Op.pos)
    c.in_ok-late-in-Op.late (g.O.Outlet.sent c.args.out.now) (g.O.Outlet.sent c.reserve.new.self) (g.O.Outlet.sent c.send.new.out)
    is (c.in_ok-late-in-Op.ensures.ok code) (c.in_ok-late-in-Op.ensures.late code) c.in_ok-reserve-in-Op.ensures.sent (c.send.ensures.sent code refl)

pub returns-in_ok-add_grant-in-Grant-clause-ok : goal.returns-in_ok-add_grant-in-Grant-clause-ok
returns-in_ok-add_grant-in-Grant-clause-ok g c = λ code.
    let v = c.args.self.now in
    let d = c.add_grant.new.self in
    let b = c.set_stamp.new.self in
    let name = c.in-Grant.name in
    let did = did_then _ (stamped_node c.args.stamp) v d b c.in_ok-add_grant-in-Grant.ensures.ok c.set_stamp.ensures in
    let first : to_z w64 (of_z w64 c.in-Grant.first) ≡ c.in-Grant.first = search rules in
    let is : body_in code c.args.body.now ≡ Issued name (world.Grant (record { first = to_z w64 (of_z w64 c.in-Grant.first); count = c.in-Grant.count })) =
    ap (body_in code) c.in-Grant.is ∙ ap (λ z. Issued name (world.Grant (record { first = z; count = c.in-Grant.count }))) (sym first) in
    took_item code c.args.stamp v b c.args.origin c.args.body.now name
    (world.Grant (record { first = to_z w64 (of_z w64 c.in-Grant.first); count = c.in-Grant.count }))
    None (g.O.Outlet.sent c.args.out.now) (g.O.Outlet.sent c.reserve-in-Grant.new.self) (g.O.Outlet.sent c.send-in-Grant.new.out)
    is did refl c.in_ok-reserve-in-Grant.ensures.sent (c.send-in-Grant.ensures.sent code refl)

pub returns-in-Ack-clause-ok : goal.returns-in-Ack-clause-ok
returns-in-Ack-clause-ok g c = λ code.
    took_word code c.args.stamp c.args.self.now c.acknowledge.new.self c.args.origin c.args.body.now c.in-Ack.name c.in-Ack.late (g.O.Outlet.sent c.args.out.now)
    (ap (body_in code) c.in-Ack.is) c.acknowledge.ensures

pub returns-in_ok-keep_result-in-Done-clause-ok : goal.returns-in_ok-keep_result-in-Done-clause-ok
returns-in_ok-keep_result-in-Done-clause-ok g c = λ code.
    let result : to_z w64 (of_z w64 c.in-Done.result) ≡ c.in-Done.result = search rules in
    let is : body_in code c.args.body.now ≡ Returned c.in-Done.ticket (to_z w64 (of_z w64 c.in-Done.result)) =
    ap (body_in code) c.in-Done.is ∙ ap (Returned c.in-Done.ticket) (sym result) in
    took_result code c.args.stamp c.args.self.now c.set_stamp-in-Done.new.self c.args.origin c.args.body.now c.in-Done.ticket (to_z w64 (of_z w64 c.in-Done.result))
    c.keep_result.new.self (g.O.Outlet.sent c.args.out.now) is c.in_ok-keep_result-in-Done.ensures.ok c.set_stamp-in-Done.ensures
