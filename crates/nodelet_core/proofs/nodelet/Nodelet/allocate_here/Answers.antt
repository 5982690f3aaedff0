use Rattle.std.proofs.Common.{◌≡◌, [], ◌∷◌, true, false, suc, refl, ◌∙◌, subst, to_z, of_z, w64}
use Rattle.std.proofs.lemmas.Int.{to_z-of_z}
use Rattle.world_model.specs.Allocation.{taken_from}
use Rattle.threadlet_state.specs.Answered.{IsAnswered}
use Rattle.nodelet_core.specs.declared.due.Due.TheVariants as due
use Rattle.core_model.specs.Effects.{nothing}
use Rattle.nodelet_core.specs.code.Dues.{asked_request}
use Rattle.nodelet_core.specs.Kept.{node_of, setup_of}
use Rattle.nodelet_core.specs.code.Became.{Did}
use Rattle.nodelet_core.specs.code.Doing.{address_for, with_taken}
use Rattle.nodelet_core.proofs.Resuming.{stands_before}
use Rattle.nodelet_core.proofs.Stamps.{nothing_sent, did_before_last}
use Rattle.nodelet_core.proofs.Doing.{Leaves, had_whole, nothing_counted}
use Rattle.nodelet_core.proofs.Granting.{served_here, never_spawns, takes, grants_here}
use Rattle.nodelet_core.proofs.Allotting.{served_then, taken_stamp, took_then, same_address}
use Rattle.nodelet_core.proofs.nodelet.Nodelet.allocate_here.Goals as goal

pub take_words-address-requires-clause-served : goal.take_words-address-requires-clause-served
take_words-address-requires-clause-served c =
    let v = c.args.self.now in
    served_then v c.reserve_grant.new.self c.args.request c.reserve_grant.ensures.same.settings (served_here c.args.code.now.code v c.args.context c.args.request c.requires.due)

pub answer-requires : goal.answer-requires
answer-requires c = record { asked = stands_before c.args.code.now.code c.args.self.now c.args.context (due.Alloc c.args.request) c.requires.due refl }

-- Only a Spawn is refused.
pub returns-in_err-answer-clause-err : goal.returns-in_err-answer-clause-err
returns-in_err-answer-clause-err c =
    absurd (let wrong : false ≡ true = never_spawns c.args.code.now.code c.args.self.now c.args.context c.args.request c.requires.due c.in_err-answer.ensures.spawn in cc)

pub go_on-requires-clause-stamp : goal.go_on-requires-clause-stamp
go_on-requires-clause-stamp c =
    let v = c.args.self.now in
    let asked = asked_request c.args.request in
    let taken = taken_from v.nodelets v.number asked in
    let address = c.take_words-address.result in
    did_before_last c.args.code.now.code (with_taken v.nodelets c.args.count address taken) v c.take_words-address.new.self
    (took_then v c.reserve_grant.new.self c.take_words-address.new.self asked c.args.count address c.reserve_grant.ensures.same c.take_words-address.ensures.did)
    (taken_stamp v.nodelets c.args.count address taken (node_of c.args.code.now.code v)) c.requires.due.stands.stamp

pub returns-clause-ok : goal.returns-clause-ok
returns-clause-ok c = λ sent.
    let code = c.args.code.now.code in
    let v = c.args.self.now in
    let n = v.nodelets in
    let x = c.args.context in
    let y = c.answer.new.context in
    let ready = c.reserve_grant.new.self in
    let mid = c.take_words-address.new.self in
    let count = c.args.count in
    let address = c.take_words-address.result in
    let asked = asked_request c.args.request in
    let taken = taken_from n v.number asked in
    let held : to_z w64 (of_z w64 address) ≡ address = to_z-of_z w64 address (record { sfits = c.take_words-address.type_inv }) in
    let answered : address ≡ address_for (node_of code v) taken = c.take_words-address.ensures.address code ∙ same_address code v ready asked c.reserve_grant.ensures.same in
    had_whole code v mid c.go_on.new.self x y (with_taken n count address taken) c.nothing.result nothing_counted (address ∷ []) nothing sent sent (due.Alloc c.args.request) refl refl
    (record {
      did = took_then v ready mid asked count address c.reserve_grant.ensures.same c.take_words-address.ensures.did;
      keeps_stamp = taken_stamp n count address taken (node_of code v);
      counts = c.nothing.ensures;
      became = c.go_on.ensures;
      same = c.answer.ensures.kept;
      answered = subst (λ z. IsAnswered code x.frames (z ∷ []) y.frames) held c.in_ok-answer.ensures.ok;
      sent = nothing_sent _ _ _ _ sent;
    })
    (subst (Leaves n v.number (suc v.stamp) nothing_counted (with_taken n count address taken (node_of code v)) (address ∷ []) nothing)
    (takes (setup_of code v) (node_of code v) x.name asked taken count address (c.requires.granted code) answered)
    (grants_here n v.number (suc v.stamp) (node_of code v) x.name count address taken c.args.request c.requires.alone))
