use Rattle.std.proofs.Common.{◌≡◌, ◌≤◌, ◌-◌, ℤ, [], ◌∷◌, true, false, suc, refl, ap, sym, ◌∙◌, subst, to_z, of_z, w64}
use Rattle.std.proofs.lemmas.Int.{to_z-of_z}
use Rattle.world_model.specs.Allocation.{taken_from}
use Rattle.threadlet_code.specs.declared.code.Code.{Code}
use Rattle.threadlet_state.specs.Answered.{IsAnswered}
use Rattle.nodelet_core.specs.declared.nodelet.Nodelet.{Nodelet}
use Rattle.nodelet_core.specs.declared.due.Due.TheVariants as due
use Rattle.core_model.specs.Nodes.{with_issued}
use Rattle.nodelet_core.specs.code.Dues.{asked_request}
use Rattle.nodelet_core.specs.code.Standing.{is_among}
use Rattle.nodelet_core.specs.Kept.{node_of, setup_of, SameSettings}
use Rattle.nodelet_core.specs.code.Became.{Did}
use Rattle.nodelet_core.specs.code.Doing.{SentMore, address_for, with_taken, kept_for, grant_sends}
use Rattle.nodelet_core.proofs.Becoming.{settings_then}
use Rattle.nodelet_core.proofs.Resuming.{stands_before}
use Rattle.nodelet_core.proofs.Stamps.{sent_from, sent_behind, did_before_last}
use Rattle.nodelet_core.proofs.Doing.{Leaves, had_whole, nothing_counted}
use Rattle.nodelet_core.proofs.Posting.{linked_before}
use Rattle.nodelet_core.proofs.Granting.{served_here, never_spawns, takes, grants_all}
use Rattle.nodelet_core.proofs.Allotting.{served_then, all_stamp, all_took, issued_address, issued_counts}
use Rattle.nodelet_core.proofs.nodelet.Nodelet.allocate_for_all.Goals as goal

pub take_for_all-address-requires-clause-served : goal.take_for_all-address-requires-clause-served
take_for_all-address-requires-clause-served g c =
    let v = c.args.self.now in
    served_then v c.prepare_for_all.new.self c.args.request c.in_ok-prepare_for_all.ensures.ok.settings (served_here c.args.code.now.code v c.args.context c.args.request c.requires.due)

pub take_for_all-address-requires-clause-issued : goal.take_for_all-address-requires-clause-issued
take_for_all-address-requires-clause-issued g c = issued_counts c.args.self.now c.prepare_for_all.new.self c.args.context.name c.in_ok-prepare_for_all.ensures.ok

pub answer-requires : goal.answer-requires
answer-requires g c = record { asked = stands_before c.args.code.now.code c.args.self.now c.args.context (due.Alloc c.args.request) c.requires.due refl }

-- Only a Spawn is refused.
pub returns-in_err-answer-clause-err : goal.returns-in_err-answer-clause-err
returns-in_err-answer-clause-err g c =
    absurd (let wrong : false ≡ true = never_spawns c.args.code.now.code c.args.self.now c.args.context c.args.request c.requires.due c.in_err-answer.ensures.spawn in cc)

pub go_on-requires-clause-stamp : goal.go_on-requires-clause-stamp
go_on-requires-clause-stamp g c =
    let v = c.args.self.now in
    let name = c.args.context.name in
    let asked = asked_request c.args.request in
    let taken = taken_from v.nodelets v.number asked in
    let address = c.take_for_all-address.result in
    did_before_last c.args.code.now.code (λ w. kept_for name (v.nodelets - 1) address (with_taken v.nodelets c.args.count address taken (with_issued w name (v.nodelets - 1)))) v c.take_for_all-address.new.self
    (all_took v c.prepare_for_all.new.self c.take_for_all-address.new.self name asked c.args.count address c.in_ok-prepare_for_all.ensures.ok c.take_for_all-address.ensures.did)
    (all_stamp v.nodelets c.args.count (v.nodelets - 1) name address taken (node_of c.args.code.now.code v)) c.requires.due.stands.stamp

pub go_on-requires-clause-among : goal.go_on-requires-clause-among
go_on-requires-clause-among g c =
    let v = c.args.self.now in
    let mid = c.take_for_all-address.new.self in
    let same : SameSettings v mid = settings_then v c.prepare_for_all.new.self mid c.in_ok-prepare_for_all.ensures.ok.settings c.take_for_all-address.ensures.did.settings in
    ap (is_among mid.nodelets) c.answer.ensures.kept ∙ ap (λ n. is_among n c.args.context) same.nodelets ∙ c.requires.due.stands.among

pub announce-requires-clause-reaches : goal.announce-requires-clause-reaches
announce-requires-clause-reaches g c = λ k linked.
    let v = c.args.self.now in
    let mid = c.take_for_all-address.new.self in
    let after = c.go_on.new.self in
    let same : SameSettings v mid = settings_then v c.prepare_for_all.new.self mid c.in_ok-prepare_for_all.ensures.ok.settings c.take_for_all-address.ensures.did.settings in
    c.prepare_for_all.ensures.reaches k ∙ c.requires.reaches k (linked_before v after k (settings_then v mid after same c.go_on.ensures.settings) linked)

pub announce-requires-clause-room : goal.announce-requires-clause-room
announce-requires-clause-room g c = λ k linked.
    let v = c.args.self.now in
    let mid = c.take_for_all-address.new.self in
    let after = c.go_on.new.self in
    let same : SameSettings v mid = settings_then v c.prepare_for_all.new.self mid c.in_ok-prepare_for_all.ensures.ok.settings c.take_for_all-address.ensures.did.settings in
    c.in_ok-prepare_for_all.ensures.room k (linked_before v after k (settings_then v mid after same c.go_on.ensures.settings) linked)

pub returns-clause-ok : goal.returns-clause-ok
returns-clause-ok g c =
    let code = c.args.code.now.code in
    let v = c.args.self.now in
    let n = v.nodelets in
    let x = c.args.context in
    let name = x.name in
    let y = c.answer.new.context in
    let ready = c.prepare_for_all.new.self in
    let mid = c.take_for_all-address.new.self in
    let after = c.go_on.new.self in
    let count = c.args.count in
    let address = c.take_for_all-address.result in
    let asked = asked_request c.args.request in
    let taken = taken_from n v.number asked in
    let before_sent = g.O.Outlet.sent c.args.out.now in
    let ready_sent = g.O.Outlet.sent c.prepare_for_all.new.out in
    let after_sent = g.O.Outlet.sent c.announce.new.out in
    let sends = grant_sends n name address count in
    let held : to_z w64 (of_z w64 address) ≡ address = to_z-of_z w64 address (record { sfits = c.take_for_all-address.type_inv }) in
    let answered : address ≡ address_for (node_of code v) taken =
    c.take_for_all-address.ensures.address code ∙ issued_address code v ready name (n - 1) asked c.in_ok-prepare_for_all.ensures.ok in
    let did : Did (λ w. kept_for name (n - 1) address (with_taken n count address taken (with_issued w name (n - 1)))) v mid =
    all_took v ready mid name asked count address c.in_ok-prepare_for_all.ensures.ok c.take_for_all-address.ensures.did in
    let keeps = all_stamp n count (n - 1) name address taken (node_of code v) in
    let same : SameSettings v after = settings_then v mid after did.settings c.go_on.ensures.settings in
    let bodies : grant_sends after.nodelets name (to_z w64 (of_z w64 address)) count ≡ sends =
    ap (λ k. grant_sends k name (to_z w64 (of_z w64 address)) count) same.nodelets ∙ ap (λ z. grant_sends n name z count) held in
    let sent : SentMore code after.nodelets after.number after.stamp sends before_sent after_sent =
    sent_from code after.nodelets after.number after.stamp sends before_sent ready_sent after_sent c.prepare_for_all.ensures.sent
    (subst (λ b. SentMore code after.nodelets after.number after.stamp b ready_sent after_sent) bodies (c.announce.ensures.sent code)) in
    had_whole code v mid after x y (λ w. kept_for name (n - 1) address (with_taken n count address taken (with_issued w name (n - 1)))) c.nothing.result nothing_counted
    (address ∷ []) sends before_sent after_sent (due.Alloc c.args.request) refl refl
    (record {
      did = did;
      keeps_stamp = keeps;
      counts = c.nothing.ensures;
      became = c.go_on.ensures;
      same = c.answer.ensures.kept;
      answered = subst (λ z. IsAnswered code x.frames (z ∷ []) y.frames) held c.in_ok-answer.ensures.ok;
      sent = sent_behind code (λ w. kept_for name (n - 1) address (with_taken n count address taken (with_issued w name (n - 1)))) c.nothing.result y _ v mid after
          sends before_sent after_sent did keeps c.go_on.ensures sent;
    })
    (subst (Leaves n v.number (suc v.stamp) nothing_counted (kept_for name (n - 1) address (with_taken n count address taken (with_issued (node_of code v) name (n - 1)))) (address ∷ []) sends)
    (takes (setup_of code v) (node_of code v) name asked taken count address (c.requires.granted code) answered)
    (grants_all n v.number (suc v.stamp) (node_of code v) name count address taken c.args.request c.requires.for_all))
