use Rattle.std.proofs.Common.{◌≤◌, ◌-◌, sym, ◌∙◌, subst}
use Rattle.nodelet_mem.specs.Words.{grant_room}
use Rattle.core_model.specs.Nodes.{with_issued}
use Rattle.nodelet_core.specs.code.Became.{Did}
use Rattle.nodelet_core.proofs.Becoming.{did_then, unchanged_then, unchanged_did}
use Rattle.nodelet_core.proofs.Ran.{any_err}
use Rattle.nodelet_core.proofs.Posting.{linked_before, linked_behind}
use Rattle.nodelet_core.proofs.nodelet.Nodelet.prepare_for_all.Goals as goal

pub make_room-requires : goal.make_room-requires
make_room-requires g c = record { reaches = λ k linked. c.requires.reaches k (linked_before c.args.self.now c.reserve_grant.new.self k c.reserve_grant.ensures.same.settings linked) }

pub returns-in_err-issue_items-clause-err : goal.returns-in_err-issue_items-clause-err
returns-in_err-issue_items-clause-err g c =
    any_err c.from_residual-in_err-issue_items.result _
    (unchanged_then c.args.self.now c.reserve_grant.new.self c.issue_items.new.self c.reserve_grant.ensures.same c.in_err-issue_items.ensures.err)

pub returns-clause-ok : goal.returns-clause-ok
returns-clause-ok g c =
    let v = c.args.self.now in
    let ready = c.reserve_grant.new.self in
    let after = c.issue_items.new.self in
    let same = c.reserve_grant.ensures.same in
    did_then (λ w. w) (λ w. with_issued w c.args.name (v.nodelets - 1)) v ready after (unchanged_did v ready same)
    (subst (λ n. Did (λ w. with_issued w c.args.name (n - 1)) ready after) same.settings.nodelets c.in_ok-issue_items.ensures.ok)

pub returns-clause-grant : goal.returns-clause-grant
returns-clause-grant g c = subst (λ w. 1 ≤ grant_room w) (sym c.issue_items.ensures.words) c.in_ok-reserve_grant.ensures.room

pub returns-clause-room : goal.returns-clause-room
returns-clause-room g c = λ k linked.
    c.in_ok-make_room.ensures.room k (linked_behind c.args.self.now c.reserve_grant.new.self k c.reserve_grant.ensures.same.settings linked)
