use Rattle.std.proofs.Common.{◌≡◌, ◌≤◌, sym, subst, to_z, of_z, w64}
use Rattle.std.proofs.lemmas.Int.{to_z-of_z}
use Rattle.world_model.specs.Allocation.{taken_from}
use Rattle.nodelet_mem.specs.Words.{grant_room}
use Rattle.core_model.specs.Effects.{with_fresh}
use Rattle.nodelet_core.specs.code.Dues.{asked_request}
use Rattle.nodelet_core.specs.code.Became.{Did}
use Rattle.nodelet_core.specs.code.Doing.{with_cursors, grant_for, with_taken}
use Rattle.nodelet_core.proofs.Becoming.{did_then}
use Rattle.nodelet_core.proofs.nodelet.Nodelet.take_words.Goals as goal

pub keep_grant-requires : goal.keep_grant-requires
keep_grant-requires c = record { room = subst (λ w. 1 ≤ grant_room w) (sym c.serve-address.ensures.words) c.requires.room }

pub returns-clause-did : goal.returns-clause-did
returns-clause-did c =
    let v = c.args.self.now in
    let kept = c.serve-address.new.self in
    let after = c.keep_grant.new.self in
    let a = c.serve-address.result in
    let held : to_z w64 (of_z w64 a) ≡ a = to_z-of_z w64 a (record { sfits = c.serve-address.type_inv }) in
    let taken = taken_from v.nodelets v.number (asked_request c.args.request) in
    subst (λ z. Did (λ w. with_taken v.nodelets c.args.count z taken w) v after) (sym held)
    (did_then (λ w. with_cursors v.nodelets w taken) (λ w. with_fresh w (grant_for c.args.count a)) v kept after c.serve-address.ensures.did
    (subst (λ z. Did (λ w. with_fresh w (grant_for c.args.count z)) kept after) held c.keep_grant.ensures))
