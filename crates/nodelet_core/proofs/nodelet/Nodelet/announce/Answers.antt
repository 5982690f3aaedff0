use Rattle.std.proofs.Common.{◌≡◌, pos, sym, ap, ◌∙◌, subst, to_z, of_z, w64}
use Rattle.std.proofs.lemmas.Int.{to_z-of_z}
use Rattle.std.specs.Prelude.{if◌then◌else◌}
use Rattle.world_model.specs.World.{Grant}
use Rattle.core_model.specs.Contexts.{Issued}
use Rattle.core_model.specs.Effects.{nothing, to_all}
use Rattle.nodelet_core.specs.code.Doing.{SentMore, grant_sends}
use Rattle.nodelet_core.proofs.Stamps.{nothing_sent}
use Rattle.nodelet_core.proofs.Allotting.{not_zero}
use Rattle.nodelet_core.proofs.nodelet.Nodelet.announce.Goals as goal

pub returns-then-first-eq0-clause-sent : goal.returns-then-first-eq0-clause-sent
returns-then-first-eq0-clause-sent g c = λ code.
    let v = c.args.self.now in
    let sent = g.O.Outlet.sent c.args.out.now in
    let zero : c.args.first ≡ pos 0 = sym (to_z-of_z w64 c.args.first c.ranges.first) ∙ ap (to_z w64) c.if-first-eq0.true in
    subst (λ s. SentMore code v.nodelets v.number v.stamp s sent sent) (sym (ap (λ z. grant_sends v.nodelets c.args.name z c.args.count) zero))
    (nothing_sent code v.nodelets v.number v.stamp sent)

pub returns-clause-sent : goal.returns-clause-sent
returns-clause-sent g c = λ code.
    let v = c.args.self.now in
    let first = c.args.first in
    let all = to_all v.nodelets (Issued c.args.name (Grant (record { first = first; count = c.args.count }))) in
    let sends : grant_sends v.nodelets c.args.name first c.args.count ≡ all = ap (λ t. if t then nothing else all) (not_zero first (λ e. c.if-first-eq0.false (ap (of_z w64) e))) in
    subst (λ s. SentMore code v.nodelets v.number v.stamp s (g.O.Outlet.sent c.args.out.now) (g.O.Outlet.sent c.send_to_others.new.out)) (sym sends)
    (subst (λ z. SentMore code v.nodelets v.number v.stamp (to_all v.nodelets (Issued c.args.name (Grant (record { first = z; count = c.args.count })))) (g.O.Outlet.sent c.args.out.now) (g.O.Outlet.sent c.send_to_others.new.out))
    (to_z-of_z w64 first c.ranges.first) (c.send_to_others.ensures.sent code))
