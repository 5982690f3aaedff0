use Rattle.std.proofs.Common.{◌≡◌, ◌++◌, ℕ, subst, arith}
use Rattle.nodelet_core.specs.code.Told.{body_for, told_to}
use Rattle.nodelet_core.proofs.Outgoing.{sent_to_all, item_is, item_fits}
use Rattle.nodelet_core.proofs.nodelet.Nodelet.send_to_others.Goals as goal

pub returns-clause-sent : goal.returns-clause-sent
returns-clause-sent g c = λ code.
    let v = c.args.self.now in
    let name = c.args.name in
    let item = c.args.item in
    let first = g.O.Outlet.sent c.args.out.now in
    let after = g.O.Outlet.sent c.loop-k.out in
    let end : c.loop-k.k ≡ v.nodelets = omega arith in
    sent_to_all code v.nodelets v.number v.stamp (body_for name item) (item_fits code name item) item name first after (item_is code name item)
    (subst (λ k. (j : ℕ) → after j ≡ first j ++ told_to v.nodelets v.number k (record { stamp = v.stamp; body = body_for name item }) j) end c.loop-k.invariant.sent)
