use Rattle.std.proofs.Common.{◌≡◌, suc, [], ◌∷◌, Bool, true, None, refl, sym, ap, ◌∙◌}
use Rattle.threadlet_state.specs.declared.context.Context as carried
use Rattle.nodelet_core.specs.declared.counting.Counted.{Counted}
use Rattle.core_model.specs.Contexts.{Arrival}
use Rattle.nodelet_core.specs.Carried.{context_in}
use Rattle.nodelet_core.specs.code.Counted.{counted}
use Rattle.core_model.specs.Nodes.{Node, sent_away}
use Rattle.core_model.specs.Effects.{Effect, only_to}
use Rattle.core_model.specs.Runs.{gone}
use Rattle.nodelet_core.specs.Kept.{node_of, context_fits}
use Rattle.nodelet_core.specs.code.Doing.{goes_from}
use Rattle.nodelet_core.proofs.Doing.{gone_left, did_nothing, nothing_counted}
use Rattle.nodelet_core.proofs.Stamps.{sent_from, sent_at}
use Rattle.nodelet_core.proofs.Followed.{left_as}
use Rattle.nodelet_core.proofs.nodelet.Nodelet.send_whole.Goals as goal

pub returns-clause-ok : goal.returns-clause-ok
returns-clause-ok g c = λ code fits.
    let v = c.args.self.now in
    let after = c.go.new.self in
    let x = c.args.context in
    let d : Counted = record nothing_counted { sent_away = true } in
    let node : Node = node_of code v in
    let y = c.in_ok-context.context in
    let boxed : y ≡ x = c.in_ok-context.ensures.ok in
    let e : Effect = record { node = sent_away node; answer = []; sends = only_to c.args.to (Arrival (context_in code y)); child = None } in
    let counts = ap (λ (k : Counted). let z : Counted = record k { sent_away = true } in z) c.nothing.ensures in
    let stamp : after.stamp ≡ suc v.stamp =
    ap (λ (w : Node). w.stamp) (c.go.ensures.node code ∙ ap (λ k. goes_from v.nodelets v.number k x.name code node) counts) in
    let sends = c.send.ensures.sent code (ap (context_fits code) boxed ∙ fits) in
    left_as code (suc v.stamp) v after (g.O.Outlet.sent c.args.out.now) (g.O.Outlet.sent c.send.new.out) (gone (context_in code x) 0 e) _ refl (ap (λ (z : carried.Context). only_to c.args.to (Arrival (context_in code z))) boxed)
    (gone_left code v v after (λ w. w) _ d x.name (g.O.Outlet.sent c.args.out.now) (g.O.Outlet.sent c.send.new.out)
    (record { did = did_nothing v; keeps_stamp = refl; counts = counts; became = c.go.ensures }) (context_in code x) refl 0 e refl
    (sent_from code v.nodelets v.number (suc v.stamp) e.sends (g.O.Outlet.sent c.args.out.now) (g.O.Outlet.sent c.reserve.new.self) (g.O.Outlet.sent c.send.new.out) c.reserve.ensures.sent
    (sent_at code after.nodelets after.number after.stamp v.nodelets v.number (suc v.stamp) e.sends _ _ c.go.ensures.settings.nodelets c.go.ensures.settings.number stamp sends)))
