use Rattle.nodelet_core.proofs.Outgoing.{sent_one}
use Rattle.nodelet_core.proofs.nodelet.Nodelet.send.Goals as goal

pub returns-clause-sent : goal.returns-clause-sent
returns-clause-sent g c = λ code fits.
    let v = c.args.self.now in
    sent_one code v.nodelets v.number v.stamp c.args.body fits c.args.to (g.O.Outlet.sent c.args.out.now) (g.O.Outlet.sent c.send.new.self) c.requires.linked c.send.ensures.sent c.send.ensures.sent_elsewhere
