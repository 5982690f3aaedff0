use Rattle.nodelet_core.proofs.Taking.{took_context}
use Rattle.nodelet_core.proofs.Delivered.{comes_among}
use Rattle.nodelet_core.proofs.nodelet.Nodelet.take.Goals as goal

pub take_context-requires : goal.take_context-requires
take_context-requires g c = record {
  later = c.requires.later;
  among = comes_among c.requires.awaited.code c.args.self.now c.in-Ctx.x c.args.body c.in-Ctx.is c.requires.awaited.comes;
}

pub returns-in-Ok-clause-ok : goal.returns-in-Ok-clause-ok
returns-in-Ok-clause-ok g c = λ code fits.
    took_context code c.args.stamp c.args.self.now c.take_context.new.self c.args.origin c.args.body c.in-Ctx.x (g.O.Outlet.sent c.args.out.now) c.in-Ctx.is fits c.in-Ok.ensures.ok
