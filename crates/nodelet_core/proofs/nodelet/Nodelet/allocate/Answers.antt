use Rattle.std.proofs.lemmas.Result.{on_ok_weaker}
use Rattle.nodelet_core.proofs.Granting.{served_here}
use Rattle.nodelet_core.proofs.nodelet.Nodelet.allocate.Goals as goal

pub words_to_grant-count-requires : goal.words_to_grant-count-requires
words_to_grant-count-requires g c = record { served = served_here c.args.code.now.code c.args.self.now c.args.context c.args.request c.requires.due }

pub returns-then-stays_here-clause-ok : goal.returns-then-stays_here-clause-ok
returns-then-stays_here-clause-ok g c = on_ok_weaker c.allocate_here.result (λ had. had (g.O.Outlet.sent c.args.out.now)) c.allocate_here.ensures.ok
