use Rattle.std.proofs.lemmas.Result.{on_ok_weaker}
use Rattle.nodelet_core.specs.Kept.{carried_at}
use Rattle.nodelet_core.proofs.Arriving.{names_with}
use Rattle.nodelet_core.proofs.nodelet.Nodelet.add.Goals as goal

pub returns-clause-names : goal.returns-clause-names
returns-clause-names c =
    on_ok_weaker c.add.result (λ is name has. names_with c.args.x (carried_at c.args.self.now) c.add.new.self.contexts.items is name has) c.add.ensures.ok
