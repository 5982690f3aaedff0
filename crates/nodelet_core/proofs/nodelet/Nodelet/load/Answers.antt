use Rattle.std.proofs.Common.{subst, w64}
use Rattle.std.specs.Result.{OnOk}
use Rattle.std.proofs.lemmas.Int.{to_z-of_z}
use Rattle.nodelet_core.specs.declared.due.Due.TheVariants as due
use Rattle.nodelet_core.specs.Left.{Sent}
use Rattle.nodelet_core.specs.code.Doing.{HadEffect}
use Rattle.nodelet_core.proofs.nodelet.Nodelet.load.Goals as goal

pub returns-clause-ok : goal.returns-clause-ok
returns-clause-ok c =
    subst (λ a. OnOk c.pass.result ((sent : Sent) → HadEffect c.args.code.now.code c.args.self.now c.pass.new.self sent sent c.args.context (due.Load c.args.pos a)))
    (to_z-of_z w64 c.args.address c.ranges.address) c.pass.ensures.ok
