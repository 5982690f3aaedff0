use Rattle.merge_law.specs.declared.event.Event.TheVariants.{Run, Take}
use Rattle.sim_core.specs.Advanced.{HasAdvanced, IsUnchanged}
use Rattle.sim_core.proofs.Outcomes.{in_either}
use Rattle.sim_core.proofs.Playing.{reached_more, reached_still}
use Rattle.sim_core.proofs.machine.Core.event.Goals as goal

pub returns-in-Run-clause-reached : goal.returns-in-Run-clause-reached
returns-in-Run-clause-reached c =
    let code = c.args.code.now.code in
    let before = c.args.self.now in
    in_either c.run.result c.run.ensures.ok c.run.ensures.err
    (λ (h : HasAdvanced code before c.run.new.self (Run c.in-Run.nodelet c.in-Run.name)). reached_more code before c.run.new.self (Run c.in-Run.nodelet c.in-Run.name) c.requires.reached h)
    (λ (h : IsUnchanged before c.run.new.self). reached_still code before c.run.new.self c.requires.reached h)

pub returns-in-Take-clause-reached : goal.returns-in-Take-clause-reached
returns-in-Take-clause-reached c =
    let code = c.args.code.now.code in
    let before = c.args.self.now in
    in_either c.take.result c.take.ensures.ok c.take.ensures.err
    (λ (h : HasAdvanced code before c.take.new.self (Take c.in-Take.origin c.in-Take.nodelet)). reached_more code before c.take.new.self (Take c.in-Take.origin c.in-Take.nodelet) c.requires.reached h)
    (λ (h : IsUnchanged before c.take.new.self). reached_still code before c.take.new.self c.requires.reached h)
