use Rattle.std.proofs.lemmas.Result.{IfOk-weaker}
use Rattle.traffic_report.specs.Runs.{IsWholeRun}
use Rattle.core_model.specs.Core.{setting_of}
use Rattle.sim_core.specs.code.Numbered.{setup_with}
use Rattle.sim_core.specs.Kept.{setup_in, core_in}
use Rattle.sim_core.specs.Advanced.{entries_at}
use Rattle.sim_core.specs.Shown.{IsShown}
use Rattle.serial_sim.specs.Scheduled.{IsScheduled}
use Rattle.serial_sim.proofs.RunsScheduled.{scheduled}
use Rattle.serial_sim.proofs.WholeRuns.{scheduled_is_whole}
use Rattle.serial_sim.proofs.running.run_serial.Goals as goal

pub returns-clause-scheduled : goal.returns-clause-scheduled
returns-clause-scheduled c =
    let code = c.args.code.now.code in
    let u = setup_with code c.args.n c.args.turns c.args.rules in
    let left = c.in_ok-left.left in
    IfOk-weaker c.into_ran.result (IsShown (setup_in code left.core) (core_in code left.core) left.told (entries_at left.core)) (IsScheduled u c.args.seed)
    (λ ran shown. scheduled code c.args.seed u left.core left.told ran c.in_ok-left.ensures.gone shown) c.into_ran.ensures

pub returns-clause-run : goal.returns-clause-run
returns-clause-run c =
    let u = setup_with c.args.code.now.code c.args.n c.args.turns c.args.rules in
    IfOk-weaker c.into_ran.result (IsScheduled u c.args.seed) (IsWholeRun (setting_of u))
    (λ ran on. scheduled_is_whole u c.args.code.now.sound c.requires.some c.requires.few c.args.seed ran on) (returns-clause-scheduled c)
