use Rattle.refine.proofs.laws.law_runs_end.Goals as goal
use Rattle.core_model.proofs.NotStuck.NeverStuck.{never_stuck}
use Rattle.core_model.proofs.NotStuck.RunsEnd.{runs_end}
use Rattle.refine.proofs.Events.{end_of_program}

pub returns : goal.returns
returns c u program sound implements some events played legal still = end_of_program u program sound implements played (runs_end never_stuck u sound some events played legal still)
