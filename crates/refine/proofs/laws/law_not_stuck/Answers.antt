use Rattle.refine.proofs.laws.law_not_stuck.Goals as goal
use Rattle.core_model.proofs.NotStuck.NeverStuck.{never_stuck}
use Rattle.refine.proofs.Events.{ended_of_program}

pub returns : goal.returns
returns c u program sound implements some events played legal still = ended_of_program u program sound implements played (never_stuck u sound some events played legal still)
