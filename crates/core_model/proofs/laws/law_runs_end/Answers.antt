use Rattle.core_model.proofs.laws.law_runs_end.Goals as goal
use Rattle.core_model.proofs.NotStuck.NeverStuck.{never_stuck}
use Rattle.core_model.proofs.NotStuck.RunsEnd.{runs_end}

pub returns : goal.returns
returns c = runs_end never_stuck
