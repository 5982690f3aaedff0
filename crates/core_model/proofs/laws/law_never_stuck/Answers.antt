use Rattle.core_model.proofs.laws.law_never_stuck.Goals as goal
use Rattle.core_model.proofs.NotStuck.NeverStuck.{never_stuck}

pub returns : goal.returns
returns c = never_stuck
