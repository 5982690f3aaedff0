use Rattle.world_model.proofs.laws.law_upgraded.Goals as goal
use Rattle.world_model.proofs.Upgrades.{upgraded_is_run}

pub returns : goal.returns
returns c = upgraded_is_run
