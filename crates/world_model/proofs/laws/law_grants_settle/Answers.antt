use Rattle.world_model.proofs.laws.law_grants_settle.Goals as goal
use Rattle.world_model.proofs.Settling.{grants_settle}

pub returns : goal.returns
returns c = grants_settle
