use Rattle.world_model.proofs.laws.law_pending.Goals as goal
use Rattle.world_model.proofs.Pending.{pending_is_issued}

pub returns : goal.returns
returns c = pending_is_issued
