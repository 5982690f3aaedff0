use Rattle.world_model.proofs.laws.law_one_nodelet.Goals as goal
use Rattle.world_model.proofs.Steps.{one_nodelet}

pub returns : goal.returns
returns c = one_nodelet
