use Rattle.world_model.proofs.laws.law_one_list.Goals as goal
use Rattle.world_model.proofs.OneList.{one_list}

pub returns : goal.returns
returns c = one_list
