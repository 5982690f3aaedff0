use Rattle.core_model.proofs.laws.law_first_can_come.Goals as goal
use Rattle.core_model.proofs.Packets.FirstCanCome.{first_can_come}

pub returns : goal.returns
returns c = first_can_come
