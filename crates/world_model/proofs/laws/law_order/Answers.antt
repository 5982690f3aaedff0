use Rattle.world_model.proofs.laws.law_order.Goals as goal
use Rattle.world_model.proofs.Order.{issued_is_applied_before}

pub returns : goal.returns
returns c = issued_is_applied_before
