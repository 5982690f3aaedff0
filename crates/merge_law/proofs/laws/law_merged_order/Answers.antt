use Rattle.merge_law.proofs.laws.law_merged_order.Goals as goal
use Rattle.merge_law.proofs.InOrder.{merged_is_in_order}

pub returns : goal.returns
returns c = merged_is_in_order
