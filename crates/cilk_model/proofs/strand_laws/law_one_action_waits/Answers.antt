use Rattle.cilk_model.proofs.strand_laws.law_one_action_waits.Goals as goal
use Rattle.cilk_model.proofs.Growth.{one_action_waits}

pub returns : goal.returns
returns c = one_action_waits
