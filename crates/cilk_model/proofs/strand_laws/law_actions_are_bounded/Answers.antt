use Rattle.cilk_model.proofs.strand_laws.law_actions_are_bounded.Goals as goal
use Rattle.cilk_model.proofs.Growth.{actions_are_bounded}

pub returns : goal.returns
returns c = actions_are_bounded
