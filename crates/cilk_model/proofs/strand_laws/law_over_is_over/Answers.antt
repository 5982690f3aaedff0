use Rattle.cilk_model.proofs.strand_laws.law_over_is_over.Goals as goal
use Rattle.cilk_model.proofs.Growth.{over_is_over}

pub returns : goal.returns
returns c = over_is_over
