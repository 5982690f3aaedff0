use Rattle.cilk_model.proofs.strand_laws.law_strands_begin_with_turn.Goals as goal
use Rattle.cilk_model.proofs.Growth.{strands_begin_with_turn}

pub returns : goal.returns
returns c = strands_begin_with_turn
