use Rattle.cilk_model.proofs.token_laws.law_lexical_fault_is_one.Goals as goal
use Rattle.cilk_model.proofs.OneCut.{fault_is_one}

pub returns : goal.returns
returns c = fault_is_one
