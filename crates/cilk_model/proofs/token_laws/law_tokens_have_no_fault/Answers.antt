use Rattle.cilk_model.proofs.token_laws.law_tokens_have_no_fault.Goals as goal
use Rattle.cilk_model.proofs.OneCut.{not_both}

pub returns : goal.returns
returns c = not_both
