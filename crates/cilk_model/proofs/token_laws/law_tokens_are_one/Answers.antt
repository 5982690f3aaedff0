use Rattle.cilk_model.proofs.token_laws.law_tokens_are_one.Goals as goal
use Rattle.cilk_model.proofs.OneCut.{tokens_are_one}

pub returns : goal.returns
returns c = tokens_are_one
