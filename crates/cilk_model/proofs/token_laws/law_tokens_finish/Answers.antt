use Rattle.cilk_model.proofs.token_laws.law_tokens_finish.Goals as goal
use Rattle.cilk_model.proofs.TokenSpellings.{finish_is_last}

pub returns : goal.returns
returns c = finish_is_last
