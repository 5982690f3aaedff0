use Rattle.cilk_model.proofs.token_laws.law_tokens_are_spelled.Goals as goal
use Rattle.cilk_model.proofs.TokenSpellings.{tokens_spelled}

pub returns : goal.returns
returns c = tokens_spelled
