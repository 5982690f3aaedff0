use Rattle.cilk_model.proofs.token_laws.law_texts_lex.Goals as goal
use Rattle.cilk_model.proofs.OneCut.{lexes}

pub returns : goal.returns
returns c = lexes
