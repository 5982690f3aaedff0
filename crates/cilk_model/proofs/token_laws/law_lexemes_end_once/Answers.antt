use Rattle.cilk_model.proofs.token_laws.law_lexemes_end_once.Goals as goal
use Rattle.cilk_model.proofs.LexemeEnds.{lexemes_end_once}

pub returns : goal.returns
returns c = lexemes_end_once
