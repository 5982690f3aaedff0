use Rattle.cilk_model.proofs.strand_laws.law_more_answers_make_more_actions.Goals as goal
use Rattle.cilk_model.proofs.Growth.{more_answers_make_more_actions}

pub returns : goal.returns
returns c = more_answers_make_more_actions
