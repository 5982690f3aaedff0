use Rattle.threadlet_code.proofs.verified_laws.law_answer_stays_tidy.Goals as goal
use Rattle.threadlet_code.proofs.FitLaws.{answer_stays_tidy}

pub returns : goal.returns
returns c = answer_stays_tidy
