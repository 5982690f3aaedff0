use Rattle.threadlet_code.proofs.verified_laws.law_answer_fits.Goals as goal
use Rattle.threadlet_code.proofs.FitLaws.{answer_fits}

pub returns : goal.returns
returns c = answer_fits
