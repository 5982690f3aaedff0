use Rattle.threadlet_code.proofs.verified_laws.law_silent_stays_tidy.Goals as goal
use Rattle.threadlet_code.proofs.FitLaws.{silent_stays_tidy}

pub returns : goal.returns
returns c = silent_stays_tidy
