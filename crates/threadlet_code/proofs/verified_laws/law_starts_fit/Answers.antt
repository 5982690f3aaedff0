use Rattle.threadlet_code.proofs.verified_laws.law_starts_fit.Goals as goal
use Rattle.threadlet_code.proofs.FitLaws.{starts_fit}

pub returns : goal.returns
returns c = starts_fit
