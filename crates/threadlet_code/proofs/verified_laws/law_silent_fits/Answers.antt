use Rattle.threadlet_code.proofs.verified_laws.law_silent_fits.Goals as goal
use Rattle.threadlet_code.proofs.FitLaws.{silent_fits}

pub returns : goal.returns
returns c = silent_fits
