use Rattle.threadlet_code.proofs.machine_laws.law_silent_goes_on.Goals as goal
use Rattle.threadlet_code.proofs.FromLaws.{silent_goes_on}

pub returns : goal.returns
returns c = silent_goes_on
