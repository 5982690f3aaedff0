use Rattle.threadlet_code.proofs.verified_laws.law_nothing_silent_is_due.Goals as goal
use Rattle.threadlet_code.proofs.Halting.{nothing_silent_is_due}

pub returns : goal.returns
returns c = nothing_silent_is_due
