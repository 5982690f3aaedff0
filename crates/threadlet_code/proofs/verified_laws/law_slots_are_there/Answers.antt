use Rattle.threadlet_code.proofs.verified_laws.law_slots_are_there.Goals as goal
use Rattle.threadlet_code.proofs.FitLaws.{slots_are_there}

pub returns : goal.returns
returns c = slots_are_there
