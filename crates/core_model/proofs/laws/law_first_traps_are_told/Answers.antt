use Rattle.core_model.proofs.laws.law_first_traps_are_told.Goals as goal
use Rattle.core_model.proofs.FirstTrap.FirstTraps.{first_traps_are_told}

pub returns : goal.returns
returns c = first_traps_are_told
