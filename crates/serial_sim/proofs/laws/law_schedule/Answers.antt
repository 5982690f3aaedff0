use Rattle.serial_sim.proofs.laws.law_schedule.Goals as goal
use Rattle.serial_sim.proofs.Once.{one_schedule}

pub returns : goal.returns
returns c = one_schedule
