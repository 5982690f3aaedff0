use Rattle.threadlet_code.proofs.verified_laws.law_halts_at_due.Goals as goal
use Rattle.threadlet_code.proofs.Halting.{halts_at_due}

pub returns : goal.returns
returns c = halts_at_due
