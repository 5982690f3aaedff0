use Rattle.threadlet_code.proofs.strand_laws.law_action_halts_here.Goals as goal
use Rattle.threadlet_code.proofs.Following.{action_halts_here}

pub returns : goal.returns
returns c = action_halts_here
