use Rattle.threadlet_code.proofs.strand_laws.law_last_action_halts_here.Goals as goal
use Rattle.threadlet_code.proofs.Following.{last_action_halts_here}

pub returns : goal.returns
returns c = last_action_halts_here
