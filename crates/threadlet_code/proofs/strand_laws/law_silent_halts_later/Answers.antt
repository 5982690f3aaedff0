use Rattle.threadlet_code.proofs.strand_laws.law_silent_halts_later.Goals as goal
use Rattle.threadlet_code.proofs.Following.{silent_halts_later}

pub returns : goal.returns
returns c = silent_halts_later
