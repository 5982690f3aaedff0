use Rattle.threadlet_code.proofs.strand_laws.law_silent_follows.Goals as goal
use Rattle.threadlet_code.proofs.Following.{silent_follows}

pub returns : goal.returns
returns c = silent_follows
