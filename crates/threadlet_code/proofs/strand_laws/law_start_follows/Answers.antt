use Rattle.threadlet_code.proofs.strand_laws.law_start_follows.Goals as goal
use Rattle.threadlet_code.proofs.Following.{start_follows}

pub returns : goal.returns
returns c = start_follows
