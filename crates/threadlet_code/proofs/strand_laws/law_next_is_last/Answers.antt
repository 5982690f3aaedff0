use Rattle.threadlet_code.proofs.strand_laws.law_next_is_last.Goals as goal
use Rattle.threadlet_code.proofs.Following.{next_is_last}

pub returns : goal.returns
returns c = next_is_last
