use Rattle.threadlet_code.proofs.strand_laws.law_end_is_last.Goals as goal
use Rattle.threadlet_code.proofs.Following.{end_is_last}

pub returns : goal.returns
returns c = end_is_last
