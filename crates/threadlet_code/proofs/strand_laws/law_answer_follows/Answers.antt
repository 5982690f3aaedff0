use Rattle.threadlet_code.proofs.strand_laws.law_answer_follows.Goals as goal
use Rattle.threadlet_code.proofs.Following.{answer_follows}

pub returns : goal.returns
returns c = answer_follows
