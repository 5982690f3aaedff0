use Rattle.threadlet_code.proofs.verified_laws.law_children_fit.Goals as goal
use Rattle.threadlet_code.proofs.FitLaws.{children_fit}

pub returns : goal.returns
returns c = children_fit
