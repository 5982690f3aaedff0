use Rattle.threadlet_code.proofs.verified_laws.law_never_stuck.Goals as goal
use Rattle.threadlet_code.proofs.FitLaws.{never_stuck}

pub returns : goal.returns
returns c = never_stuck
