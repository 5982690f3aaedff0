use Rattle.refine.proofs.code_laws.law_code_not_stuck.Goals as goal
use Rattle.refine.proofs.CodeRuns.{code_never_stuck}

pub returns : goal.returns
returns c = code_never_stuck
