use Rattle.refine.proofs.code_laws.law_code_run.Goals as goal
use Rattle.refine.proofs.CodeRuns.{events_are_run_of_code}

pub returns : goal.returns
returns c = events_are_run_of_code
