use Rattle.world_model.proofs.laws.law_run_append.Goals as goal
use Rattle.world_model.proofs.Runs.{run_from-append}

pub returns : goal.returns
returns c = run_from-append
