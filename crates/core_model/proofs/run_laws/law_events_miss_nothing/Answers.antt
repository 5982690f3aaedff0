use Rattle.core_model.proofs.run_laws.law_events_miss_nothing.Goals as goal
use Rattle.core_model.proofs.Invariant.NothingMissing.{events_miss_nothing}

pub returns : goal.returns
returns c = events_miss_nothing
