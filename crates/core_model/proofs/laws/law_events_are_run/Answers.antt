use Rattle.core_model.proofs.laws.law_events_are_run.Goals as goal
use Rattle.core_model.proofs.Events.EventsAreRun.{events_are_run}

pub returns : goal.returns
returns c = events_are_run
