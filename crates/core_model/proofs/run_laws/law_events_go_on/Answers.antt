use Rattle.core_model.proofs.run_laws.law_events_go_on.Goals as goal
use Rattle.core_model.proofs.Events.GoingOn.{events_go_on, event_goes_on}

pub returns-clause-list : goal.returns-clause-list
returns-clause-list c = events_go_on

pub returns-clause-one : goal.returns-clause-one
returns-clause-one c = event_goes_on
