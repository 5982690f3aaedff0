use Rattle.core_model.proofs.run_laws.law_events_touch_few.Goals as goal
use Rattle.core_model.proofs.Touched.OthersAlike.{others_stand, events_are_local}

pub returns-clause-others : goal.returns-clause-others
returns-clause-others c = others_stand

pub returns-clause-elsewhere : goal.returns-clause-elsewhere
returns-clause-elsewhere c = events_are_local
