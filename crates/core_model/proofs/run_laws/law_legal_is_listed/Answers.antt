use Rattle.core_model.proofs.run_laws.law_legal_is_listed.Goals as goal
use Rattle.core_model.proofs.Events.GoingOn.{legal_is_listed, none_listed_is_still}

pub returns-clause-listed : goal.returns-clause-listed
returns-clause-listed c = legal_is_listed

pub returns-clause-still : goal.returns-clause-still
returns-clause-still c = none_listed_is_still
