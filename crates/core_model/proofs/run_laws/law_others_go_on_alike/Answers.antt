use Rattle.core_model.proofs.run_laws.law_others_go_on_alike.Goals as goal
use Rattle.core_model.proofs.Touched.OthersAlike.{others_go_on_alike, others_go_on_unless_held}

pub returns-clause-alike : goal.returns-clause-alike
returns-clause-alike c = others_go_on_alike

pub returns-clause-unless_held : goal.returns-clause-unless_held
returns-clause-unless_held c = others_go_on_unless_held
