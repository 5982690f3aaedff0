use Rattle.threadlet_code.proofs.machine_laws.law_action_is_made.Goals as goal
use Rattle.threadlet_code.proofs.FromLaws.{action_is_made}

pub returns : goal.returns
returns c = action_is_made
