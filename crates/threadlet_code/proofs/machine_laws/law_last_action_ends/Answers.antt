use Rattle.threadlet_code.proofs.machine_laws.law_last_action_ends.Goals as goal
use Rattle.threadlet_code.proofs.FromLaws.{last_action_ends}

pub returns : goal.returns
returns c = last_action_ends
