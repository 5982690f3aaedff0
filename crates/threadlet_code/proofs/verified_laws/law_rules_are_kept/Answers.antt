use Rattle.threadlet_code.proofs.verified_laws.law_rules_are_kept.Goals as goal
use Rattle.threadlet_code.proofs.Leads.{rules_are_kept}

pub returns : goal.returns
returns c = rules_are_kept
