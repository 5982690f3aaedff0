use Rattle.threadlet_code.proofs.verified_laws.law_heights_are_of_ways.Goals as goal
use Rattle.threadlet_code.proofs.Leads.{heights_are_of_ways}

pub returns : goal.returns
returns c = heights_are_of_ways
