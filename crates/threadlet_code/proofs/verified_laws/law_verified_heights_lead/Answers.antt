use Rattle.threadlet_code.proofs.verified_laws.law_verified_heights_lead.Goals as goal
use Rattle.threadlet_code.proofs.Leads.{verified_heights_lead}

pub returns : goal.returns
returns c = verified_heights_lead
