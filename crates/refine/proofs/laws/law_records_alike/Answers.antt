use Rattle.refine.proofs.laws.law_records_alike.Goals as goal
use Rattle.refine.proofs.Records.{records_alike}

pub returns : goal.returns
returns c u program sound implements ran whole = records_alike u program sound implements ran whole
