use Rattle.refine.proofs.code_laws.law_upgrades_alike.Goals as goal
use Rattle.refine.proofs.Upgrades.{upgrades_alike}

pub returns : goal.returns
returns c = upgrades_alike
