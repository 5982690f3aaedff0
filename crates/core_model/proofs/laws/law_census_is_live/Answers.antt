use Rattle.core_model.proofs.laws.law_census_is_live.Goals as goal
use Rattle.core_model.proofs.Census.LiveStrands.{census_is_live}

pub returns : goal.returns
returns c = census_is_live
