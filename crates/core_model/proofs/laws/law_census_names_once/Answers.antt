use Rattle.core_model.proofs.laws.law_census_names_once.Goals as goal
use Rattle.core_model.proofs.Census.NamesOnce.{census_names_once}

pub returns : goal.returns
returns c = census_names_once
