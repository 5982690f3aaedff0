use Rattle.world_model.proofs.laws.law_names.Goals as goal
use Rattle.world_model.proofs.Settling.{names_differ}

pub returns : goal.returns
returns c = names_differ
