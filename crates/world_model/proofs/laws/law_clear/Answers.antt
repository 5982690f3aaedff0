use Rattle.world_model.proofs.laws.law_clear.Goals as goal
use Rattle.world_model.proofs.Bounds.{clear_means_nothing_pending}

pub returns : goal.returns
returns c = clear_means_nothing_pending
