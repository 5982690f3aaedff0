use Rattle.core_model.proofs.run_laws.law_merged_end_is_shown.Goals as goal
use Rattle.core_model.proofs.Ends.EndShown.{merged_end_is_shown}

pub returns : goal.returns
returns c = merged_end_is_shown
