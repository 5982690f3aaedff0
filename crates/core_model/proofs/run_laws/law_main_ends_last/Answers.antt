use Rattle.core_model.proofs.run_laws.law_main_ends_last.Goals as goal
use Rattle.core_model.proofs.Ends.MainLast.{main_ends_last}

pub returns : goal.returns
returns c = main_ends_last
