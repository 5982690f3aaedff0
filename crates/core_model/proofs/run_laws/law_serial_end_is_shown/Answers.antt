use Rattle.core_model.proofs.run_laws.law_serial_end_is_shown.Goals as goal
use Rattle.core_model.proofs.Ends.EndShown.{serial_end_is_shown}

pub returns : goal.returns
returns c = serial_end_is_shown
