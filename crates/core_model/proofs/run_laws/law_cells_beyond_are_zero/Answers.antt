use Rattle.core_model.proofs.run_laws.law_cells_beyond_are_zero.Goals as goal
use Rattle.core_model.proofs.Invariant.AllCells.{cells_beyond_are_zero}

pub returns : goal.returns
returns c = cells_beyond_are_zero
