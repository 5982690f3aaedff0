use Rattle.core_model.proofs.run_laws.law_cells_are_all.Goals as goal
use Rattle.core_model.proofs.Invariant.AllCells.{cells_are_all}

pub returns : goal.returns
returns c = cells_are_all
