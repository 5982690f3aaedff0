use Rattle.threadlet_code.specs.declared.code.Code.{Code}
use Rattle.sim_core.specs.Kept.{core_in}
use Rattle.sim_core.specs.Shown.{cells_in}
use Rattle.sim_core.specs.code.CellsBelow.{AreCellsBelow}
use Rattle.sim_core.proofs.machine.Core.cells.Given as goal

abbrev pub invariant-loop-k : goal.invariant-loop-k
invariant-loop-k l = (code : Code) → AreCellsBelow l.k (cells_in (core_in code l.self)) l.cells
