use Rattle.std.proofs.Common.{◌≡◌, ◌++◌, map, take}
use Rattle.sim_core.specs.code.CellsBelow.{cell_at}
use Rattle.sim_core.proofs.cells.add_cells.Given as goal

abbrev pub invariant-loop-i : goal.invariant-loop-i
invariant-loop-i l = l.cells ≡ l.initial.cells ++ map (cell_at l.nodelet) (take l.i l.words)
