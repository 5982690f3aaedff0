-- What left sides are to a definition.
use Rattle.cilk_model.specs.StatementLowering as model
use Rattle.cilk_types.specs.declared.walk.Side.{Side}
use Rattle.cilk_types.specs.declared.walk.Side.TheVariants.{Slot, Cell}

abbrev pub side_of : Side → model.Side
side_of (Slot slot) = model.slot slot
side_of (Cell at address) = model.cell at address
