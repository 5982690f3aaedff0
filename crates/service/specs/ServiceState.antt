-- What contracts see of a `Services`.
use Rattle.std.specs.Prelude.{ℕ, List}
use Rattle.data_layout.specs.CursorTable.{CursorTable}

-- The pieces of output, the first one printed first, and the cursors.
pub record ServiceState : Type 0 where
  pub pieces : List (List ℕ)
  pub cursors : CursorTable
