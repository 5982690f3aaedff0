-- What contracts see of a `Cursors`.
use Rattle.std.specs.Prelude.{ℕ, List, slice_index}

-- The number of nodelets that it was made for, and the cursors by view.
pub record CursorTable : Type 0 where
  pub nodelets : ℕ
  pub by_view : List ℕ

-- The cursor of a view.
abbrev pub cursor_of : CursorTable → ℕ → ℕ
cursor_of table view = slice_index table.by_view view
