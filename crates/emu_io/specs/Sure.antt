-- A sink that never fails, with room for so many bytes.
use Rattle.std.specs.Prelude.{ℕ, ◌-◌, Bool, ◌&&◌, List, ◌++◌, length, take, nat_le}

-- the bytes that it kept, whether they are all that it took, and how many it has room for
pub record Shelf : Type 0 where
  pub bytes : List ℕ
  pub whole : Bool
  pub room : ℕ

-- the sink behind a call that took bs: it keeps what it has room for
abbrev pub shelf_behind : Shelf → List ℕ → Shelf
shelf_behind shelf bs = record shelf {
  bytes = take shelf.room (shelf.bytes ++ bs);
  whole = shelf.whole && nat_le (length bs) (shelf.room - length shelf.bytes);
}
