-- The words of the nodelets before one.
use Rattle.std.specs.Prelude.{◌≡◌, ◌≢◌, ◌<◌, ℕ, ℤ, pos, List, All, AllPairs, Contains, IsTrue}
use Rattle.word_ops.specs.declared.traffic.Cell.{Cell}
use Rattle.world_model.specs.Cells.{precedes}

-- A word of a nodelet behind its address, as a cell.
abbrev pub cell_at : ℕ → ℤ × ℤ → Cell
cell_at k listed = record { nodelet = k; address = listed.0; word = listed.1 }

-- A list has exactly the words that are not 0 of the nodelets before a number, in order.
pub record AreCellsBelow (n : ℕ) (cells : ℕ → ℤ → ℤ) (listed : List Cell) : Type 0 where
  pub in_order : AllPairs (λ c d. IsTrue (precedes c d)) listed
  pub not_zero : All (λ c. (cells c.nodelet c.address ≡ c.word) × (c.word ≢ pos 0)) listed
  pub before : All (λ c. c.nodelet < n) listed
  pub whole : (k : ℕ) (a : ℤ) → k < n → cells k a ≢ pos 0 → Contains listed (record { nodelet = k; address = a; word = cells k a })
