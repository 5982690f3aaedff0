-- The words of a world, listed.
use Rattle.std.specs.Prelude.{◌≡◌, ◌≢◌, ℕ, ℤ, pos, int_lt, List, All, AllPairs, Contains, IsTrue, Bool, ◌&&◌, ◌||◌, ◌==◌, nat_lt}
use Rattle.word_ops.specs.declared.traffic.Cell.{Cell}

-- Cells are in order of nodelet, then address.
abbrev pub precedes : Cell → Cell → Bool
precedes c d = nat_lt c.nodelet d.nodelet || (c.nodelet == d.nodelet && int_lt c.address d.address)

-- A list has exactly the words that are not 0, in order.
pub record AreCells (cells : ℕ → ℤ → ℤ) (listed : List Cell) : Type 0 where
  pub in_order : AllPairs (λ c d. IsTrue (precedes c d)) listed
  pub not_zero : All (λ c. (cells c.nodelet c.address ≡ c.word) × (c.word ≢ pos 0)) listed
  pub whole : (k : ℕ) (a : ℤ) → cells k a ≢ pos 0 → Contains listed (record { nodelet = k; address = a; word = cells k a })
