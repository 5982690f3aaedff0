-- Which addresses are granted.
use Rattle.std.specs.Prelude.{◌≡◌, ℕ, ◌<◌, ◌≤◌, ℤ, ◌≤ℤ◌, ◌<ℤ◌, List, Bool, ◌&&◌, int_le, int_lt, length, slice_index_or}
use Rattle.std.specs.Int.{int_max}
use Rattle.std.specs.List.{list_any}
use Rattle.nodelet_mem.specs.declared.grants.Run.{Run}

-- An address is not before `first`, and before `end`.
abbrev pub is_within : ℤ → ℤ → ℤ → Bool
is_within first end address = int_le first address && int_lt address end

-- An address is in one of the runs.
abbrev pub is_granted_by : List Run → ℤ → Bool
is_granted_by runs address = list_any (λ run. is_within run.first run.end address) runs

-- A run, made longer up to `end` where it is shorter.
abbrev pub run_up_to : Run → ℤ → Run
run_up_to run end = record { first = run.first; end = int_max run.end end }

-- No run begins before an earlier one, nor ends before it.
pub record AreOrdered (runs : List Run) : Type 0 where
  pub firsts : (i j : ℕ) (d : Run) → i < j → j < length runs → (slice_index_or runs i d).first ≤ℤ (slice_index_or runs j d).first
  pub ends : (i j : ℕ) (d : Run) → i < j → j < length runs → (slice_index_or runs i d).end ≤ℤ (slice_index_or runs j d).end

-- The runs before a place begin at an address or before it, and the others behind it.
pub record IsPlace (runs : List Run) (address : ℤ) (place : ℕ) : Type 0 where
  pub within : place ≤ length runs
  pub before : (k : ℕ) (d : Run) → k < place → (slice_index_or runs k d).first ≤ℤ address
  pub behind : (k : ℕ) (d : Run) → place ≤ k → k < length runs → address <ℤ (slice_index_or runs k d).first

-- The later runs are the earlier ones, but those from a place on reach up to `end`.
pub record AreRaised (earlier : List Run) (from : ℕ) (end : ℤ) (later : List Run) : Type 0 where
  pub sizes : length later ≡ length earlier
  pub low : (k : ℕ) (d : Run) → k < from → slice_index_or later k d ≡ slice_index_or earlier k d
  pub high : (k : ℕ) (d : Run) → from ≤ k → k < length earlier → slice_index_or later k d ≡ run_up_to (slice_index_or earlier k d) end

-- No run from a place on ends before an earlier one of them.
abbrev pub EndsInOrder : List Run → ℕ → Type 0
EndsInOrder runs from =
    (i j : ℕ) (d : Run) → from ≤ i → i < j → j < length runs → (slice_index_or runs i d).end ≤ℤ (slice_index_or runs j d).end
