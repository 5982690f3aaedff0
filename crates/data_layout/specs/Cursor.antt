-- Cursors: where each view's next allocation starts. All cursors together are a function of the view.
use Rattle.std.specs.Prelude.{◌≡◌, ℕ, ◌+◌, ◌*◌, ◌%◌, ◌^◌, ◌≤◌, Bool, false, ◌&&◌, if◌then◌else◌, ◌==◌, nat_le, ℤ, pos, negsuc, unsigned_abs}
use Rattle.std.specs.Int.{next_multiple_of}
use Rattle.data_layout.specs.Address.{address_at}

-- The cursors of n nodelets before any allocation: behind the words of globals, and in the views
-- dealt in blocks one block at each nodelet further.
abbrev pub first_cursor : ℕ → ℕ → ℕ → ℕ → ℕ
first_cursor n globals replicated view =
    if nat_le view 20 then n * 2 ^ view else (if view == 31 then replicated else (if view == 32 then globals else 0))

-- An allocation of `count` words at a cursor succeeds where it has a word and ends within offset 2 ^ 32.
abbrev pub fits_view : ℕ → ℤ → Bool
fits_view cursor (pos count) = nat_le 1 count && nat_le (cursor + count) (2 ^ 32)
fits_view cursor (negsuc _) = false

-- A view's cursor after an allocation of `count` words: behind them, and in the views dealt in blocks
-- the least multiple of one block at each nodelet that is not before.
abbrev pub cursor_after : ℕ → ℕ → ℕ → ℕ → ℕ
cursor_after view n cursor count =
    if nat_le view 20 then next_multiple_of (cursor + count) (n * 2 ^ view) else cursor + count

-- The address that an allocation of `count` words from a view answers: the word at the cursor, or 0.
abbrev pub allocated_at : (ℕ → ℕ) → ℕ → ℤ → ℤ
allocated_at cursors view count =
    if fits_view (cursors view) count then address_at view (cursors view) else pos 0

-- All cursors after it: a refused allocation moves none, and a good one its own view's alone.
abbrev pub cursors_after : ℕ → (ℕ → ℕ) → ℕ → ℤ → ℕ → ℕ
cursors_after n cursors view count v =
    if v == view && fits_view (cursors view) count then cursor_after view n (cursors view) (unsigned_abs count) else cursors v

-- A number is the least multiple of `step` that is `bound` or more.
pub record IsLeastMultiple (step bound number : ℕ) : Type 0 where
  pub multiple : number % step ≡ 0
  pub reaches : bound ≤ number
  pub least : (m : ℕ) → m % step ≡ 0 → bound ≤ m → number ≤ m
