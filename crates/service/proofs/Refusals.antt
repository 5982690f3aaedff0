-- What no view has room for is refused by every cursor.
use Rattle.std.proofs.Common.{◌≡◌, ℕ, Bool, true, false, ◌&&◌, cond, Option, Some, None, ℤ, pos, negsuc, refl, nat_eq, arith}
use Rattle.std.specs.Prelude.{unsigned_abs}
use Rattle.std.proofs.lemmas.Bool.Decides.{nat_tests}
use Rattle.data_layout.specs.Cursor.{fits_view, cursor_after}
use Rattle.service.specs.Requests.{has_room, cursors_then}

-- one word too many for an empty view is too many behind every cursor
fits_view-refused : (count : ℤ) (cursor : ℕ) → fits_view 0 count ≡ false → fits_view cursor count ≡ false
fits_view-refused (pos count) cursor refused = grind (arith, nat_tests)
fits_view-refused (negsuc count) cursor refused = refl

-- no cursor moves
pub cursors_then-refused :
    (n : ℕ) (cursors : ℕ → ℕ) (taken : Option (ℕ × ℤ)) (v : ℕ) → has_room taken ≡ false → cursors_then n cursors taken v ≡ cursors v
cursors_then-refused n cursors None v refused = refl
cursors_then-refused n cursors (Some (view, count)) v refused = rw (fits_view-refused count (cursors view) refused) (moves_none (nat_eq v view)) where
  moves_none : (same : Bool) → cond (same && false) (cursor_after view n (cursors view) (unsigned_abs count)) (cursors v) ≡ cursors v
  moves_none true = refl
  moves_none false = refl
