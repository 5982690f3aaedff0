-- In a view of blocks a cursor moves to the least multiple of a row that is not before the allocation's end.
use Rattle.std.proofs.Common.{◌≡◌, ℕ, ◌+◌, ◌-◌, ◌*◌, ◌%◌, ◌/◌, ◌^◌, ◌<◌, ◌≤◌, ap, ◌∙◌, inl, inr, arith}
use Rattle.std.proofs.Math.Nat.{add-mod-mod, mul-mod_right, mul-le-mul_left, one-le-mul}
use Rattle.std.proofs.lemmas.Bool.{cases_lt, le-leb}
use Rattle.std.proofs.lemmas.Nat.{pow_pos}
use Rattle.std.specs.Int.{next_multiple_of}
use Rattle.data_layout.specs.Cursor.{IsLeastMultiple, cursor_after}

-- a multiple that is less than one step above another is not above it
below_by_steps : (step a b : ℕ) → 0 < step → a % step ≡ 0 → b % step ≡ 0 → a < b + step → a ≤ b
below_by_steps step a b some here there near =
    elim (cases_lt (b / step) (a / step)) [
      | inl more ↦
          let above : b / step + 1 ≤ a / step = omega arith in
          let steps : step * (b / step + 1) ≤ step * (a / step) = mul-le-mul_left step above in
          absurd (omega arith)
      | inr less ↦
          let steps : step * (a / step) ≤ step * (b / step) = mul-le-mul_left step less in
          omega arith
    ]

-- std's word for the least multiple gives the least multiple
pub next_multiple_of_is_least : (bound step : ℕ) → 0 < step → IsLeastMultiple step bound (next_multiple_of bound step)
next_multiple_of_is_least bound step some =
    let next : next_multiple_of bound step < bound + step = omega arith in
    let whole : bound + (step - bound % step) ≡ step * (bound / step + 1) = omega arith in
    let multiple : next_multiple_of bound step % step ≡ 0 =
    add-mod-mod bound (step - bound % step) step ∙ ap (λ x. x % step) whole ∙ mul-mod_right step (bound / step + 1) in
    record {
      multiple = multiple;
      reaches = omega arith;
      least = λ m h g. below_by_steps step (next_multiple_of bound step) m some multiple h (omega arith);
    }

-- the cursor of a view of blocks, after an allocation
pub cursor_after_is_least :
    (view n cursor count : ℕ) → view ≤ 20 → 1 ≤ n → IsLeastMultiple (n * 2 ^ view) (cursor + count) (cursor_after view n cursor count)
cursor_after_is_least view n cursor count blocks some =
    let row : 0 < n * 2 ^ view = one-le-mul some (pow_pos view) in
    rw (le-leb view 20 blocks) (next_multiple_of_is_least (cursor + count) (n * 2 ^ view) row)
