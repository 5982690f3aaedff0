-- A value in decimal is a literal of that value.
use Rattle.std.proofs.Common.{◌≡◌, ◌∙◌, ap, sym, ℕ, suc, zero, ◌-◌, ◌<◌, ◌^◌, List, [], ◌∷◌, length, get_or, drop, take, Bool, true, false, ◌&&◌, ◌||◌, ◌==◌, ◌⊎◌, inl, inr, Option, Some, None, refl, arith}
use Rattle.std.specs.Prelude.{codes, if◌then◌else◌, nat_le, nat_lt, bytes_eq}
use Rattle.std.specs.Char.{is_ascii_digit, is_ascii_hexdigit}
use Rattle.std.specs.Int.{is_in_range}
use Rattle.std.specs.List.{list_all}
use Rattle.std.specs.Fmt.{decimal}
use Rattle.std.specs.Str.{all_ascii_digits}
use Rattle.std.specs.Str.Parse.{digits_value}
use Rattle.std.proofs.lemmas.Fmt.{decimal_is_IsNumeral, digits_decimal, decimal_digit, first_decimal}
use Rattle.std.proofs.lemmas.Str.Parse.{numerals_by_value, tells_all_ascii_digits}
use Rattle.std.proofs.lemmas.Bool.{and_parts}
use Rattle.std.proofs.lemmas.Grind.{common_steps}
use Rattle.word_ops.proofs.Digits.{all_digits-list_all}
use Rattle.cilk_model.specs.Literals.{max_literal, number_part, is_decimal, is_hexadecimal, within_literals, literal_value}

pub decimal_digits : (n : ℕ) → n < 2 ^ 64 → list_all is_ascii_digit (decimal n) ≡ true
decimal_digits n h = sym (all_digits-list_all (decimal n)) ∙ digits_decimal (numerals_by_value (λ ds. all_ascii_digits ds ≡ true) tells_all_ascii_digits) n h

-- a byte of digits, or what stands behind them
digit_at : (ds : List ℕ) (i : ℕ) → list_all is_ascii_digit ds ≡ true → (is_ascii_digit (get_or ds i 0) ≡ true) ⊎ (get_or ds i 0 ≡ 0)
digit_at [] i e = inr refl
digit_at (d ∷ ds) zero e = inl (and_parts (is_ascii_digit d) (list_all is_ascii_digit ds) e).0
digit_at (d ∷ ds) (suc i) e = digit_at ds i (and_parts (is_ascii_digit d) (list_all is_ascii_digit ds) e).1

no_suffix : (b : ℕ) → (is_ascii_digit b ≡ true) ⊎ (b ≡ 0) → (b == 76 || b == 108) ≡ false
no_suffix b (inl e) = grind (arith, common_steps)
no_suffix b (inr e) = rw e

no_x : (b : ℕ) → (is_ascii_digit b ≡ true) ⊎ (b ≡ 0) → (b == 120 || b == 88) ≡ false
no_x b (inl e) = grind (arith, common_steps)
no_x b (inr e) = rw e

whole_number : (ds : List ℕ) → list_all is_ascii_digit ds ≡ true → number_part ds ≡ ds
whole_number ds e =
    let none : (get_or ds (length ds - 1) 0 == 76 || get_or ds (length ds - 1) 0 == 108) ≡ false = no_suffix _ (digit_at ds (length ds - 1) e) in
    ap (λ b. if b then take (length ds - 1) ds else ds) none

three_false : (a b c d : Bool) → b ≡ false → (a && b && c && d) ≡ false
three_false true b c d e = rw e
three_false false b c d e = refl

no_hexadecimal : (ds : List ℕ) → list_all is_ascii_digit ds ≡ true → is_hexadecimal ds ≡ false
no_hexadecimal ds e =
    three_false (get_or ds 0 0 == 48) (get_or ds 1 0 == 120 || get_or ds 1 0 == 88) (nat_lt 2 (length ds)) (list_all is_ascii_hexdigit (drop 2 ds)) (no_x _ (digit_at ds 1 e))

chosen : (h d : Bool) (A B : Option ℕ) → h ≡ false → d ≡ true → (if h then A else (if d then B else None)) ≡ B
chosen h d A B eh ed = rw (eh, ed)

of_digits : (ds : List ℕ) → list_all is_ascii_digit ds ≡ true → is_decimal ds ≡ true → literal_value ds ≡ within_literals (digits_value 10 ds)
of_digits ds e d =
    ap (λ number. if is_hexadecimal number then within_literals (digits_value 16 (drop 2 number)) else (if is_decimal number then within_literals (digits_value 10 number) else None)) (whole_number ds e)
    ∙ chosen (is_hexadecimal ds) (is_decimal ds) _ _ (no_hexadecimal ds e) d

or_right_true : (a b : Bool) → b ≡ true → (a || b) ≡ true
or_right_true true b e = refl
or_right_true false b e = e

both_true : (a b : Bool) → a ≡ true → b ≡ true → (a && b) ≡ true
both_true a b ea eb = rw (ea, eb)

first_range : (b : ℕ) → (is_ascii_digit b ≡ true) ⊎ (b ≡ 0) → 48 < b → is_in_range 49 57 b ≡ true
first_range b (inl e) h = grind (arith, common_steps)
first_range b (inr e) h = absurd (omega arith)

decimal_is_decimal : (n : ℕ) → n < 2 ^ 64 → is_decimal (decimal n) ≡ true
decimal_is_decimal zero h = rw (decimal_digit 0 (omega arith))
decimal_is_decimal (suc n) h =
    let all = decimal_digits (suc n) h in
    let first = first_decimal (suc n) (omega arith) h in
    or_right_true (bytes_eq (decimal (suc n)) (codes "0")) (is_in_range 49 57 (get_or (decimal (suc n)) 0 0) && list_all is_ascii_digit (decimal (suc n)))
    (both_true (is_in_range 49 57 (get_or (decimal (suc n)) 0 0)) (list_all is_ascii_digit (decimal (suc n))) (first_range _ (digit_at (decimal (suc n)) 0 all) first) all)

pub decimal_value : (n : ℕ) → nat_le n max_literal ≡ true → n < 2 ^ 64 → literal_value (decimal n) ≡ Some n
decimal_value n e h =
    of_digits (decimal n) (decimal_digits n h) (decimal_is_decimal n h) ∙ ap within_literals (decimal_is_IsNumeral n h).1 ∙ ap (λ b. if b then Some n else None) e
