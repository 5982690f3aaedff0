-- The digits of a text of digits, and how large their value gets.
use Rattle.std.proofs.Common.{◌≡◌, ℕ, ◌+◌, ◌^◌, ◌<◌, ◌≤◌, List, [], ◌∷◌, length, get_or, take, true, suc, zero, refl, ap, ◌∙◌, ◌&&◌, arith}
use Rattle.std.specs.Int.{IsInRange}
use Rattle.std.specs.Char.{digit_value, is_ascii_digit}
use Rattle.std.specs.List.{list_all}
use Rattle.std.proofs.lemmas.Str.{digit_value_digit}
use Rattle.std.specs.Str.{all_ascii_digits}
use Rattle.std.specs.Str.Parse.{digits_value}
use Rattle.std.proofs.lemmas.Grind.{common_steps}
use Rattle.std.proofs.lemmas.Str.Parse.{numerals_by_value, tells_all_ascii_digits, digits_value_short, digits_value-take-le}

-- each byte of a text of digits is a digit
pub digit_at : (text : List ℕ) (i : ℕ) → list_all is_ascii_digit text ≡ true → i < length text → IsInRange 48 57 (get_or text i 0)
digit_at [] i all below = absurd (omega arith)
digit_at (c ∷ cs) zero all below = grind (arith, common_steps)
digit_at (c ∷ cs) (suc i) all below = digit_at cs i (grind (arith, common_steps)) (omega arith)

-- the value of a digit's byte
pub digit_value_at : (text : List ℕ) (i : ℕ) → list_all is_ascii_digit text ≡ true → i < length text → digit_value (get_or text i 0) + 48 ≡ get_or text i 0
digit_value_at text i all below = digit_value_digit (get_or text i 0) (digit_at text i all below)

-- the two tests for a text of digits agree
pub all_digits-list_all : (text : List ℕ) → all_ascii_digits text ≡ list_all is_ascii_digit text
all_digits-list_all [] = refl
all_digits-list_all (c ∷ cs) = ap (λ rest. is_ascii_digit c && rest) (all_digits-list_all cs)

-- a beginning of at most twenty digits has a value under 10^20
pub value_small : (text : List ℕ) (i : ℕ) → list_all is_ascii_digit text ≡ true → length text ≤ 20 → digits_value 10 (take i text) < 10 ^ 20
value_small text i all short =
    let digits : all_ascii_digits text ≡ true = all_digits-list_all text ∙ all in
    let whole : digits_value 10 text < 10 ^ 20 = digits_value_short (numerals_by_value (λ ds. all_ascii_digits ds ≡ true) tells_all_ascii_digits) text 20 digits short in
    let part : digits_value 10 (take i text) ≤ digits_value 10 text = digits_value-take-le 10 text i (omega arith) in
    omega arith
