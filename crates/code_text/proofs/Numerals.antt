-- Numbers are read from their texts.
use Rattle.std.proofs.Common.{◌≡◌, ◌≤◌, ◌<◌, ◌^◌, ◌-◌, ◌==◌, ℕ, suc, true, false, List, [], ◌∷◌, length, Some, if◌then◌else◌, refl, ap, ◌∙◌, arith}
use Rattle.std.specs.Prelude.{ℤ, pos, negsuc}
use Rattle.std.specs.Option.{option_map}
use Rattle.std.specs.Int.{IsInRange}
use Rattle.std.specs.Char.{is_ascii_digit}
use Rattle.std.specs.Fmt.{decimal, signed_decimal}
use Rattle.std.specs.List.{list_all}
use Rattle.std.specs.Str.Parse.{AllDigits}
use Rattle.std.proofs.lemmas.Grind.{common_steps}
use Rattle.std.proofs.lemmas.Fmt.{decimal_is_IsNumeral, length-decimal-le}
use Rattle.std.proofs.lemmas.Str.Parse.{digit_from_value}
use Rattle.word_ops.specs.Numbers.{count_in}
use Rattle.code_text.specs.Words.{index_in, word_in}
use Rattle.code_text.specs.Codes.{IsWord}
use Rattle.code_text.proofs.Cuts.{Lacks}

-- digits are ASCII digits
digits_all : (ds : List ℕ) → AllDigits 10 ds → list_all is_ascii_digit ds ≡ true
digits_all [] h = refl
digits_all (c ∷ cs) h = grind (arith, common_steps, digit_from_value c h.0, digits_all cs h.1)

-- the digits of a number
pub decimal_all : (n : ℕ) → n < 2 ^ 64 → list_all is_ascii_digit (decimal n) ≡ true
decimal_all n fits = digits_all (decimal n) (decimal_is_IsNumeral n fits).0.1

-- digits lack what is no digit
lacks_digits : (b : ℕ) (ds : List ℕ) → is_ascii_digit b ≡ false → list_all is_ascii_digit ds ≡ true → Lacks b ds
lacks_digits b [] none all = tt
lacks_digits b (c ∷ cs) none all = (grind (arith, common_steps, none, all), lacks_digits b cs none (grind (arith, common_steps, all)))

pub lacks_decimal : (b n : ℕ) → is_ascii_digit b ≡ false → n < 2 ^ 64 → Lacks b (decimal n)
lacks_decimal b n none fits = lacks_digits b (decimal n) none (decimal_all n fits)

-- a number is counted from its text
pub count_finds : (n least most : ℕ) → IsInRange least most n → most < 2 ^ 64 → count_in (decimal n) least most ≡ Some n
count_finds n least most range small =
    let fits : n < 2 ^ 64 = omega (arith, range.1, small) in
    let numeral = decimal_is_IsNumeral n fits in
    let short : length (decimal n) ≤ 20 = length-decimal-le 20 n (omega arith) (omega (arith, fits)) fits in
    grind (arith, common_steps, numeral.0.0, numeral.1, short, decimal_all n fits, range.0, range.1)

pub index_finds : (n : ℕ) → n < 2 ^ 32 → index_in (decimal n) ≡ Some n
index_finds n small = count_finds n 0 (2 ^ 32 - 1) (omega arith, omega (arith, small)) (omega arith)

-- a word without a minus
plain_word : (ds : List ℕ) → list_all is_ascii_digit ds ≡ true → 0 < length ds → word_in ds ≡ option_map pos (count_in ds 0 (2 ^ 63 - 1))
plain_word [] all some = absurd (omega (arith, some))
plain_word (c ∷ cs) all some =
    let digit : (c == 45) ≡ false = grind (arith, common_steps, all) in
    ap (λ t. if t then option_map (λ n. negsuc (n - 1)) (count_in cs 1 (2 ^ 63)) else option_map pos (count_in (c ∷ cs) 0 (2 ^ 63 - 1))) digit

-- a word is read from its text
pub word_finds : (w : ℤ) → IsWord w → word_in (signed_decimal w) ≡ Some w
word_finds (pos n) is =
    plain_word (decimal n) (decimal_all n (omega (arith, is))) (decimal_is_IsNumeral n (omega (arith, is))).0.0
    ∙ ap (option_map pos) (count_finds n 0 (2 ^ 63 - 1) (omega arith, omega (arith, is)) (omega arith))
word_finds (negsuc n) is =
    let back : suc n - 1 ≡ n = omega arith in
    ap (option_map (λ n. negsuc (n - 1))) (count_finds (suc n) 1 (2 ^ 63) (omega arith, omega (arith, is)) (omega arith)) ∙ ap (λ k. Some (negsuc k)) back

-- the text of a word has no newline
pub lacks_word : (w : ℤ) → IsWord w → Lacks 10 (signed_decimal w)
lacks_word (pos n) is = lacks_decimal 10 n refl (omega (arith, is))
lacks_word (negsuc n) is = (refl, lacks_decimal 10 (suc n) refl (omega (arith, is)))
