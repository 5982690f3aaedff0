-- What stands behind a word, a number and a name is found, and nothing else.
use Rattle.std.proofs.Common.{◌≡◌, ◌≤◌, ◌<◌, ◌^◌, ◌+◌, ℕ, true, false, List, [], ◌∷◌, ◌++◌, length, drop, Some, None, if◌then◌else◌, refl, ap, ◌∙◌, cond, arith}
use Rattle.std.specs.Prelude.{⊤}
use Rattle.std.specs.Int.{IsInRange}
use Rattle.std.specs.Char.{is_ascii_digit}
use Rattle.std.specs.Fmt.{decimal}
use Rattle.std.specs.List.{list_all, prefix_len}
use Rattle.std.specs.Str.{bytes_eq}
use Rattle.std.specs.Str.Parse.{AllDigits}
use Rattle.std.proofs.lemmas.Grind.{common_steps}
use Rattle.std.proofs.lemmas.Slice.Eq.{bytes_eq-Decides}
use Rattle.std.proofs.Math.Seq.{take-append_seam, drop-append_seam}
use Rattle.std.proofs.lemmas.Fmt.{decimal_is_IsNumeral, length-decimal-le}
use Rattle.std.proofs.lemmas.Str.Parse.{digit_from_value}
use Rattle.word_ops.specs.Numbers.{count_in}
use Rattle.journal_text.specs.Reading.{behind}

-- no digit leads the text
abbrev pub NoDigitLeads : List ℕ → Type 0
NoDigitLeads [] = ⊤
NoDigitLeads (c ∷ cs) = is_ascii_digit c ≡ false

-- bytes equal themselves
pub same_bytes : (bytes : List ℕ) → bytes_eq bytes bytes ≡ true
same_bytes bytes = (bytes_eq-Decides bytes bytes).1 refl

-- what stands behind a word is found
pub behind_finds : (word rest : List ℕ) → behind word (word ++ rest) ≡ Some rest
behind_finds word rest =
    ap (λ t. if bytes_eq t word then Some (drop (length word) (word ++ rest)) else None) (take-append_seam word rest)
    ∙ ap (λ b. if b then Some (drop (length word) (word ++ rest)) else None) (same_bytes word)
    ∙ ap Some (drop-append_seam word rest)

-- the digits of a number are digits
all_digits : (ds : List ℕ) → AllDigits 10 ds → list_all is_ascii_digit ds ≡ true
all_digits [] h = refl
all_digits (c ∷ cs) h = grind (arith, common_steps, digit_from_value c h.0, all_digits cs h.1)

-- digits up to where none leads
digits_stop : (ds rest : List ℕ) → list_all is_ascii_digit ds ≡ true → NoDigitLeads rest → prefix_len is_ascii_digit (ds ++ rest) ≡ length ds
digits_stop [] [] all stops = refl
digits_stop [] (c ∷ cs) all stops = ap (λ b. cond b (1 + prefix_len is_ascii_digit cs) 0) stops
digits_stop (d ∷ ds) rest all stops = grind (arith, common_steps, digits_stop ds rest, all, stops)

-- a number within bounds under 2^64 is what its decimal text counts
pub count_of_decimal : (n least most : ℕ) → IsInRange least most n → most < 2 ^ 64 → count_in (decimal n) least most ≡ Some n
count_of_decimal n least most range small =
    let fits : n < 2 ^ 64 = omega arith in
    let numeral = decimal_is_IsNumeral n fits in
    let short : length (decimal n) ≤ 20 = length-decimal-le 20 n (omega arith) (omega arith) fits in
    let digits : list_all is_ascii_digit (decimal n) ≡ true = all_digits (decimal n) numeral.0.1 in
    grind (arith, common_steps, numeral.0.0, numeral.1, short, digits, range.0, range.1)

-- the digits that lead are those of the number
pub digits_length : (n : ℕ) (rest : List ℕ) → n < 2 ^ 64 → NoDigitLeads rest → prefix_len is_ascii_digit (decimal n ++ rest) ≡ length (decimal n)
digits_length n rest fits stops = digits_stop (decimal n) rest (all_digits (decimal n) (decimal_is_IsNumeral n fits).0.1) stops
