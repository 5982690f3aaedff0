-- A piece lies within the text that it stands at the front of.
use Rattle.std.proofs.Common.{◌≡◌, ℕ, suc, ◌+◌, ◌-◌, ◌<◌, ◌≤◌, List, [], ◌∷◌, length, drop, take_while, Bool, true, false, not, ◌&&◌, ◌||◌, ◌==◌, Some, None, Option, sym, ◌∙◌, arith, option_map, inl, inr, length-drop}
use Rattle.std.specs.Prelude.{codes, nat_eq, IfSome}
use Rattle.std.specs.Char.{is_ascii_digit}
use Rattle.std.proofs.lemmas.Bool.{cond_both, or_cases, and_parts, false≢true}
use Rattle.std.proofs.lemmas.Grind.{common_steps}
use Rattle.std.proofs.lemmas.List.Sums.{take_while-cons}
use Rattle.cilk_model.specs.declared.lexing.Piece.{Piece}
use Rattle.cilk_model.specs.declared.lexing.Piece.TheVariants.{Skipped, Found, Bad}
use Rattle.cilk_model.specs.Bytes.{is_blank, is_in_line, is_run_byte, is_text_byte}
use Rattle.cilk_model.specs.Words.{is_one_of, skipped_words, reserved_words, word_piece, valued_piece}
use Rattle.cilk_model.specs.Literals.{literal_value}
use Rattle.cilk_model.specs.Pieces.{begins, run_of, is_directive, comment_end, comment_piece, text_piece, is_double_mark, is_single_mark, mark_piece, token_piece, piece_at}
use Rattle.cilk_model.proofs.Fronts.{front_within}

-- a piece of a text of so many bytes: one that is passed has some of them
abbrev pub Within : ℕ → Piece → Type 0
Within len (Skipped n) = (0 < n) × (n ≤ len)
Within len (Found kind n) = (0 < n) × (n ≤ len)
Within len (Bad kind n) = n ≤ len

front_some : (p : ℕ → Bool) (b : ℕ) (bs : List ℕ) → p b ≡ true → 0 < length (take_while p (b ∷ bs))
front_some p b bs is = rw (take_while-cons p b bs, is) (omega arith)

two_at_least : (c d b : ℕ) (bs : List ℕ) → begins (c ∷ d ∷ []) (b ∷ bs) ≡ true → 2 ≤ suc (length bs)
two_at_least c d b [] is = absurd (false≢true (and_parts (nat_eq c b) false is).1)
two_at_least c d b (e ∷ bs) is = omega arith

one_more : (len : ℕ) (n : Option ℕ) → IfSome n (λ n. n ≤ len) → IfSome (option_map suc n) (λ n. n ≤ suc len)
one_more len (Some n) fits = omega arith
one_more len None fits = tt

comment_within : (bs : List ℕ) → IfSome (comment_end bs) (λ n. n ≤ length bs)
comment_within [] = tt
comment_within (b ∷ bs) =
    cond_both (begins (codes "*/") (b ∷ bs)) _ _ (λ n. IfSome n (λ n. n ≤ suc (length bs))) (two_at_least 42 47 b bs) (λ _.
    one_more (length bs) (comment_end bs) (comment_within bs))

opened_within : (len : ℕ) (n : Option ℕ) → 2 ≤ len → IfSome n (λ n. n ≤ len - 2) → Within len (comment_piece n)
opened_within len None some fits = omega arith
opened_within len (Some n) some fits = (omega arith, omega arith)

text_within : (taken : Bool) (n len : ℕ) (bs : List ℕ) → n + length bs ≤ len → Within len (text_piece taken n bs)
text_within taken n len [] fits = omega arith
text_within taken n len (b ∷ bs) fits =
    cond_both (b == 10) _ _ (Within len) (λ _. omega arith) (λ _.
    cond_both (not (is_text_byte b)) _ _ (Within len) (λ _. omega arith) (λ _.
    cond_both (b == 34 && not taken) _ _ (Within len) (λ _. (omega arith, omega arith)) (λ _.
    text_within (b == 92 && not taken) (suc n) len bs (omega arith))))

word_within : (run : List ℕ) (len : ℕ) → 0 < length run → length run ≤ len → Within len (word_piece run)
word_within run len some fits =
    cond_both (is_one_of skipped_words run) _ _ (Within len) (λ _. (some, fits)) (λ _.
    cond_both (is_one_of reserved_words run) _ _ (Within len) (λ _. (some, fits)) (λ _. (some, fits)))

valued_within : (n len : ℕ) (value : Option ℕ) → 0 < n → n ≤ len → Within len (valued_piece n value)
valued_within n len (Some value) some fits = (some, fits)
valued_within n len None some fits = omega arith

pub no_mark_of_one : (b : ℕ) → is_double_mark b 0 ≡ false
no_mark_of_one b = grind (arith, common_steps)

mark_within : (b : ℕ) (bs : List ℕ) → Within (length (b ∷ bs)) (mark_piece (b ∷ bs))
mark_within b [] =
    cond_both (is_double_mark b 0) _ _ (Within 1) (λ is. absurd (false≢true (sym (no_mark_of_one b) ∙ is))) (λ _.
    cond_both (is_single_mark b) _ _ (Within 1) (λ _. (omega arith, omega arith)) (λ _. omega arith))
mark_within b (c ∷ bs) =
    cond_both (is_double_mark b c) _ _ (Within (length (b ∷ c ∷ bs))) (λ _. (omega arith, omega arith)) (λ _.
    cond_both (is_single_mark b) _ _ (Within (length (b ∷ c ∷ bs))) (λ _. (omega arith, omega arith)) (λ _. omega arith))

digit_in_run : (b : ℕ) → is_ascii_digit b ≡ true → is_run_byte b ≡ true
digit_in_run b is = grind (arith, common_steps)

directive_in_line : (b : ℕ) (bs : List ℕ) → begins (codes "#") (b ∷ bs) ≡ true → is_in_line b ≡ true
directive_in_line b bs is = grind (arith, common_steps)

slash_in_line : (b : ℕ) (bs : List ℕ) → begins (codes "//") (b ∷ bs) ≡ true → is_in_line b ≡ true
slash_in_line b bs is = grind (arith, common_steps)

line_in_line : (fresh : Bool) (b : ℕ) (bs : List ℕ) → ((fresh && is_directive (b ∷ bs)) || begins (codes "//") (b ∷ bs)) ≡ true → is_in_line b ≡ true
line_in_line fresh b bs is = elim (or_cases (fresh && is_directive (b ∷ bs)) (begins (codes "//") (b ∷ bs)) is) [
  | inl directive ↦ directive_in_line b bs (and_parts (begins (codes "#") (b ∷ bs)) _ (and_parts fresh (is_directive (b ∷ bs)) directive).1).0
  | inr slashes ↦ slash_in_line b bs slashes
]

token_within : (b : ℕ) (bs : List ℕ) → Within (length (b ∷ bs)) (token_piece (b ∷ bs))
token_within b bs =
    let text : List ℕ = b ∷ bs in
    let within = Within (length text) in
    cond_both (b == 34) _ _ within (λ _. text_within false 1 (length text) bs (omega arith)) (λ _.
    cond_both (is_ascii_digit b) _ _ within
    (λ is. valued_within (length (run_of text)) (length text) (literal_value (run_of text)) (front_some is_run_byte b bs (digit_in_run b is)) (front_within is_run_byte text)) (λ _.
    cond_both (is_run_byte b) _ _ within
    (λ is. word_within (run_of text) (length text) (front_some is_run_byte b bs is) (front_within is_run_byte text)) (λ _.
    mark_within b bs)))

-- every text but the empty one has a piece within it
pub piece_within : (fresh : Bool) (b : ℕ) (bs : List ℕ) → Within (length (b ∷ bs)) (piece_at fresh (b ∷ bs))
piece_within fresh b bs =
    let text : List ℕ = b ∷ bs in
    let within = Within (length text) in
    cond_both (is_blank b) _ _ within (λ _. (omega arith, omega arith)) (λ _.
    cond_both ((fresh && is_directive text) || begins (codes "//") text) _ _ within
    (λ is. (front_some is_in_line b bs (line_in_line fresh b bs is), front_within is_in_line text)) (λ _.
    cond_both (begins (codes "/*") text) _ _ within
    (λ is. opened_within (length text) (comment_end (drop 2 text)) (two_at_least 47 42 b bs is) (rw (← length-drop 2 text) (comment_within (drop 2 text)))) (λ _.
    token_within b bs)))
