-- The names, literals and texts among a text's tokens can be spelled again.
use Rattle.std.proofs.Common.{◌≡◌, ◌∙◌, ap, sym, subst, ℕ, suc, ◌+◌, ◌-◌, List, [], ◌∷◌, ◌++◌, length, get_or, take, drop, Bool, true, false, not, ◌&&◌, ◌||◌, ◌==◌, Option, Some, None, refl, arith, append_assoc, append-nil, length-append}
use Rattle.std.specs.Prelude.{codes, if◌then◌else◌, nat_le, nat_lt, unwrap_or}
use Rattle.std.specs.Char.{is_ascii_digit}
use Rattle.std.specs.List.{list_all}
use Rattle.std.specs.Str.Parse.{digits_value}
use Rattle.std.proofs.Math.Seq.{take-append_seam}
use Rattle.std.proofs.lemmas.Bool.{and_parts, cond_both, not_from_false}
use Rattle.std.proofs.lemmas.Grind.{common_steps}
use Rattle.std.proofs.lemmas.List.{map-append}
use Rattle.std.proofs.lemmas.List.Sums.{take_while-cons}
use Rattle.word_ops.specs.declared.place.Pos.{Pos}
use Rattle.cilk_ast.specs.declared.token.Token.{Token}
use Rattle.cilk_ast.specs.declared.token.TokenKind.{TokenKind}
use Rattle.cilk_ast.specs.declared.token.TokenKind.TheVariants as kind
use Rattle.cilk_ast.specs.declared.fault.FaultKind.TheVariants as fault
use Rattle.cilk_model.specs.declared.lexing.Piece.{Piece}
use Rattle.cilk_model.specs.declared.lexing.Piece.TheVariants.{Skipped, Found, Bad}
use Rattle.cilk_model.specs.declared.lexing.Spot.{Spot}
use Rattle.cilk_model.specs.Bytes.{is_blank, is_run_byte, is_text_byte}
use Rattle.cilk_model.specs.Lexemes.{Lexeme, lexeme, lexeme_of, lexemes_of, between_quotes, spelling_of}
use Rattle.cilk_model.specs.Literals.{max_literal, number_part, is_decimal, is_hexadecimal, within_literals, literal_value}
use Rattle.cilk_model.specs.Words.{is_one_of, skipped_words, reserved_words, word_piece, valued_piece}
use Rattle.cilk_model.specs.Pieces.{begins, run_of, is_directive, comment_end, comment_piece, text_piece, is_double_mark, is_single_mark, mark_piece, token_piece, piece_at}
use Rattle.cilk_model.specs.Tokens.{behind, token, Cut, uncut, skipped, found, Tokens, cut_whole}
use Rattle.cilk_model.specs.Grammar.{Row}
use Rattle.cilk_model.proofs.Fronts.{run_taken}
use Rattle.cilk_print.proofs.TokenPieces.{is_between}
use Rattle.cilk_print.proofs.Clear.{well, is_wordlike, Well, all_well, more_well}

abbrev WellPiece : List ℕ → Piece → Type 0
WellPiece text (Skipped n) = Unit {0}
WellPiece text (Found k n) = (at : Pos) → well (lexeme k at (take n text)) ≡ true
WellPiece text (Bad k n) = Unit {0}

-- ---- Text literals

quoted_part : (b : ℕ) (x : List ℕ) → between_quotes (34 ∷ (x ++ b ∷ [])) ≡ x
quoted_part b x =
    let n : suc (length (x ++ b ∷ [])) - 2 ≡ length x = omega (arith, length-append x (b ∷ [])) in
    ap (λ m. take m (x ++ b ∷ [])) n ∙ take-append_seam x (b ∷ [])

taken_part : (b : ℕ) (x bs : List ℕ) → take (suc (length x)) (x ++ (b ∷ bs)) ≡ x ++ b ∷ []
taken_part b [] bs = refl
taken_part b (c ∷ x) bs = ap (λ y. c ∷ y) (taken_part b x bs)

between_more : (b : ℕ) (taken : Bool) (y : List ℕ) → (b == 10) ≡ false → not (is_text_byte b) ≡ false → (b == 34 && not taken) ≡ false →
    is_between (b == 92 && not taken) y ≡ true → is_between taken (b ∷ y) ≡ true
between_more b taken y e f g h =
    let t : is_text_byte b ≡ true = grind (arith, common_steps) in
    rw (e, t, g) h

last_free : (b : ℕ) (taken : Bool) → (b == 34 && not taken) ≡ true → not taken ≡ true
last_free b taken e = (and_parts (b == 34) (not taken) e).1

text_well : (x : List ℕ) (taken : Bool) (bs : List ℕ) → ((y : List ℕ) → is_between taken y ≡ true → is_between false (x ++ y) ≡ true) →
    WellPiece (34 ∷ (x ++ bs)) (text_piece taken (suc (length x)) bs)
text_well x taken [] ok = tt
text_well x taken (b ∷ bs) ok =
    let text : List ℕ = 34 ∷ (x ++ (b ∷ bs)) in
    cond_both (b == 10) _ _ (WellPiece text) (λ _. tt) (λ no_line.
    cond_both (not (is_text_byte b)) _ _ (WellPiece text) (λ _. tt) (λ is_text.
    cond_both (b == 34 && not taken) _ _ (WellPiece text)
    (λ ends at. ap (λ s. is_between false (between_quotes (34 ∷ s))) (taken_part b x bs) ∙ ap (is_between false) (quoted_part b x ∙ sym (append-nil x)) ∙ ok [] (last_free b taken ends))
    (λ goes_on.
    let next : Bool = b == 92 && not taken in
    let n : suc (length (x ++ b ∷ [])) ≡ suc (suc (length x)) = omega (arith, length-append x (b ∷ [])) in
    subst (λ m. WellPiece text (text_piece next m bs)) n
    (subst (λ s. WellPiece (34 ∷ s) (text_piece next (suc (length (x ++ b ∷ []))) bs)) (append_assoc x (b ∷ []) bs)
    (text_well (x ++ b ∷ []) next bs (λ y h. ap (is_between false) (append_assoc x (b ∷ []) y) ∙ ok (b ∷ y) (between_more b taken y no_line is_text goes_on h)))))))

-- ---- Literals and words

within_max : (n v : ℕ) → within_literals n ≡ Some v → nat_le v max_literal ≡ true
within_max n v e = by_test (nat_le n max_literal) refl e
  where
    by_test : (b : Bool) → nat_le n max_literal ≡ b → (if b then Some n else None) ≡ Some v → nat_le v max_literal ≡ true
    by_test true t e = let same : n ≡ v = cc in ap (λ k. nat_le k max_literal) (sym same) ∙ t
    by_test false t e = absurd cc

value_max : (run : List ℕ) (v : ℕ) → literal_value run ≡ Some v → nat_le v max_literal ≡ true
value_max run v e =
    let number = number_part run in
    by_form (is_hexadecimal number) (is_decimal number) e
  where
    by_form : (h d : Bool) → (if h then within_literals (digits_value 16 (drop 2 (number_part run))) else (if d then within_literals (digits_value 10 (number_part run)) else None)) ≡ Some v →
        nat_le v max_literal ≡ true
    by_form true d e = within_max _ v e
    by_form false true e = within_max _ v e
    by_form false false e = absurd cc

valued_well : (text : List ℕ) (value : Option ℕ) → literal_value (run_of text) ≡ value → WellPiece text (valued_piece (length (run_of text)) value)
valued_well text (Some v) e = λ at.
    ap (λ o. nat_le (unwrap_or o 0) max_literal) (ap literal_value (run_taken text) ∙ e) ∙ value_max (run_of text) v e
valued_well text None e = tt

run_byte : (b : ℕ) (r : List ℕ) (c : Bool) → is_run_byte b ≡ c → list_all is_run_byte r ≡ true → list_all is_run_byte (if c then b ∷ r else []) ≡ true
run_byte b r true e all = rw e all
run_byte b r false e all = refl

run_bytes : (text : List ℕ) → list_all is_run_byte (run_of text) ≡ true
run_bytes [] = refl
run_bytes (b ∷ bs) = rw (take_while-cons is_run_byte b bs) (run_byte b (run_of bs) (is_run_byte b) refl (run_bytes bs))

run_first : (b : ℕ) (bs : List ℕ) → is_run_byte b ≡ true → run_of (b ∷ bs) ≡ b ∷ run_of bs
run_first b bs e = take_while-cons is_run_byte b bs ∙ ap (λ c. if c then b ∷ run_of bs else []) e

all_true : (a b c d : Bool) → a ≡ true → b ≡ true → c ≡ true → d ≡ true → (a && b && c && d) ≡ true
all_true a b c d ea eb ec ed = rw (ea, eb, ec, ed)

wordlike_run : (b : ℕ) (bs : List ℕ) → is_run_byte b ≡ true → is_ascii_digit b ≡ false → is_one_of skipped_words (run_of (b ∷ bs)) ≡ false → is_wordlike (run_of (b ∷ bs)) ≡ true
wordlike_run b bs r d s =
    all_true (not (is_one_of skipped_words (run_of (b ∷ bs)))) (list_all is_run_byte (run_of (b ∷ bs))) (not (is_ascii_digit (get_or (run_of (b ∷ bs)) 0 0))) (nat_lt 0 (length (run_of (b ∷ bs))))
    (not_from_false _ s) (run_bytes (b ∷ bs))
    (ap (λ x. not (is_ascii_digit (get_or x 0 0))) (run_first b bs r) ∙ not_from_false (is_ascii_digit b) d)
    (ap (λ x. nat_lt 0 (length x)) (run_first b bs r) ∙ some_long (length (run_of bs)))
  where
    some_long : (n : ℕ) → nat_lt 0 (suc n) ≡ true
    some_long n = grind (arith, common_steps)

both_true : (a b : Bool) → a ≡ true → b ≡ true → (a && b) ≡ true
both_true a b ea eb = rw (ea, eb)

word_well : (b : ℕ) (bs : List ℕ) → is_run_byte b ≡ true → is_ascii_digit b ≡ false → WellPiece (b ∷ bs) (word_piece (run_of (b ∷ bs)))
word_well b bs r d =
    let text : List ℕ = b ∷ bs in
    let run = run_of text in
    cond_both (is_one_of skipped_words run) _ _ (WellPiece text) (λ _. tt) (λ kept.
    cond_both (is_one_of reserved_words run) _ _ (WellPiece text) (λ is at. refl)
    (λ free at. ap (λ x. not (is_one_of reserved_words x) && is_wordlike x) (run_taken text)
    ∙ both_true (not (is_one_of reserved_words run)) (is_wordlike run) (not_from_false _ free) (wordlike_run b bs r d kept)))

single_well : (b : ℕ) (bs : List ℕ) → WellPiece (b ∷ bs) (if is_single_mark b then Found kind.Mark 1 else Bad fault.BadByte 0)
single_well b bs = cond_both (is_single_mark b) _ _ (WellPiece (b ∷ bs)) (λ is at. refl) (λ _. tt)

mark_well : (b : ℕ) (bs : List ℕ) → WellPiece (b ∷ bs) (mark_piece (b ∷ bs))
mark_well b bs = cond_both (is_double_mark b (get_or bs 0 0)) _ _ (WellPiece (b ∷ bs)) (λ is at. refl) (λ _. single_well b bs)

quote_well : (b : ℕ) (bs : List ℕ) → (b == 34) ≡ true → WellPiece (b ∷ bs) (text_piece false 1 bs)
quote_well b bs e =
    let same : b ≡ 34 = grind (arith, common_steps) in
    subst (λ c. WellPiece (c ∷ bs) (text_piece false 1 bs)) (sym same) (text_well [] false bs (λ y h. h))

token_well : (b : ℕ) (bs : List ℕ) → WellPiece (b ∷ bs) (token_piece (b ∷ bs))
token_well b bs =
    let text : List ℕ = b ∷ bs in
    cond_both (b == 34) _ _ (WellPiece text) (quote_well b bs) (λ _.
    cond_both (is_ascii_digit b) _ _ (WellPiece text) (λ _. valued_well text (literal_value (run_of text)) refl) (λ no_digit.
    cond_both (is_run_byte b) _ _ (WellPiece text) (λ is. word_well b bs is no_digit) (λ _. mark_well b bs)))

comment_well : (text : List ℕ) (n : Option ℕ) → WellPiece text (comment_piece n)
comment_well text (Some n) = tt
comment_well text None = tt

piece_well : (fresh : Bool) (text : List ℕ) → WellPiece text (piece_at fresh text)
piece_well fresh [] = tt
piece_well fresh (b ∷ bs) =
    let text : List ℕ = b ∷ bs in
    cond_both (is_blank b) _ _ (WellPiece text) (λ _. tt) (λ _.
    cond_both ((fresh && is_directive text) || begins (codes "//") text) _ _ (WellPiece text) (λ _. tt) (λ _.
    cond_both (begins (codes "/*") text) _ _ (WellPiece text) (λ _. comment_well text (comment_end (drop 2 text))) (λ _. token_well b bs)))

-- ---- The tokens of a text

last_well : (c : Row) (t : Lexeme) → Well c → well t ≡ true → Well (c ++ t ∷ [])
last_well c t all_well h = more_well h all_well
last_well c t (more_well {c = d} g w) h = more_well g (last_well d t w h)

pushed_well : (text : List ℕ) (tokens : List Token) (tk : Token) → Well (lexemes_of text tokens) → well (lexeme_of text tk) ≡ true → Well (lexemes_of text (tokens ++ tk ∷ []))
pushed_well text tokens tk w h = subst Well (sym (map-append (lexeme_of text) tokens (tk ∷ []))) (last_well (lexemes_of text tokens) (lexeme_of text tk) w h)

spelled_at : (text : List ℕ) (k : TokenKind) (spot : Spot) (n : ℕ) → spelling_of text (token k spot n) ≡ take n (behind text spot)
spelled_at text k spot n =
    let e : spot.at + n - spot.at ≡ n = omega arith in
    ap (λ m. take m (behind text spot)) e

cut_well : {text : List ℕ} {tokens : List Token} {spot : Spot} → Cut text tokens spot → Well (lexemes_of text tokens)
cut_well uncut = all_well
cut_well (skipped n cut is) = cut_well cut
cut_well {text} (found {tokens} {spot} k n cut is) =
    pushed_well text tokens (token k spot n) (cut_well cut)
    (ap (λ s. well (lexeme k spot.pos s)) (spelled_at text k spot n) ∙ subst (WellPiece (behind text spot)) is (piece_well spot.fresh (behind text spot)) spot.pos)

pub tokens_well : (text : List ℕ) (tokens : List Token) → Tokens text tokens → Well (lexemes_of text tokens)
tokens_well text tokens (cut_whole {tokens = before} spot cut ends) = pushed_well text before (token kind.Finish spot 0) (cut_well cut) refl
