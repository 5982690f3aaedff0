-- A token at the front of a text is spelled as its kind demands.
use Rattle.std.proofs.Common.{◌≡◌, ◌≤◌, ◌+◌, ℕ, suc, List, [], ◌∷◌, length, take, drop, Bool, true, false, not, ◌&&◌, ◌||◌, ◌==◌, Option, Some, None, refl, ap, sym, ◌∙◌, arith, length-take}
use Rattle.std.specs.Prelude.{⊤, is_some, codes, if◌then◌else◌}
use Rattle.std.specs.Char.{is_ascii_digit}
use Rattle.std.proofs.lemmas.Bool.{cond_both, le-leb, or_left, not_from_false, false≢true}
use Rattle.cilk_ast.specs.declared.token.TokenKind.TheVariants as kind
use Rattle.cilk_ast.specs.declared.fault.FaultKind.TheVariants as fault
use Rattle.cilk_model.specs.declared.lexing.Piece.{Piece}
use Rattle.cilk_model.specs.declared.lexing.Piece.TheVariants.{Skipped, Found, Bad}
use Rattle.cilk_model.specs.Bytes.{is_blank, is_run_byte, is_text_byte}
use Rattle.cilk_model.specs.Literals.{literal_value}
use Rattle.cilk_model.specs.Words.{is_one_of, skipped_words, reserved_words, word_piece, valued_piece}
use Rattle.cilk_model.specs.Pieces.{begins, run_of, is_directive, comment_end, comment_piece, text_piece, is_double_mark, is_single_mark, mark_piece, token_piece, piece_at}
use Rattle.cilk_model.specs.Spellings.{is_spelled, is_finish}
use Rattle.cilk_model.proofs.Fronts.{run_taken}
use Rattle.cilk_model.proofs.PieceBounds.{no_mark_of_one}

-- a piece that is a token is spelled as its kind demands, and is no Finish
abbrev pub Spelled : List ℕ → Piece → Type 0
Spelled text (Skipped n) = ⊤
Spelled text (Found kind n) = (is_spelled kind (take n text) ≡ true) × (is_finish kind ≡ false)
Spelled text (Bad kind n) = ⊤

text_spelled : (text : List ℕ) (taken : Bool) (n : ℕ) (bs : List ℕ) → 1 ≤ n → n + length bs ≤ length text → Spelled text (text_piece taken n bs)
text_spelled text taken n [] some fits = tt
text_spelled text taken n (b ∷ bs) some fits =
    cond_both (b == 10) _ _ (Spelled text) (λ _. tt) (λ _.
    cond_both (not (is_text_byte b)) _ _ (Spelled text) (λ _. tt) (λ _.
    cond_both (b == 34 && not taken) _ _ (Spelled text) (λ _. (le-leb 2 (length (take (suc n) text)) (omega (arith, length-take (suc n) text, some, fits)), refl)) (λ _.
    text_spelled text (b == 92 && not taken) (suc n) bs (omega arith) (omega (arith, fits)))))

valued_spelled : (text : List ℕ) (value : Option ℕ) → literal_value (run_of text) ≡ value → Spelled text (valued_piece (length (run_of text)) value)
valued_spelled text (Some value) is = (ap (λ run. is_some (literal_value run)) (run_taken text) ∙ ap is_some is, refl)
valued_spelled text None is = tt

word_spelled : (text : List ℕ) → Spelled text (word_piece (run_of text))
word_spelled text =
    let run = run_of text in
    cond_both (is_one_of skipped_words run) _ _ (Spelled text) (λ _. tt) (λ _.
    cond_both (is_one_of reserved_words run) _ _ (Spelled text)
    (λ is. (ap (is_one_of reserved_words) (run_taken text) ∙ is, refl))
    (λ is. (ap (λ bytes. not (is_one_of reserved_words bytes)) (run_taken text) ∙ not_from_false (is_one_of reserved_words run) is, refl)))

single_spelled : (b : ℕ) (bs : List ℕ) → Spelled (b ∷ bs) (if is_single_mark b then Found kind.Mark 1 else Bad fault.BadByte 0)
single_spelled b bs = cond_both (is_single_mark b) _ _ (Spelled (b ∷ bs)) (λ is. (or_left (is_single_mark b) _ is, refl)) (λ _. tt)

mark_spelled : (b : ℕ) (bs : List ℕ) → Spelled (b ∷ bs) (mark_piece (b ∷ bs))
mark_spelled b [] = cond_both (is_double_mark b 0) _ _ (Spelled (b ∷ [])) (λ is. absurd (false≢true (sym (no_mark_of_one b) ∙ is))) (λ _. single_spelled b [])
mark_spelled b (c ∷ bs) = cond_both (is_double_mark b c) _ _ (Spelled (b ∷ c ∷ bs)) (λ is. (is, refl)) (λ _. single_spelled b (c ∷ bs))

token_spelled : (b : ℕ) (bs : List ℕ) → Spelled (b ∷ bs) (token_piece (b ∷ bs))
token_spelled b bs =
    let text : List ℕ = b ∷ bs in
    cond_both (b == 34) _ _ (Spelled text) (λ _. text_spelled text false 1 bs (omega arith) (omega arith)) (λ _.
    cond_both (is_ascii_digit b) _ _ (Spelled text) (λ _. valued_spelled text (literal_value (run_of text)) refl) (λ _.
    cond_both (is_run_byte b) _ _ (Spelled text) (λ _. word_spelled text) (λ _. mark_spelled b bs)))

comment_spelled : (text : List ℕ) (n : Option ℕ) → Spelled text (comment_piece n)
comment_spelled text (Some n) = tt
comment_spelled text None = tt

pub piece_spelled : (fresh : Bool) (text : List ℕ) → Spelled text (piece_at fresh text)
piece_spelled fresh [] = tt
piece_spelled fresh (b ∷ bs) =
    let text : List ℕ = b ∷ bs in
    cond_both (is_blank b) _ _ (Spelled text) (λ _. tt) (λ _.
    cond_both ((fresh && is_directive text) || begins (codes "//") text) _ _ (Spelled text) (λ _. tt) (λ _.
    cond_both (begins (codes "/*") text) _ _ (Spelled text) (λ _. comment_spelled text (comment_end (drop 2 text))) (λ _. token_spelled b bs)))
