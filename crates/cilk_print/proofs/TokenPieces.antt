-- The pieces at the front of a text that begins with the spelling of a token.
use Rattle.std.proofs.Common.{◌≡◌, ◌∙◌, ap, ℕ, suc, ◌+◌, List, [], ◌∷◌, ◌++◌, length, get_or, Bool, true, false, not, ◌&&◌, ◌||◌, ◌==◌, nat_eq, refl, arith}
use Rattle.std.specs.Prelude.{codes, if◌then◌else◌}
use Rattle.std.specs.Char.{is_ascii_digit}
use Rattle.std.specs.List.{list_all}
use Rattle.std.proofs.lemmas.Bool.{and_parts}
use Rattle.std.proofs.lemmas.Grind.{common_steps}
use Rattle.std.proofs.lemmas.List.Sums.{take_while-cons}
use Rattle.cilk_ast.specs.declared.token.TokenKind.TheVariants as kind
use Rattle.cilk_model.specs.declared.lexing.Piece.{Piece}
use Rattle.cilk_model.specs.declared.lexing.Piece.TheVariants.{Found}
use Rattle.cilk_model.specs.Bytes.{is_blank, is_run_byte, is_text_byte}
use Rattle.cilk_model.specs.Words.{word_piece, literal_piece}
use Rattle.cilk_model.specs.Pieces.{begins, run_of, is_directive, text_piece, is_double_mark, is_single_mark, mark_piece, token_piece, piece_at}

past_front : (x d s c fresh : Bool) (A B C D : Piece) → x ≡ false → d ≡ false → s ≡ false → c ≡ false →
    (if x then A else (if (fresh && d) || s then B else (if c then C else D))) ≡ D
past_front x d s c true A B C D ex ed es ec = rw (ex, ed, es, ec)
past_front x d s c false A B C D ex ed es ec = rw (ex, es, ec)

-- a token stands at the front, unless a blank, a skipped line or a comment does
token_front : (fresh : Bool) (b : ℕ) (bs : List ℕ) → is_blank b ≡ false → is_directive (b ∷ bs) ≡ false → begins (codes "//") (b ∷ bs) ≡ false →
    begins (codes "/*") (b ∷ bs) ≡ false → piece_at fresh (b ∷ bs) ≡ token_piece (b ∷ bs)
token_front fresh b bs ex ed es ec = past_front (is_blank b) (is_directive (b ∷ bs)) (begins (codes "//") (b ∷ bs)) (begins (codes "/*") (b ∷ bs)) fresh _ _ _ _ ex ed es ec

-- the token at the front, by its first byte
as_literal : (q d r : Bool) (A B C D : Piece) → q ≡ false → d ≡ true → (if q then A else (if d then B else (if r then C else D))) ≡ B
as_literal q d r A B C D eq ed = rw (eq, ed)

as_word : (q d r : Bool) (A B C D : Piece) → q ≡ false → d ≡ false → r ≡ true → (if q then A else (if d then B else (if r then C else D))) ≡ C
as_word q d r A B C D eq ed er = rw (eq, ed, er)

as_mark : (q d r : Bool) (A B C D : Piece) → q ≡ false → d ≡ false → r ≡ false → (if q then A else (if d then B else (if r then C else D))) ≡ D
as_mark q d r A B C D eq ed er = rw (eq, ed, er)

as_single : (two one : Bool) (A B C : Piece) → two ≡ false → one ≡ true → (if two then A else (if one then B else C)) ≡ B
as_single two one A B C et eo = rw (et, eo)

no_directive : (b : ℕ) (bs : List ℕ) → nat_eq 35 b ≡ false → is_directive (b ∷ bs) ≡ false
no_directive b bs e = rw e

no_slash : (b c : ℕ) (bs : List ℕ) → nat_eq 47 b ≡ false → begins (47 ∷ c ∷ []) (b ∷ bs) ≡ false
no_slash b c bs e = rw e

-- ---- Runs

run_stops : (rest : List ℕ) → is_run_byte (get_or rest 0 0) ≡ false → run_of rest ≡ []
run_stops [] e = refl
run_stops (b ∷ bs) e = rw (take_while-cons is_run_byte b bs, e)

pub run_is : (r rest : List ℕ) → list_all is_run_byte r ≡ true → is_run_byte (get_or rest 0 0) ≡ false → run_of (r ++ rest) ≡ r
run_is [] rest all e = run_stops rest e
run_is (b ∷ r) rest all e =
    let h = and_parts (is_run_byte b) (list_all is_run_byte r) all in
    rw (take_while-cons is_run_byte b (r ++ rest), h.0) (ap (λ x. b ∷ x) (run_is r rest h.1 e))

not_blank : (b : ℕ) → is_run_byte b ≡ true → is_blank b ≡ false
not_blank b e = grind (arith, common_steps)

not_hash : (b : ℕ) → is_run_byte b ≡ true → nat_eq 35 b ≡ false
not_hash b e = grind (arith, common_steps)

not_slash : (b : ℕ) → is_run_byte b ≡ true → nat_eq 47 b ≡ false
not_slash b e = grind (arith, common_steps)

not_quote : (b : ℕ) → is_run_byte b ≡ true → (b == 34) ≡ false
not_quote b e = grind (arith, common_steps)

run_front : (fresh : Bool) (b : ℕ) (bs : List ℕ) → is_run_byte b ≡ true → piece_at fresh (b ∷ bs) ≡ token_piece (b ∷ bs)
run_front fresh b bs e =
    token_front fresh b bs (not_blank b e) (no_directive b bs (not_hash b e)) (no_slash b 47 bs (not_slash b e)) (no_slash b 42 bs (not_slash b e))

-- a run that begins with no digit, and one that does
pub word_front : (fresh : Bool) (b : ℕ) (bs rest : List ℕ) → list_all is_run_byte (b ∷ bs) ≡ true → is_ascii_digit b ≡ false → is_run_byte (get_or rest 0 0) ≡ false →
    piece_at fresh (b ∷ (bs ++ rest)) ≡ word_piece (b ∷ bs)
word_front fresh b bs rest all no_digit stops =
    let h = and_parts (is_run_byte b) (list_all is_run_byte bs) all in
    run_front fresh b (bs ++ rest) h.0
    ∙ as_word (b == 34) (is_ascii_digit b) (is_run_byte b) _ _ (word_piece (run_of (b ∷ (bs ++ rest)))) _ (not_quote b h.0) no_digit h.0
    ∙ ap word_piece (run_is (b ∷ bs) rest all stops)

pub literal_front : (fresh : Bool) (b : ℕ) (bs rest : List ℕ) → list_all is_run_byte (b ∷ bs) ≡ true → is_ascii_digit b ≡ true → is_run_byte (get_or rest 0 0) ≡ false →
    piece_at fresh (b ∷ (bs ++ rest)) ≡ literal_piece (b ∷ bs)
literal_front fresh b bs rest all digit stops =
    let h = and_parts (is_run_byte b) (list_all is_run_byte bs) all in
    run_front fresh b (bs ++ rest) h.0
    ∙ as_literal (b == 34) (is_ascii_digit b) (is_run_byte b) _ (literal_piece (run_of (b ∷ (bs ++ rest)))) _ _ (not_quote b h.0) digit
    ∙ ap literal_piece (run_is (b ∷ bs) rest all stops)

-- ---- Text literals

-- the bytes can stand between quotes; `taken` says that the byte before is a backslash that takes the next one with it
abbrev pub is_between : Bool → List ℕ → Bool
is_between taken [] = not taken
is_between taken (b ∷ bs) = not (b == 10) && is_text_byte b && not (b == 34 && not taken) && is_between (b == 92 && not taken) bs

text_ends : (taken : Bool) (n : ℕ) (x rest : List ℕ) → is_between taken x ≡ true → text_piece taken n (x ++ (34 ∷ rest)) ≡ Found kind.Text (n + suc (length x))
text_ends true n [] rest e = absurd cc
text_ends false n [] rest e = ap (Found kind.Text) (omega arith)
text_ends taken n (b ∷ bs) rest e =
    let next : Bool = b == 92 && not taken in
    let last = and_parts (not (b == 10) && is_text_byte b && not (b == 34 && not taken)) (is_between next bs) e in
    let third = and_parts (not (b == 10) && is_text_byte b) (not (b == 34 && not taken)) last.0 in
    let second = and_parts (not (b == 10)) (is_text_byte b) third.0 in
    let no_newline : (b == 10) ≡ false = grind (arith, common_steps) in
    let no_end : (b == 34 && not taken) ≡ false = grind (arith, common_steps) in
    rw (no_newline, second.1, no_end) (text_ends next (suc n) bs rest last.1 ∙ ap (Found kind.Text) (omega arith))

pub text_front : (fresh : Bool) (x rest : List ℕ) → is_between false x ≡ true → piece_at fresh (34 ∷ (x ++ (34 ∷ rest))) ≡ Found kind.Text (suc (length x + 1))
text_front fresh x rest e =
    token_front fresh 34 (x ++ (34 ∷ rest)) refl refl refl refl ∙ text_ends false 1 x rest e ∙ ap (Found kind.Text) (omega arith)

-- ---- Marks

single_not_blank : (b : ℕ) → is_single_mark b ≡ true → is_blank b ≡ false
single_not_blank b e = grind (arith, common_steps)

single_not_hash : (b : ℕ) → is_single_mark b ≡ true → nat_eq 35 b ≡ false
single_not_hash b e = grind (arith, common_steps)

single_not_quote : (b : ℕ) → is_single_mark b ≡ true → (b == 34) ≡ false
single_not_quote b e = grind (arith, common_steps)

single_not_run : (b : ℕ) → is_single_mark b ≡ true → is_run_byte b ≡ false
single_not_run b e = grind (arith, common_steps)

single_not_digit : (b : ℕ) → is_single_mark b ≡ true → is_ascii_digit b ≡ false
single_not_digit b e = grind (arith, common_steps)

-- a mark of one byte that the next byte does not go on
pub single_front : (fresh : Bool) (b : ℕ) (rest : List ℕ) → is_single_mark b ≡ true → is_double_mark b (get_or rest 0 0) ≡ false →
    begins (codes "//") (b ∷ rest) ≡ false → begins (codes "/*") (b ∷ rest) ≡ false → piece_at fresh (b ∷ rest) ≡ Found kind.Mark 1
single_front fresh b rest single double slashes comment =
    token_front fresh b rest (single_not_blank b single) (no_directive b rest (single_not_hash b single)) slashes comment
    ∙ as_mark (b == 34) (is_ascii_digit b) (is_run_byte b) _ _ _ (mark_piece (b ∷ rest)) (single_not_quote b single) (single_not_digit b single) (single_not_run b single)
    ∙ as_single (is_double_mark b (get_or rest 0 0)) (is_single_mark b) _ _ _ double single

double_single : (b c : ℕ) → is_double_mark b c ≡ true → is_single_mark b ≡ true
double_single b c e = grind (arith, common_steps)

double_no_slash : (b c : ℕ) → is_double_mark b c ≡ true → nat_eq 47 b ≡ false
double_no_slash b c e = grind (arith, common_steps)

as_double : (two one : Bool) (A B C : Piece) → two ≡ true → (if two then A else (if one then B else C)) ≡ A
as_double two one A B C et = rw et

pub double_front : (fresh : Bool) (b c : ℕ) (rest : List ℕ) → is_double_mark b c ≡ true → piece_at fresh (b ∷ c ∷ rest) ≡ Found kind.Mark 2
double_front fresh b c rest double =
    let single = double_single b c double in
    let slash = double_no_slash b c double in
    token_front fresh b (c ∷ rest) (single_not_blank b single) (no_directive b (c ∷ rest) (single_not_hash b single)) (no_slash b 47 (c ∷ rest) slash) (no_slash b 42 (c ∷ rest) slash)
    ∙ as_mark (b == 34) (is_ascii_digit b) (is_run_byte b) _ _ _ (mark_piece (b ∷ c ∷ rest)) (single_not_quote b single) (single_not_digit b single) (single_not_run b single)
    ∙ as_double (is_double_mark b c) (is_single_mark b) _ _ _ double
