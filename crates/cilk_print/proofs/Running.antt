-- The text of a row that stays apart is cut into the row's tokens.
use Rattle.std.proofs.Common.{◌≡◌, ◌∙◌, ap, sym, subst, ℕ, suc, pos, negsuc, ◌-◌, ◌<◌, ◌^◌, List, [], ◌∷◌, ◌++◌, length, get_or, take, Bool, true, false, not, ◌&&◌, ◌||◌, nat_eq, ◌⊎◌, inl, inr, Some, refl, arith, append_assoc, append-nil, length-append}
use Rattle.std.specs.Prelude.{codes, if◌then◌else◌, nat_lt, unwrap_or}
use Rattle.std.specs.Char.{is_ascii_digit}
use Rattle.std.specs.List.{list_all}
use Rattle.std.specs.Fmt.{decimal}
use Rattle.std.proofs.Math.Seq.{take-append_seam}
use Rattle.std.proofs.lemmas.Bool.{and_parts, or_cases}
use Rattle.std.proofs.lemmas.Slice.Eq.{bytes_eq-Decides}
use Rattle.std.proofs.lemmas.Grind.{common_steps}
use Rattle.word_ops.specs.declared.place.Pos.{Pos}
use Rattle.cilk_ast.specs.declared.token.TokenKind.TheVariants as kind
use Rattle.cilk_model.specs.declared.lexing.Piece.TheVariants.{Skipped, Found}
use Rattle.cilk_model.specs.declared.layout.Bracket.{Bracket}
use Rattle.cilk_model.specs.declared.layout.Bracket.TheVariants.{Brace, Round}
use Rattle.cilk_model.specs.declared.layout.Gap.{Gap}
use Rattle.cilk_model.specs.declared.layout.Gap.TheVariants.{Margin, Nothing, Blank}
use Rattle.cilk_model.specs.declared.layout.Page.{Page}
use Rattle.cilk_model.specs.Bytes.{is_blank, is_run_byte}
use Rattle.cilk_model.specs.Lexemes as lexeme
use Rattle.cilk_model.specs.Lexemes.{Lexeme, between_quotes}
use Rattle.cilk_model.specs.Literals.{literal_value}
use Rattle.cilk_model.specs.Words.{is_one_of, skipped_words, reserved_words, valued_piece}
use Rattle.cilk_model.specs.Pieces.{begins, is_double_mark, is_single_mark, piece_at}
use Rattle.cilk_model.specs.Spellings as spelled
use Rattle.cilk_model.specs.Grammar.{Row}
use Rattle.cilk_model.specs.Layout.{spelling, lead, margin, is_tight, ends_line, open_at, open_behind, gap_behind, put, put_all}
use Rattle.cilk_print.proofs.Relexed.{Runs, runs_out, skips, finds}
use Rattle.cilk_print.proofs.TokenPieces.{word_front, literal_front, text_front, single_front, double_front, is_between}
use Rattle.cilk_print.proofs.DecimalLiterals.{decimal_digits, decimal_value}
use Rattle.cilk_print.proofs.Clear.{is_sign, opens_part, is_wordlike, fixed, well, is_step, Calm, more_calm, Well, more_well, line_end, laid, after_ok, behind_token}

-- ---- Blanks

blank_piece : (fresh : Bool) (b : ℕ) (rest : List ℕ) → is_blank b ≡ true → piece_at fresh (b ∷ rest) ≡ Skipped 1
blank_piece fresh b rest e = rw e

pub skip_all : (a rest : List ℕ) (c : Row) → list_all is_blank a ≡ true → Runs rest c → Runs (a ++ rest) c
skip_all [] rest c e r = r
skip_all (b ∷ a) rest c e r =
    let h = and_parts (is_blank b) (list_all is_blank a) e in
    skips (b ∷ []) (a ++ rest) (λ fresh. blank_piece fresh b (a ++ rest) h.0) (skip_all a rest c h.1 r)

margin_blank : (open_ : List Bracket) → list_all is_blank (margin open_) ≡ true
margin_blank [] = refl
margin_blank (Brace ∷ open_) = margin_blank open_
margin_blank (Round ∷ open_) = margin_blank open_

gap_blank : (b : Bool) → list_all is_blank (if b then [] else 32 ∷ []) ≡ true
gap_blank true = refl
gap_blank false = refl

end_blank : (b : Bool) → list_all is_blank (if b then 10 ∷ [] else []) ≡ true
end_blank true = refl
end_blank false = refl

lead_blank : (gap : Gap) (open_ : List Bracket) (t : Lexeme) → list_all is_blank (lead gap open_ t) ≡ true
lead_blank Margin open_ t = margin_blank open_
lead_blank Nothing open_ t = refl
lead_blank Blank open_ t = gap_blank (is_tight t)

-- ---- Runs

after_not_run : (sign : Bool) (c : ℕ) → after_ok sign c ≡ true → is_run_byte c ≡ false
after_not_run sign c e = grind (arith, common_steps)

as_name : (s r : Bool) (n : ℕ) → s ≡ false → r ≡ false → (if s then Skipped n else (if r then Found kind.Word n else Found kind.Name n)) ≡ Found kind.Name n
as_name s r n es er = rw (es, er)

as_reserved : (s r : Bool) (n : ℕ) → s ≡ false → r ≡ true → (if s then Skipped n else (if r then Found kind.Word n else Found kind.Name n)) ≡ Found kind.Word n
as_reserved s r n es er = rw (es, er)

not_true : (b : Bool) → not b ≡ true → b ≡ false
not_true true e = absurd cc
not_true false e = refl

record Wordlike (b : ℕ) (bs : List ℕ) : Type 0 where
  kept : is_one_of skipped_words (b ∷ bs) ≡ false
  run : list_all is_run_byte (b ∷ bs) ≡ true
  no_digit : is_ascii_digit b ≡ false

wordlike : (b : ℕ) (bs : List ℕ) → is_wordlike (b ∷ bs) ≡ true → Wordlike b bs
wordlike b bs e =
    let x : List ℕ = b ∷ bs in
    let h = and_parts (not (is_one_of skipped_words x) && list_all is_run_byte x && not (is_ascii_digit b)) (nat_lt 0 (length x)) e in
    let i = and_parts (not (is_one_of skipped_words x) && list_all is_run_byte x) (not (is_ascii_digit b)) h.0 in
    let j = and_parts (not (is_one_of skipped_words x)) (list_all is_run_byte x) i.0 in
    record { kept = not_true _ j.0; run = j.1; no_digit = not_true _ i.1 }

name_runs : (at : Pos) (x rest : List ℕ) (c : Row) → well (lexeme.name at x) ≡ true → is_run_byte (get_or rest 0 0) ≡ false → Runs rest c → Runs (x ++ rest) (lexeme.name at x ∷ c)
name_runs at [] rest c w stops r = absurd cc
name_runs at (b ∷ bs) rest c w stops r =
    let h = and_parts (not (is_one_of reserved_words (b ∷ bs))) (is_wordlike (b ∷ bs)) w in
    let is = wordlike b bs h.1 in
    finds (b ∷ bs) rest kind.Name
    (λ fresh. word_front fresh b bs rest is.run is.no_digit stops ∙ as_name (is_one_of skipped_words (b ∷ bs)) (is_one_of reserved_words (b ∷ bs)) (length (b ∷ bs)) is.kept (not_true _ h.0))
    (λ there. refl) r

word_runs : (at : Pos) (x rest : List ℕ) (c : Row) → fixed (lexeme.word at x) ≡ true → is_run_byte (get_or rest 0 0) ≡ false → Runs rest c → Runs (x ++ rest) (lexeme.word at x ∷ c)
word_runs at [] rest c w stops r = absurd cc
word_runs at (b ∷ bs) rest c w stops r =
    let h = and_parts (is_one_of reserved_words (b ∷ bs)) (is_wordlike (b ∷ bs)) w in
    let is = wordlike b bs h.1 in
    finds (b ∷ bs) rest kind.Word
    (λ fresh. word_front fresh b bs rest is.run is.no_digit stops ∙ as_reserved (is_one_of skipped_words (b ∷ bs)) (is_one_of reserved_words (b ∷ bs)) (length (b ∷ bs)) is.kept h.0)
    (λ there. refl) r

-- ---- Text literals

quoted : (x : List ℕ) → between_quotes (34 ∷ (x ++ 34 ∷ [])) ≡ x
quoted x =
    let n : suc (length (x ++ 34 ∷ [])) - 2 ≡ length x = omega (arith, length-append x (34 ∷ [])) in
    ap (λ m. take m (x ++ 34 ∷ [])) n ∙ take-append_seam x (34 ∷ [])

text_runs : (at : Pos) (x rest : List ℕ) (c : Row) → is_between false x ≡ true → Runs rest c → Runs ((34 ∷ (x ++ 34 ∷ [])) ++ rest) (lexeme.text at x ∷ c)
text_runs at x rest c w r =
    finds (34 ∷ (x ++ 34 ∷ [])) rest kind.Text
    (λ fresh. ap (λ a. piece_at fresh (34 ∷ a)) (append_assoc x (34 ∷ []) rest) ∙ text_front fresh x rest w
    ∙ ap (Found kind.Text) (omega (arith, length-append x (34 ∷ []))))
    (λ there. ap (lexeme.text there) (quoted x)) r

-- ---- Marks

after_single : (b c : ℕ) → after_ok (nat_eq b 43 || nat_eq b 45) c ≡ true → is_double_mark b c ≡ false
after_single b c e = grind (arith, common_steps)

after_no_slash : (sign : Bool) (c : ℕ) → after_ok sign c ≡ true → nat_eq 47 c ≡ false
after_no_slash sign c e = grind (arith, common_steps)

after_no_star : (sign : Bool) (c : ℕ) → after_ok sign c ≡ true → nat_eq 42 c ≡ false
after_no_star sign c e = grind (arith, common_steps)

no_slashes : (b d : ℕ) (rest : List ℕ) → nat_eq d (get_or rest 0 0) ≡ false → begins (47 ∷ d ∷ []) (b ∷ rest) ≡ false
no_slashes b d [] e = grind (arith, common_steps)
no_slashes b d (c ∷ rest) e = grind (arith, common_steps)

or_false : (b : Bool) → (b || false) ≡ b
or_false true = refl
or_false false = refl

and_true : (b : Bool) → (b && true) ≡ b
and_true true = refl
and_true false = refl

double_round : (c : ℕ) → is_double_mark 40 c ≡ false
double_round c = grind (arith, common_steps)

double_square : (c : ℕ) → is_double_mark 91 c ≡ false
double_square c = grind (arith, common_steps)

-- what may stand behind a mark of one byte
abbrev Behind : ℕ → List ℕ → Type 0
Behind b rest = (is_double_mark b (get_or rest 0 0) ≡ false) × (begins (47 ∷ 47 ∷ []) (b ∷ rest) ≡ false) × (begins (47 ∷ 42 ∷ []) (b ∷ rest) ≡ false)

behind_opening : (at : Pos) (b : ℕ) (rest : List ℕ) → opens_part (lexeme.mark at (b ∷ [])) ≡ true → Behind b rest
behind_opening at b rest e = elim (or_cases _ _ e) [
  | inl round ↦ (let is : b ∷ [] ≡ 40 ∷ [] = (bytes_eq-Decides (b ∷ []) (codes "(")).0 round in let same : b ≡ 40 = cc in
      subst (λ d. Behind d rest) (sym same) (double_round (get_or rest 0 0), refl, refl))
  | inr square ↦ (let is : b ∷ [] ≡ 91 ∷ [] = (bytes_eq-Decides (b ∷ []) (codes "[")).0 square in let same : b ≡ 91 = cc in
      subst (λ d. Behind d rest) (sym same) (double_square (get_or rest 0 0), refl, refl))
]

sign_of : (at : Pos) (b : ℕ) → is_sign (lexeme.mark at (b ∷ [])) ≡ (nat_eq b 43 || nat_eq b 45)
sign_of at b = λ i. (and_true (nat_eq b 43) i || and_true (nat_eq b 45) i)

behind_any : (at : Pos) (b : ℕ) (rest : List ℕ) → after_ok (is_sign (lexeme.mark at (b ∷ []))) (get_or rest 0 0) ≡ true → Behind b rest
behind_any at b rest e = (
  after_single b (get_or rest 0 0) (ap (λ s. after_ok s (get_or rest 0 0)) (sym (sign_of at b)) ∙ e),
  no_slashes b 47 rest (after_no_slash (is_sign (lexeme.mark at (b ∷ []))) (get_or rest 0 0) e),
  no_slashes b 42 rest (after_no_star (is_sign (lexeme.mark at (b ∷ []))) (get_or rest 0 0) e),
)

-- what may stand behind a token
abbrev Next : Lexeme → List ℕ → Type 0
Next t rest = (opens_part t ≡ true) ⊎ (after_ok (is_sign t) (get_or rest 0 0) ≡ true)

behind_mark : (at : Pos) (b : ℕ) (rest : List ℕ) → Next (lexeme.mark at (b ∷ [])) rest → Behind b rest
behind_mark at b rest (inl opens) = behind_opening at b rest opens
behind_mark at b rest (inr after) = behind_any at b rest after

long_mark : (b c d : ℕ) (x : List ℕ) → spelled.is_mark (b ∷ c ∷ d ∷ x) ≡ true → ⊥
long_mark b c d x e = grind (arith, common_steps)

mark_runs : (at : Pos) (x rest : List ℕ) (c : Row) → spelled.is_mark x ≡ true → Next (lexeme.mark at x) rest → Runs rest c → Runs (x ++ rest) (lexeme.mark at x ∷ c)
mark_runs at [] rest c m next r = absurd cc
mark_runs at (b ∷ []) rest c m next r =
    let h = behind_mark at b rest next in
    finds (b ∷ []) rest kind.Mark (λ fresh. single_front fresh b rest (sym (or_false (is_single_mark b)) ∙ m) h.0 h.1 h.2) (λ there. refl) r
mark_runs at (b ∷ d ∷ []) rest c m next r =
    finds (b ∷ d ∷ []) rest kind.Mark (λ fresh. double_front fresh b d rest m) (λ there. refl) r
mark_runs at (b ∷ d ∷ e ∷ x) rest c m next r = absurd (long_mark b d e x m)

-- ---- Literals

digit_runs : (d : ℕ) → is_ascii_digit d ≡ true → is_run_byte d ≡ true
digit_runs d e = grind (arith, common_steps)

run_digits : (ds : List ℕ) → list_all is_ascii_digit ds ≡ true → list_all is_run_byte ds ≡ true
run_digits [] e = refl
run_digits (d ∷ ds) e =
    let h = and_parts (is_ascii_digit d) (list_all is_ascii_digit ds) e in
    rw (digit_runs d h.0) (run_digits ds h.1)

literal_runs : (at : Pos) (n : ℕ) (ds rest : List ℕ) (c : Row) → list_all is_ascii_digit ds ≡ true → literal_value ds ≡ Some n → is_run_byte (get_or rest 0 0) ≡ false →
    Runs rest c → Runs (ds ++ rest) (lexeme.literal at (pos n) ∷ c)
literal_runs at n [] rest c all value stops r = absurd cc
literal_runs at n (d ∷ ds) rest c all value stops r =
    finds (d ∷ ds) rest kind.Literal
    (λ fresh. literal_front fresh d ds rest (run_digits (d ∷ ds) all) (and_parts (is_ascii_digit d) (list_all is_ascii_digit ds) all).0 stops ∙ ap (valued_piece (length (d ∷ ds))) value)
    (λ there. ap (λ o. lexeme.literal there (pos (unwrap_or o 0))) value) r

-- ---- A row

no_opening : (t : Lexeme) (rest : List ℕ) → opens_part t ≡ false → Next t rest → is_run_byte (get_or rest 0 0) ≡ false
no_opening t rest e (inl opens) = absurd cc
no_opening t rest e (inr after) = after_not_run (is_sign t) (get_or rest 0 0) after

token_runs : (t : Lexeme) (rest : List ℕ) (c : Row) → fixed t ≡ true → well t ≡ true → Next t rest → Runs rest c → Runs (spelling t ++ rest) (t ∷ c)
token_runs (lexeme.name at x) rest c f w next r = name_runs at x rest c w (no_opening (lexeme.name at x) rest refl next) r
token_runs (lexeme.word at x) rest c f w next r = word_runs at x rest c f (no_opening (lexeme.word at x) rest refl next) r
token_runs (lexeme.literal at (pos n)) rest c f w next r =
    let small : n < 2 ^ 64 = grind (arith, common_steps) in
    literal_runs at n (decimal n) rest c (decimal_digits n small) (decimal_value n w small) (no_opening (lexeme.literal at (pos n)) rest refl next) r
token_runs (lexeme.literal at (negsuc n)) rest c f w next r = absurd cc
token_runs (lexeme.text at x) rest c f w next r = text_runs at x rest c w r
token_runs (lexeme.mark at x) rest c f w next r = mark_runs at x rest c f next r
token_runs (lexeme.finish at) rest c f w next r = absurd cc

pub runs_on : (open_ : List Bracket) (gap : Gap) (sign : Bool) (c : Row) → Calm sign c → Well c → Runs (laid open_ gap c) c
runs_on open_ gap sign [] k w = runs_out
runs_on open_ gap sign (t ∷ c) (more_calm h k) (more_well w ws) =
    let here = open_at open_ t in
    skip_all (lead gap here t) _ (t ∷ c) (lead_blank gap here t)
    (token_runs t _ c (and_parts (fixed t) (not (is_step t && sign)) h).0 w (behind_token here t c k)
    (skip_all (line_end here t) _ c (end_blank (ends_line here t)) (runs_on (open_behind here t) (gap_behind here t) (is_sign t) c k ws)))

pub put_all_laid : (page : Page) (c : Row) → (put_all page c).text ≡ page.text ++ laid page.brackets page.gap c
unfolding put
put_all_laid page [] = sym (append-nil page.text)
put_all_laid page (t ∷ c) = put_all_laid (put page t) c ∙ simp append_assoc
