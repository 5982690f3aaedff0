-- Rows of tokens that stay apart where they are laid out.
use Rattle.std.proofs.Common.{◌≡◌, sym, subst, ℕ, ℤ, pos, negsuc, List, [], ◌∷◌, ◌++◌, length, get_or, Bool, true, false, not, ◌&&◌, ◌||◌, ◌==◌, ◌⊎◌, inl, inr, refl}
use Rattle.std.specs.Prelude.{codes, if◌then◌else◌, nat_lt, nat_le}
use Rattle.std.specs.Char.{is_ascii_digit}
use Rattle.std.specs.List.{list_all}
use Rattle.std.proofs.lemmas.Bool.{and_parts, or_cases}
use Rattle.std.proofs.lemmas.Slice.Eq.{bytes_eq-Decides}
use Rattle.cilk_model.specs.declared.layout.Bracket.{Bracket}
use Rattle.cilk_model.specs.declared.layout.Gap.{Gap}
use Rattle.cilk_model.specs.declared.layout.Gap.TheVariants.{Margin, Nothing, Blank}
use Rattle.cilk_model.specs.Lexemes as lexeme
use Rattle.cilk_model.specs.Lexemes.{Lexeme}
use Rattle.cilk_model.specs.Bytes.{is_run_byte}
use Rattle.cilk_model.specs.Literals.{max_literal}
use Rattle.cilk_model.specs.Words.{is_one_of, skipped_words, reserved_words}
use Rattle.cilk_model.specs.Spellings as spelled
use Rattle.cilk_model.specs.Tests.{is_mark}
use Rattle.cilk_model.specs.Grammar.{Row}
use Rattle.cilk_model.specs.Layout.{spelling, lead, is_tight, ends_line, open_at, open_behind, gap_behind}
use Rattle.cilk_print.proofs.TokenPieces.{is_between}

-- `+` or `-`, and `++` or `--`
abbrev pub is_sign : Lexeme → Bool
is_sign t = is_mark "+" t || is_mark "-" t

abbrev pub is_step : Lexeme → Bool
is_step t = is_mark "++" t || is_mark "--" t

abbrev pub opens_part : Lexeme → Bool
opens_part t = is_mark "(" t || is_mark "[" t

-- a run that begins with no digit and is not skipped
abbrev pub is_wordlike : List ℕ → Bool
is_wordlike x = not (is_one_of skipped_words x) && list_all is_run_byte x && not (is_ascii_digit (get_or x 0 0)) && nat_lt 0 (length x)

-- what holds of the marks and words of each tree
abbrev pub fixed : Lexeme → Bool
fixed (lexeme.mark at x) = spelled.is_mark x
fixed (lexeme.word at x) = is_one_of reserved_words x && is_wordlike x
fixed (lexeme.finish at) = false
fixed _ = true

-- what holds of the other tokens of a tree that a text spells
abbrev pub is_literal_value : ℤ → Bool
is_literal_value (pos n) = nat_le n max_literal
is_literal_value (negsuc n) = false

abbrev pub well : Lexeme → Bool
well (lexeme.name at x) = not (is_one_of reserved_words x) && is_wordlike x
well (lexeme.literal at v) = is_literal_value v
well (lexeme.text at x) = is_between false x
well _ = true

-- a token that may stand behind a sign, or behind anything else
abbrev pub may_follow : Bool → Lexeme → Bool
may_follow sign t = fixed t && not (is_step t && sign)

-- no `++` or `--` stands behind a sign
pub data Calm : Bool → Row → Type 0 where
  calm : {sign : Bool} → Calm sign []
  more_calm : {sign : Bool} {t : Lexeme} {c : Row} → may_follow sign t ≡ true → Calm (is_sign t) c → Calm sign (t ∷ c)

pub data Well : Row → Type 0 where
  all_well : Well []
  more_well : {t : Lexeme} {c : Row} → well t ≡ true → Well c → Well (t ∷ c)

-- ---- The text of a row

abbrev pub line_end : List Bracket → Lexeme → List ℕ
line_end here t = if ends_line here t then 10 ∷ [] else []

abbrev pub laid : List Bracket → Gap → Row → List ℕ
laid open_ gap [] = []
laid open_ gap (t ∷ ts) =
    let here = open_at open_ t in
    lead gap here t ++ (spelling t ++ (line_end here t ++ laid (open_behind here t) (gap_behind here t) ts))

-- a byte that goes on no token, or that of a step behind no sign
abbrev pub after_ok : Bool → ℕ → Bool
after_ok sign c = c == 0 || c == 10 || c == 32 || c == 59 || c == 44 || c == 41 || c == 93 || ((c == 43 || c == 45) && not sign)

-- the first byte of `++` or `--`, behind no sign
step_ok : (sign : Bool) → not (true && sign) ≡ true → (after_ok sign 43 ≡ true) × (after_ok sign 45 ≡ true)
step_ok true e = absurd cc
step_ok false e = (refl, refl)

tight_first : (sign : Bool) (u : Lexeme) (more : List ℕ) → may_follow sign u ≡ true → is_tight u ≡ true → after_ok sign (get_or (spelling u ++ more) 0 0) ≡ true
tight_first sign (lexeme.name at x) more h e = absurd cc
tight_first sign (lexeme.word at x) more h e = absurd cc
tight_first sign (lexeme.literal at x) more h e = absurd cc
tight_first sign (lexeme.text at x) more h e = absurd cc
tight_first sign (lexeme.finish at) more h e = absurd cc
tight_first sign (lexeme.mark at x) more h e =
    let first : List ℕ → Type 0 = λ y. after_ok sign (get_or (y ++ more) 0 0) ≡ true in
    let follows = (and_parts (spelled.is_mark x) (not (is_step (lexeme.mark at x) && sign)) h).1 in
    let stepping : List ℕ → Type 0 = λ y. not (is_step (lexeme.mark at y) && sign) ≡ true in
    elim (or_cases _ _ e) [
      | inr dashes ↦ let is = (bytes_eq-Decides x (codes "--")).0 dashes in subst first (sym is) (step_ok sign (subst stepping is follows)).1
      | inl e ↦ elim (or_cases _ _ e) [
        | inr pluses ↦ let is = (bytes_eq-Decides x (codes "++")).0 pluses in subst first (sym is) (step_ok sign (subst stepping is follows)).0
        | inl e ↦ elim (or_cases _ _ e) [
          | inr square ↦ subst first (sym ((bytes_eq-Decides x (codes "]")).0 square)) refl
          | inl e ↦ elim (or_cases _ _ e) [
            | inr round ↦ subst first (sym ((bytes_eq-Decides x (codes ")")).0 round)) refl
            | inl e ↦ elim (or_cases _ _ e) [
              | inr comma ↦ subst first (sym ((bytes_eq-Decides x (codes ",")).0 comma)) refl
              | inl semicolon ↦ subst first (sym ((bytes_eq-Decides x (codes ";")).0 semicolon)) refl
            ]
          ]
        ]
      ]
    ]

-- what stands behind a blank's place
by_blank : (sign b : Bool) (u : Lexeme) (more : List ℕ) → is_tight u ≡ b → may_follow sign u ≡ true →
    after_ok sign (get_or ((if b then [] else 32 ∷ []) ++ (spelling u ++ more)) 0 0) ≡ true
by_blank sign true u more e h = tight_first sign u more h e
by_blank sign false u more e h = refl

blank_first : (sign : Bool) (open_ : List Bracket) (c : Row) → Calm sign c → after_ok sign (get_or (laid open_ Blank c) 0 0) ≡ true
blank_first sign open_ [] k = refl
blank_first sign open_ (u ∷ us) (more_calm h k) = by_blank sign (is_tight u) u _ refl h

by_end : (e o sign : Bool) (open_ : List Bracket) (c : Row) → Calm sign c →
    (o ≡ true) ⊎ (after_ok sign (get_or ((if e then 10 ∷ [] else []) ++ laid open_ (if e then Margin else (if o then Nothing else Blank)) c) 0 0) ≡ true)
by_end true o sign open_ c k = inr refl
by_end false true sign open_ c k = inl refl
by_end false false sign open_ c k = inr (blank_first sign open_ c k)

-- the byte behind a token that is laid out
pub behind_token : (here : List Bracket) (t : Lexeme) (c : Row) → Calm (is_sign t) c →
    (opens_part t ≡ true) ⊎ (after_ok (is_sign t) (get_or (line_end here t ++ laid (open_behind here t) (gap_behind here t) c) 0 0) ≡ true)
behind_token here t c k = by_end (ends_line here t) (opens_part t) (is_sign t) (open_behind here t) c k
