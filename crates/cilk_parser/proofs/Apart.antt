-- Tokens that are of one kind and so not of another.
use Rattle.std.proofs.Common.{◌≡◌, Bool, true, false, cond, ◌||◌, [], ◌∷◌, Option, Some, None, refl, sym, ◌∙◌, ap}
use Rattle.cilk_model.specs.Lexemes as lexeme
use Rattle.cilk_model.specs.Lexemes.{Lexeme, name, literal, text, finish, pos_of}
use Rattle.cilk_model.specs.Signs.{mark, word}
use Rattle.cilk_model.specs.Tests.{is_mark, is_word, is_finish, starts}
use Rattle.cilk_model.specs.Grammar.{Row}
use Rattle.cilk_parser.specs.Parsers.{seen}
use Rattle.cilk_parser.specs.Kinds.{a_mark, a_word}
use Rattle.cilk_parser.proofs.Taking.{Tells}
use Rattle.cilk_parser.proofs.Tokens.{is_mark-true, is_word-true}

-- A row that starts with what the test passes has in front no token of a kind that it does not pass.
pub apart : {K : Type 0} {kind : Lexeme → Option K} {token : K → Lexeme} {Fit : K → Type 0} → Tells kind token Fit → (d : Lexeme → Bool) →
    ((k : K) → d (token k) ≡ false) → (ts : Row) → starts d ts ≡ true → seen kind ts ≡ None
apart tells d h [] e = absurd cc
apart {K} {kind = kind} {token = token} tells d h (t ∷ ts) e = by_kind (kind t) refl where
  by_kind : (o : Option K) → kind t ≡ o → o ≡ None
  by_kind None g = refl
  by_kind (Some k) g =
      let clash = sym e ∙ ap d ((tells.says t k g).0) ∙ h k in absurd cc

-- A row that starts with a mark, and with a word, has it in front.
pub led_by_mark : (s : _) (c : Lexeme → Bool) (v : Bool) (ts : Row) → starts (is_mark s) ts ≡ true → ((at : _) → c (mark s at) ≡ v) → starts c ts ≡ v
led_by_mark s c v [] e h = absurd cc
led_by_mark s c v (t ∷ ts) e h = ap c (is_mark-true s t e) ∙ h (pos_of t)

pub led_by_word : (s : _) (c : Lexeme → Bool) (v : Bool) (ts : Row) → starts (is_word s) ts ≡ true → ((at : _) → c (word s at) ≡ v) → starts c ts ≡ v
led_by_word s c v [] e h = absurd cc
led_by_word s c v (t ∷ ts) e h = ap c (is_word-true s t e) ∙ h (pos_of t)

to_false : (b : Bool) → (b ≡ true → ⊥) → b ≡ false
to_false false h = refl
to_false true h = absurd (h refl)

-- A row that starts with what the test passes starts with no mark that it does not pass.
pub apart_mark : (s : _) (d : Lexeme → Bool) → ((at : _) → d (mark s at) ≡ false) → (ts : Row) → starts d ts ≡ true → starts (is_mark s) ts ≡ false
apart_mark s d h ts e = to_false (starts (is_mark s) ts) (λ g. let clash = sym e ∙ led_by_mark s d false ts g h in absurd cc)

pub apart_word : (s : _) (d : Lexeme → Bool) → ((at : _) → d (word s at) ≡ false) → (ts : Row) → starts d ts ≡ true → starts (is_word s) ts ≡ false
apart_word s d h ts e = to_false (starts (is_word s) ts) (λ g. let clash = sym e ∙ led_by_word s d false ts g h in absurd cc)

pub no_mark : (s : _) (ts : Row) → starts (is_mark s) ts ≡ false → seen (a_mark s) ts ≡ None
no_mark s [] e = refl
no_mark s (t ∷ ts) e = ap (λ b. cond b (Some (pos_of t)) None) e

pub no_word : (s : _) (ts : Row) → starts (is_word s) ts ≡ false → seen (a_word s) ts ≡ None
no_word s [] e = refl
no_word s (t ∷ ts) e = ap (λ b. cond b (Some (pos_of t)) None) e

-- Neither of two.
pub neither_first : (c d : Lexeme → Bool) (ts : Row) → starts (λ t. c t || d t) ts ≡ false → starts c ts ≡ false
neither_first c d [] e = refl
neither_first c d (t ∷ ts) e = left (c t) (d t) e where
  left : (a b : Bool) → (a || b) ≡ false → a ≡ false
  left false b g = refl
  left true b g = absurd cc

pub neither_second : (c d : Lexeme → Bool) (ts : Row) → starts (λ t. c t || d t) ts ≡ false → starts d ts ≡ false
neither_second c d [] e = refl
neither_second c d (t ∷ ts) e = right (c t) (d t) e where
  right : (a b : Bool) → (a || b) ≡ false → b ≡ false
  right false b g = g
  right true b g = absurd cc

pub neither : (c d : Lexeme → Bool) (ts : Row) → starts c ts ≡ false → starts d ts ≡ false → starts (λ t. c t || d t) ts ≡ false
neither c d [] e g = refl
neither c d (t ∷ ts) e g = both_false (c t) (d t) e g where
  both_false : (a b : Bool) → a ≡ false → b ≡ false → (a || b) ≡ false
  both_false false b e g = g
  both_false true b e g = absurd cc

-- The end is no token of a kind that does not pass it.
pub apart_finish : (d : Lexeme → Bool) → ((at : _) → d (finish at) ≡ false) → (ts : Row) → starts d ts ≡ true → starts is_finish ts ≡ false
apart_finish d h [] e = refl
apart_finish d h (name at x ∷ ts) e = refl
apart_finish d h (lexeme.word at x ∷ ts) e = refl
apart_finish d h (lexeme.mark at x ∷ ts) e = refl
apart_finish d h (literal at v ∷ ts) e = refl
apart_finish d h (text at x ∷ ts) e = refl
apart_finish d h (finish at ∷ ts) e = let clash = sym e ∙ h at in absurd cc
