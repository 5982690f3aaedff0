-- The walk of the levels over the tokens of a text, a token at a time.
use Rattle.std.proofs.Common.{◌≡◌, ℕ, zero, suc, ◌<◌, ◌≤◌, ◌+◌, Bool, true, false, List, [], ◌∷◌, length, drop, get_or, nat_lt, if◌then◌else◌, refl, sym, ◌∙◌, ap, arith}
use Rattle.cilk_ast.specs.declared.token.Token.{Token}
use Rattle.cilk_model.specs.Lexemes as say
use Rattle.cilk_model.specs.Lexemes.{Lexeme, lexeme_of, lexemes_of}
use Rattle.cilk_model.specs.Tests.{starts, is_word}
use Rattle.cilk_model.specs.Levels.{Nesting, level_limit, level_after, after, deep_from}
use Rattle.cilk_parser.specs.NestingOf.{kept, else_behind}
use Rattle.cilk_parser.specs.Spelled.{is_worded}
use Rattle.cilk_parser.proofs.Kept.{deep_kept}

-- The tokens from a place on start with the one there.
pub from_place : (text : List ℕ) (tokens : List Token) (i : ℕ) (d : Token) → i < length tokens →
    drop i (lexemes_of text tokens) ≡ lexeme_of text (get_or tokens i d) ∷ drop (suc i) (lexemes_of text tokens)
from_place text [] i d h = absurd (omega (arith, h))
from_place text (t ∷ tokens) zero d h = refl
from_place text (t ∷ tokens) (suc i) d h = from_place text tokens i d (omega (arith, h))

worded_else : (t : Lexeme) → is_worded (101 ∷ 108 ∷ 115 ∷ 101 ∷ []) t ≡ is_word "else" t
worded_else (say.name at b) = refl
worded_else (say.word at b) = refl
worded_else (say.literal at b) = refl
worded_else (say.text at b) = refl
worded_else (say.mark at b) = refl
worded_else (say.finish at) = refl

pub else_there : (text : List ℕ) (tokens : List Token) (n : ℕ) (d : Token) → n < length tokens →
    is_worded (101 ∷ 108 ∷ 115 ∷ 101 ∷ []) (lexeme_of text (get_or tokens n d)) ≡ else_behind text tokens n
else_there text tokens n d h =
    worded_else (lexeme_of text (get_or tokens n d)) ∙ ap (starts (is_word "else")) (sym (from_place text tokens n d h))

module _ (text : List ℕ) (tokens : List Token) (at : ℕ) (d : Token) (e : Bool) (here : Nesting) (h : at < length tokens) (next : e ≡ else_behind text tokens (at + 1)) where
  onward : at + 1 ≡ suc at
  onward = omega arith

  one_token : deep_from here (drop at (lexemes_of text tokens))
      ≡ (if nat_lt level_limit (level_after here (lexeme_of text (get_or tokens at d)) e) then drop at (lexemes_of text tokens)
      else deep_from (after here (lexeme_of text (get_or tokens at d)) e) (drop (suc at) (lexemes_of text tokens)))
  one_token = rw (next, onward, from_place text tokens at d h) refl

  -- A token that is too deep begins the deep part.
  pub stays_deep : nat_lt level_limit (level_after here (lexeme_of text (get_or tokens at d)) e) ≡ true →
      deep_from here (drop at (lexemes_of text tokens)) ≡ drop at (lexemes_of text tokens)
  stays_deep over = one_token ∙ ap (λ b. if b then drop at (lexemes_of text tokens) else deep_from (after here (lexeme_of text (get_or tokens at d)) e) (drop (suc at) (lexemes_of text tokens))) over

  -- Behind another one the walk goes on, with what is kept of the levels.
  pub goes_deeper : nat_lt level_limit (level_after here (lexeme_of text (get_or tokens at d)) e) ≡ false →
      deep_from here (drop at (lexemes_of text tokens)) ≡ deep_from (kept (after here (lexeme_of text (get_or tokens at d)) e)) (drop (at + 1) (lexemes_of text tokens))
  goes_deeper under =
      one_token ∙ ap (λ b. if b then drop at (lexemes_of text tokens) else deep_from (after here (lexeme_of text (get_or tokens at d)) e) (drop (suc at) (lexemes_of text tokens))) under
      ∙ sym (deep_kept (drop (suc at) (lexemes_of text tokens)) (after here (lexeme_of text (get_or tokens at d)) e))
      ∙ ap (λ i. deep_from (kept (after here (lexeme_of text (get_or tokens at d)) e)) (drop i (lexemes_of text tokens))) (sym onward)

pub over_limit : (n m : ℕ) → n ≡ m → 64 < n → nat_lt level_limit m ≡ true
over_limit n m e h = grind (arith, e, h)

pub under_limit : (n m : ℕ) → n ≡ m → n ≤ 64 → nat_lt level_limit m ≡ false
under_limit n m e h = grind (arith, e, h)
