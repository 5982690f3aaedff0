-- How the tokens of a text are spelled.
use Rattle.std.specs.Prelude.{◌≡◌, ◌≤◌, ℕ, List, ◌∷◌, [], ◌++◌, length, get_or, Bool, true, false, not, ◌&&◌, ◌||◌, ◌==◌, nat_le, is_some, All}
use Rattle.cilk_ast.specs.declared.token.Token.{Token}
use Rattle.cilk_ast.specs.declared.token.TokenKind.{TokenKind}
use Rattle.cilk_ast.specs.declared.token.TokenKind.TheVariants.{Name, Word, Literal, Text, Mark, Finish}
use Rattle.cilk_model.specs.Literals.{literal_value}
use Rattle.cilk_model.specs.Words.{is_one_of, reserved_words}
use Rattle.cilk_model.specs.Pieces.{is_single_mark, is_double_mark}
use Rattle.cilk_model.specs.Lexemes.{spelling_of}

-- A mark, of one byte or of two.
abbrev pub is_mark : List ℕ → Bool
is_mark spelling =
    let first = get_or spelling 0 0 in
    (length spelling == 1 && is_single_mark first) || (length spelling == 2 && is_double_mark first (get_or spelling 1 0))

-- The bytes can spell a token of this kind: a literal has a value, a text literal its two quotes.
abbrev pub is_spelled : TokenKind → List ℕ → Bool
is_spelled Name spelling = not (is_one_of reserved_words spelling)
is_spelled Word spelling = is_one_of reserved_words spelling
is_spelled Literal spelling = is_some (literal_value spelling)
is_spelled Text spelling = nat_le 2 (length spelling)
is_spelled Mark spelling = is_mark spelling
is_spelled Finish spelling = length spelling == 0

abbrev pub is_finish : TokenKind → Bool
is_finish Finish = true
is_finish _ = false

-- A token lies in a text, and is spelled there as its kind demands.
pub record IsTokenOf (text : List ℕ) (token : Token) : Type 0 where
  pub ordered : token.start ≤ token.stop
  pub within : token.stop ≤ length text
  pub spelled : is_spelled token.kind (spelling_of text token) ≡ true

-- Finish is the last token, and no other is.
pub record FinishIsLast (tokens : List Token) : Type 0 where
  pub front : List Token
  pub last : Token
  pub parts : tokens ≡ front ++ last ∷ []
  pub finish : last.kind ≡ Finish
  pub others : All (λ token. is_finish token.kind ≡ false) front
