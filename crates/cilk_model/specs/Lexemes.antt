-- Tokens as the grammar reads them: what each says, and where.
use Rattle.std.specs.Prelude.{ℕ, ◌-◌, ℤ, pos, List, map, length, take, drop, unwrap_or}
use Rattle.word_ops.specs.declared.place.Pos.{Pos}
use Rattle.cilk_ast.specs.declared.token.Token.{Token}
use Rattle.cilk_ast.specs.declared.token.TokenKind.{TokenKind}
use Rattle.cilk_ast.specs.declared.token.TokenKind.TheVariants as kind
use Rattle.cilk_model.specs.Literals.{literal_value}

-- A token with its place: a name, a reserved word and a mark by their bytes, a literal by its value, a text
-- literal by the bytes between its quotes, and the end of the text.
pub data Lexeme : Type 0 where
  name : Pos → List ℕ → Lexeme
  word : Pos → List ℕ → Lexeme
  literal : Pos → ℤ → Lexeme
  text : Pos → List ℕ → Lexeme
  mark : Pos → List ℕ → Lexeme
  finish : Pos → Lexeme

-- Where a token stands.
abbrev pub pos_of : Lexeme → Pos
pos_of (name at _) = at
pos_of (word at _) = at
pos_of (literal at _) = at
pos_of (text at _) = at
pos_of (mark at _) = at
pos_of (finish at) = at

-- The bytes of a token.
abbrev pub spelling_of : List ℕ → Token → List ℕ
spelling_of bytes token = take (token.stop - token.start) (drop token.start bytes)

-- What stands between the first byte and the last one.
abbrev pub between_quotes : List ℕ → List ℕ
between_quotes spelling = take (length spelling - 2) (drop 1 spelling)

-- What a token of a kind, at a place and with these bytes says.
abbrev pub lexeme : TokenKind → Pos → List ℕ → Lexeme
lexeme kind.Name at spelling = name at spelling
lexeme kind.Word at spelling = word at spelling
lexeme kind.Literal at spelling = literal at (pos (unwrap_or (literal_value spelling) 0))
lexeme kind.Text at spelling = text at (between_quotes spelling)
lexeme kind.Mark at spelling = mark at spelling
lexeme kind.Finish at spelling = finish at

-- What a token of a text says.
abbrev pub lexeme_of : List ℕ → Token → Lexeme
lexeme_of bytes token = lexeme token.kind token.pos (spelling_of bytes token)

-- What the tokens of a text say, in order.
abbrev pub lexemes_of : List ℕ → List Token → List Lexeme
lexemes_of bytes tokens = map (lexeme_of bytes) tokens
