-- Marks and words by the bytes of their spelling.
use Rattle.std.specs.Prelude.{ℕ, ℤ, Bool, false, cond, List, Option, Some, None, bytes_eq}
use Rattle.word_ops.specs.declared.place.Pos.{Pos}
use Rattle.cilk_ast.specs.declared.tree.TExpr.{TExpr, Number}
use Rattle.cilk_model.specs.Lexemes.{Lexeme, word, mark, pos_of}

-- The token is the mark, or the word, with these bytes.
abbrev pub is_marked : List ℕ → Lexeme → Bool
is_marked spelled (mark at bytes) = bytes_eq bytes spelled
is_marked spelled _ = false

abbrev pub is_worded : List ℕ → Lexeme → Bool
is_worded spelled (word at bytes) = bytes_eq bytes spelled
is_worded spelled _ = false

abbrev pub a_marked : List ℕ → Lexeme → Option Pos
a_marked spelled t = cond (is_marked spelled t) (Some (pos_of t)) None

abbrev pub a_worded : List ℕ → Lexeme → Option Pos
a_worded spelled t = cond (is_worded spelled t) (Some (pos_of t)) None

-- The bytes of a mark, and of a word.
abbrev pub mark_bytes : Lexeme → Option (List ℕ)
mark_bytes (mark at bytes) = Some bytes
mark_bytes _ = None

abbrev pub word_bytes : Lexeme → Option (List ℕ)
word_bytes (word at bytes) = Some bytes
word_bytes _ = None

-- The node of a literal.
abbrev pub number_node : Pos × ℤ → Option TExpr
number_node l = Some (Number (l.0) (l.1))
