-- What a form of the grammar reads from the front of a row of tokens.
use Rattle.std.specs.Prelude.{ℕ, zero, suc, ◌+◌, ◌*◌, List, length, Err}
use Rattle.cilk_model.specs.Lexemes.{Lexeme}
use Rattle.cilk_model.specs.GrammarForms.{Form, Val, expression, further, postfix, args, perhaps, spawn, value, local, simple, init, step, statement, body, params, items, file}
use Rattle.cilk_parser.specs.Parsers.{Parser}
use Rattle.cilk_parser.specs.Reading.{body_of}

-- What a form reads, where its parts go no deeper than the number.
unfoldable pub read_within : ℕ → (n : Form) → Parser (Val n)
read_within zero n ts = Err ts
read_within (suc depth) n ts = body_of (read_within depth) n ts

-- How many forms can start where this one starts, one inside the other.
abbrev pub rank : Form → ℕ
rank (expression n) = n + 4
rank (further n x) = n + 4
rank postfix = 3
rank args = 15
rank perhaps = 15
rank spawn = 2
rank (value may) = 15
rank local = 2
rank (simple may) = 15
rank init = 16
rank step = 16
rank statement = 16
rank body = 17
rank params = 2
rank items = 2
rank file = 3
rank _ = 1

-- A depth that is enough for a row of this length.
abbrev pub cost : Form → List Lexeme → ℕ
cost n ts = rank n + 17 * length ts

unfoldable pub read : (n : Form) → Parser (Val n)
read n ts = read_within (cost n ts) n ts
