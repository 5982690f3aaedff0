-- Where a text has come to, as the code keeps it: of the tokens before, the last two; of the head of a
-- `cilk_for`, which of its three parts.
use Rattle.std.specs.Prelude.{◌≡◌, ℕ, suc, Bool, List, [], ◌∷◌, Option, Some, None, drop, map, reverse}
use Rattle.cilk_ast.specs.declared.token.Token.{Token}
use Rattle.cilk_model.specs.Lexemes.{Lexeme, lexeme_of, lexemes_of}
use Rattle.cilk_model.specs.Tests.{is_word, starts}
use Rattle.cilk_model.specs.Levels as level
use Rattle.cilk_parser.specs.declared.nesting.Inside as code
use Rattle.cilk_parser.specs.declared.nesting.Inside.TheVariants.{Statements, First, Test, Step, Other}
use Rattle.cilk_parser.specs.declared.nesting.Bracket as code_bracket
use Rattle.cilk_parser.specs.declared.nesting.Nesting as code_nesting

abbrev pub inside_of : code.Inside → level.Inside
inside_of Statements = level.statements
inside_of First = level.head 0
inside_of Test = level.head 1
inside_of Step = level.head 2
inside_of Other = level.other

abbrev pub bracket_of : code_bracket.Bracket → level.Bracket
bracket_of b = record { outside = b.outside; inside = inside_of b.inside }

abbrev pub before_last : List ℕ → Option Token → List Lexeme
before_last text (Some t) = lexeme_of text t ∷ []
before_last text None = []

abbrev pub before_of : List ℕ → Option Token → Option Token → List Lexeme
before_of text (Some t) second = lexeme_of text t ∷ before_last text second
before_of text None second = []

-- What the code's fields stand for.
abbrev pub nesting_of : List ℕ → code_nesting.Nesting → level.Nesting
nesting_of text here = record {
  level = here.level;
  brackets = map bracket_of (reverse here.brackets);
  before = before_of text here.last here.second_last;
}

-- What the code keeps of where a text has come to.
abbrev pub kept_inside : level.Inside → level.Inside
kept_inside (level.head (suc (suc n))) = level.head 2
kept_inside inside = inside

abbrev pub kept_bracket : level.Bracket → level.Bracket
kept_bracket b = record { outside = b.outside; inside = kept_inside b.inside }

abbrev pub kept_brackets : List level.Bracket → List level.Bracket
kept_brackets bs = map kept_bracket bs

abbrev pub kept_before : List Lexeme → List Lexeme
kept_before (t ∷ u ∷ before) = t ∷ u ∷ []
kept_before before = before

abbrev pub kept : level.Nesting → level.Nesting
kept here = record { level = here.level; brackets = kept_brackets here.brackets; before = kept_before here.before }

-- The bracket that a token opens.
abbrev pub bracket_at : level.Nesting → Lexeme → level.Bracket
bracket_at here t = record { outside = here.level; inside = level.opened here t }

-- All but the brackets stays.
abbrev pub Unmoved : code_nesting.Nesting → code_nesting.Nesting → Type 0
Unmoved new old = (new.level ≡ old.level) × (new.last ≡ old.last) × (new.second_last ≡ old.second_last)

-- An `else` stands behind so many tokens.
abbrev pub else_behind : List ℕ → List Token → ℕ → Bool
else_behind text tokens n = starts (is_word "else") (drop n (lexemes_of text tokens))
