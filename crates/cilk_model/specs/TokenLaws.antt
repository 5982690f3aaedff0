-- What holds of the tokens of every text.
use Rattle.std.specs.Prelude.{◌≡◌, ℕ, List, ◌⊎◌, All}
use Rattle.cilk_ast.specs.declared.token.Token.{Token}
use Rattle.cilk_ast.specs.declared.fault.TextFault.{TextFault}
use Rattle.cilk_model.specs.Tokens.{Tokens, LexicalFault}
use Rattle.cilk_model.specs.Spellings.{IsTokenOf, FinishIsLast}
use Rattle.cilk_model.specs.Syntax.{EndsOnce}
use Rattle.cilk_model.specs.Lexemes.{lexemes_of}

-- A text has at most one list of tokens.
abbrev pub TokensAreOne : Type 0
TokensAreOne = (text : List ℕ) (one other : List Token) → Tokens text one → Tokens text other → one ≡ other

-- A text has at most one first lexical fault.
abbrev pub LexicalFaultIsOne : Type 0
LexicalFaultIsOne = (text : List ℕ) (one other : TextFault) → LexicalFault text one → LexicalFault text other → one ≡ other

-- A text with tokens has no lexical fault.
abbrev pub TokensHaveNoFault : Type 0
TokensHaveNoFault = (text : List ℕ) (tokens : List Token) (fault : TextFault) → Tokens text tokens → LexicalFault text fault → ⊥

-- A text has tokens or a lexical fault.
abbrev pub TextsLex : Type 0
TextsLex = (text : List ℕ) → ((tokens : List Token) × Tokens text tokens) ⊎ ((fault : TextFault) × LexicalFault text fault)

-- Each token of a text lies in it, and is spelled there as its kind demands.
abbrev pub TokensAreSpelled : Type 0
TokensAreSpelled = (text : List ℕ) (tokens : List Token) → Tokens text tokens → All (IsTokenOf text) tokens

-- The tokens of a text end with Finish, and no other is Finish.
abbrev pub TokensFinish : Type 0
TokensFinish = (text : List ℕ) (tokens : List Token) → Tokens text tokens → FinishIsLast tokens

-- What the tokens of a text say ends with the end of the text, which stands nowhere else.
abbrev pub LexemesEndOnce : Type 0
LexemesEndOnce = (text : List ℕ) (tokens : List Token) → Tokens text tokens → EndsOnce (lexemes_of text tokens)
