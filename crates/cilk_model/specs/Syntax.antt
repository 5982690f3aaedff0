-- Which tokens spell a tree, and where the fault of those stands that do not.
use Rattle.std.specs.Prelude.{◌≡◌, ◌≤◌, false, List, [], ◌∷◌, ◌++◌, length}
use Rattle.word_ops.specs.declared.place.Pos.{Pos}
use Rattle.cilk_ast.specs.declared.tree.Tree.{Tree}
use Rattle.cilk_ast.specs.declared.fault.TextFault.{TextFault}
use Rattle.cilk_ast.specs.declared.fault.FaultKind.TheVariants.{TooDeep, Unexpected}
use Rattle.cilk_model.specs.Lexemes.{Lexeme, finish, pos_of}
use Rattle.cilk_model.specs.Tests.{is_finish}
use Rattle.cilk_model.specs.GrammarForms.{file}
use Rattle.cilk_model.specs.Grammar.{Spells}
use Rattle.cilk_model.specs.Levels.{deep_part}

-- None of the tokens is the end of the text.
pub data Unfinished : List Lexeme → Type 0 where
  none : Unfinished []
  more : {t : Lexeme} {ts : List Lexeme} → is_finish t ≡ false → Unfinished ts → Unfinished (t ∷ ts)

-- The end of the text stands last, and nowhere else.
pub record EndsOnce (ts : List Lexeme) : Type 0 where
  pub before : List Lexeme
  pub end : Pos
  pub split : ts ≡ before ++ finish end ∷ []
  pub unfinished : Unfinished before

-- The tokens spell the tree: they are a file of the grammar, and none of them is too deep.
pub record Spelled (ts : List Lexeme) (tree : Tree) : Type 0 where
  pub spells : Spells file tree ts
  pub shallow : deep_part ts ≡ []

-- The tokens begin a file: with some more behind them they are one.
pub record Begins (ts : List Lexeme) : Type 0 where
  pub after : List Lexeme
  pub tree : Tree
  pub spells : Spells file tree (ts ++ after)

-- The rest starts with the first token with which the tokens so far begin no file.
pub record IsUnexpected (ts rest : List Lexeme) : Type 0 where
  pub front : List Lexeme
  pub token : Lexeme
  pub behind : List Lexeme
  pub is_rest : rest ≡ token ∷ behind
  pub split : ts ≡ front ++ rest
  pub begun : Begins front
  pub ended : Begins (front ++ token ∷ []) → ⊥

-- The rest starts with the first token that is too deep, and the tokens before it begin a file.
pub record IsTooDeep (ts rest : List Lexeme) : Type 0 where
  pub front : List Lexeme
  pub token : Lexeme
  pub behind : List Lexeme
  pub is_rest : rest ≡ token ∷ behind
  pub split : ts ≡ front ++ rest
  pub begun : Begins front
  pub deep : deep_part ts ≡ rest

-- The fault of tokens that spell no tree: at the first token that is too deep or unexpected. One that is both is
-- too deep.
pub data SyntaxFault (ts : List Lexeme) : TextFault → Type 0 where
  too_deep : {t : Lexeme} {behind : List Lexeme} → IsTooDeep ts (t ∷ behind) → SyntaxFault ts (record { pos = pos_of t; kind = TooDeep })
  unexpected : {t : Lexeme} {behind : List Lexeme} → IsUnexpected ts (t ∷ behind) → length (deep_part ts) ≤ length behind →
      SyntaxFault ts (record { pos = pos_of t; kind = Unexpected })
