-- Which program a text spells, and which fault it has.
use Rattle.std.specs.Prelude.{ℕ, List}
use Rattle.cilk_ast.specs.declared.fault.TextFault.{TextFault}
use Rattle.cilk_ast.specs.declared.program.Program.{Program}
use Rattle.cilk_ast.specs.declared.token.Token.{Token}
use Rattle.cilk_ast.specs.declared.tree.Tree.{Tree}
use Rattle.cilk_model.specs.Lexemes.{lexemes_of}
use Rattle.cilk_model.specs.Tokens.{Tokens, LexicalFault}
use Rattle.cilk_model.specs.Syntax.{Spelled, SyntaxFault}
use Rattle.cilk_model.specs.Checked.{Checked, CheckFault}

-- The text's tokens spell this tree.
pub record SpellsTree (text : List ℕ) (tree : Tree) : Type 0 where
  pub tokens : List Token
  pub are_tokens : Tokens text tokens
  pub spelled : Spelled (lexemes_of text tokens) tree

-- The text spells a tree in which no rule is broken, and that is this program.
pub record SpellsProgram (text : List ℕ) (program : Program) : Type 0 where
  pub tree : Tree
  pub spells : SpellsTree text tree
  pub checked : Checked tree program

-- The first fault of a text: of its tokens; where it has tokens, of their syntax; where these spell a tree, of the
-- rules that it breaks.
pub data FirstFault (text : List ℕ) : TextFault → Type 0 where
  of_tokens : {fault : TextFault} → LexicalFault text fault → FirstFault text fault
  of_syntax : {fault : TextFault} (tokens : List Token) → Tokens text tokens → SyntaxFault (lexemes_of text tokens) fault → FirstFault text fault
  of_rules : {fault : TextFault} (tree : Tree) → SpellsTree text tree → CheckFault tree fault → FirstFault text fault
