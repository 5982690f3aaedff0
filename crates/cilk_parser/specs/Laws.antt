-- What holds of syntax, whatever the tokens.
use Rattle.std.specs.Prelude.{◌≡◌, List, ◌⊎◌}
use Rattle.cilk_ast.specs.declared.tree.Tree.{Tree}
use Rattle.cilk_ast.specs.declared.fault.TextFault.{TextFault}
use Rattle.cilk_model.specs.Lexemes.{Lexeme}
use Rattle.cilk_model.specs.Syntax.{Spelled, SyntaxFault, EndsOnce}

-- Tokens spell at most one tree.
abbrev pub OneTree : Type 0
OneTree = (ts : List Lexeme) (x y : Tree) → Spelled ts x → Spelled ts y → x ≡ y

-- They have at most one fault of syntax.
abbrev pub OneFault : Type 0
OneFault = (ts : List Lexeme) (f g : TextFault) → SyntaxFault ts f → SyntaxFault ts g → f ≡ g

-- Tokens that spell a tree have no fault.
abbrev pub NotBoth : Type 0
NotBoth = (ts : List Lexeme) (x : Tree) (f : TextFault) → Spelled ts x → SyntaxFault ts f → ⊥

-- Those of a whole text spell a tree, or have a fault.
abbrev pub OneOfBoth : Type 0
OneOfBoth = (ts : List Lexeme) → EndsOnce ts → ((x : Tree) × Spelled ts x) ⊎ ((f : TextFault) × SyntaxFault ts f)
