-- Why a text has no tree.
use Rattle.std.specs.Prelude.{List}
use Rattle.cilk_ast.specs.declared.fault.TextRefusal.{TextRefusal}
use Rattle.cilk_ast.specs.declared.fault.TextRefusal.TheVariants.{Fault, OutOfMemory}
use Rattle.cilk_model.specs.Lexemes.{Lexeme}
use Rattle.cilk_model.specs.Syntax.{SyntaxFault}

-- Why tokens gave no tree: their first fault of syntax, or want of memory.
abbrev pub RefusesTree : List Lexeme → TextRefusal → Type 0
RefusesTree ts (Fault fault) = SyntaxFault ts fault
RefusesTree ts OutOfMemory = Unit {0}
