-- Which program a tree is, and which fault it has: one of the two, and only one.
use Rattle.std.specs.Prelude.{◌≡◌, Option, Some, None}
use Rattle.cilk_ast.specs.declared.fault.TextFault.{TextFault}
use Rattle.cilk_ast.specs.declared.program.Program.{Program}
use Rattle.cilk_ast.specs.declared.tree.Tree.{Tree}
use Rattle.cilk_model.specs.FirstFault.{first_fault}
use Rattle.cilk_model.specs.Breaks.{faults_of_tree}
use Rattle.cilk_model.specs.Lowering.{Parts, lower}

-- The parts of a program.
abbrev pub parts_of : Program → Parts
parts_of program = record {
  functions = program.functions;
  main = program.main;
  globals = program.globals;
  replicated = program.replicated;
}

-- The first fault of a tree, if a rule is broken in it.
abbrev pub tree_fault : Tree → Option TextFault
tree_fault tree = first_fault (faults_of_tree tree)

-- No rule is broken in the tree, and it is this program.
pub record Checked (tree : Tree) (program : Program) : Type 0 where
  pub unbroken : tree_fault tree ≡ None
  pub is_program : parts_of program ≡ lower tree

-- This is the first fault of the tree.
pub record CheckFault (tree : Tree) (fault : TextFault) : Type 0 where
  pub first : tree_fault tree ≡ Some fault
