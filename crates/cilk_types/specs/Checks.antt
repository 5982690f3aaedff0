-- What a check takes, and why it refuses.
use Rattle.std.specs.Prelude.{ℕ, ◌≤◌, List, length}
use Rattle.cilk_ast.specs.declared.fault.TextRefusal.{TextRefusal}
use Rattle.cilk_ast.specs.declared.fault.TextRefusal.TheVariants.{Fault, OutOfMemory}
use Rattle.cilk_ast.specs.declared.tree.Tree.{Tree}
use Rattle.cilk_model.specs.Checked.{CheckFault}
use Rattle.cilk_model.specs.Texts.{SpellsTree}

-- Some text of at most 1,048,576 bytes spells the tree.
pub record IsSpelled (tree : Tree) : Type 0 where
  pub text : List ℕ
  pub short : length text ≤ 1048576
  pub spells : SpellsTree text tree

-- Why a tree is refused: its first fault, or want of memory.
abbrev pub IsRefused : Tree → TextRefusal → Type 0
IsRefused tree (Fault fault) = CheckFault tree fault
IsRefused tree OutOfMemory = Unit {0}
