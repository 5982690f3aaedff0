-- What holds of every text.
use Rattle.std.specs.Prelude.{◌≡◌, ℕ, List, None, ◌⊎◌}
use Rattle.cilk_ast.specs.declared.fault.TextFault.{TextFault}
use Rattle.cilk_ast.specs.declared.program.Program.{Program}
use Rattle.cilk_ast.specs.declared.tree.Tree.{Tree}
use Rattle.cilk_model.specs.Checked.{parts_of, tree_fault}
use Rattle.cilk_model.specs.Texts.{SpellsTree, SpellsProgram, FirstFault}

-- A text spells at most one tree.
abbrev pub OneTreeOfAText : Type 0
OneTreeOfAText = (text : List ℕ) (one other : Tree) → SpellsTree text one → SpellsTree text other → one ≡ other

-- A text has at most one first fault.
abbrev pub OneFaultOfAText : Type 0
OneFaultOfAText = (text : List ℕ) (one other : TextFault) → FirstFault text one → FirstFault text other → one ≡ other

-- A text spells at most one program.
abbrev pub OneProgramOfAText : Type 0
OneProgramOfAText = (text : List ℕ) (one other : Program) → SpellsProgram text one → SpellsProgram text other → parts_of one ≡ parts_of other

-- A text with a fault spells no program.
abbrev pub FaultyTextsSpellNoProgram : Type 0
FaultyTextsSpellNoProgram = (text : List ℕ) (fault : TextFault) (program : Program) → FirstFault text fault → SpellsProgram text program → ⊥

-- A tree that the text spells and in which no rule is broken.
pub record SpellsUnbroken (text : List ℕ) : Type 0 where
  pub tree : Tree
  pub spells : SpellsTree text tree
  pub unbroken : tree_fault tree ≡ None

-- A text spells a tree in which no rule is broken, or has a first fault.
abbrev pub TextsSpellOrFail : Type 0
TextsSpellOrFail = (text : List ℕ) → SpellsUnbroken text ⊎ ((fault : TextFault) × FirstFault text fault)
