-- What holds of the canonical text of a tree.
use Rattle.std.specs.Prelude.{ℕ, List}
use Rattle.cilk_ast.specs.declared.tree.Tree.{Tree}
use Rattle.cilk_model.specs.Texts.{SpellsTree}
use Rattle.cilk_model.specs.SameTree.{SameTree}
use Rattle.cilk_model.specs.Canonical.{canonical_text}

-- The text spells a tree that is the same as this one, places aside.
pub record SpellsSame (text : List ℕ) (tree : Tree) : Type 0 where
  pub other : Tree
  pub spells : SpellsTree text other
  pub same : SameTree tree other

-- The canonical text of a tree that some text spells spells the same tree.
abbrev pub CanonicalTextSpellsSame : Type 0
CanonicalTextSpellsSame = (text : List ℕ) (tree : Tree) → SpellsTree text tree → SpellsSame (canonical_text tree) tree
