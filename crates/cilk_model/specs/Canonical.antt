-- The canonical text of a tree, and its laws.
use Rattle.std.specs.Prelude.{◌≡◌, ℕ, List}
use Rattle.cilk_ast.specs.declared.tree.Tree.{Tree}
use Rattle.cilk_model.specs.SameTree.{SameTree}
use Rattle.cilk_model.specs.TreeTokens.{tokens_of}
use Rattle.cilk_model.specs.Layout.{put_all, blank_page}

-- Its tokens, laid out in order.
abbrev pub canonical_text : Tree → List ℕ
canonical_text tree = (put_all blank_page (tokens_of tree)).text

-- Trees that are the same have one canonical text.
abbrev pub CanonicalTextIsOne : Type 0
CanonicalTextIsOne = (one other : Tree) → SameTree one other → canonical_text one ≡ canonical_text other
