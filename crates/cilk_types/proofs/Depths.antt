-- A part of an index is less deep than the index.
use Rattle.std.proofs.Common.{◌<◌, arith}
use Rattle.word_ops.specs.declared.place.Pos.{Pos}
use Rattle.cilk_ast.specs.declared.tree.TExpr as code
use Rattle.cilk_ast.specs.declared.tree.TExpr.{TExpr, size-TExpr}
use Rattle.cilk_ast.specs.declared.tree.TExpr.TheViews.{sized-Index}

pub base_depth : (at : Pos) (base index : TExpr) → size-TExpr base < size-TExpr (code.Index at base index)
base_depth at base index = omega (arith, sized-Index at base index)
