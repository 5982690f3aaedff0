-- The forms of a tree's statements that code builds are those that definitions match, as in
-- ExpressionForms.
use Rattle.std.proofs.Common.{◌≡◌, ℕ, List, [], ◌∷◌, refl, Option, Some, None}
use Rattle.word_ops.specs.declared.place.Pos.{Pos}
use Rattle.cilk_ast.specs.declared.tree.TExpr.{TExpr}
use Rattle.cilk_ast.specs.declared.tree.TStmt as code
use Rattle.cilk_ast.specs.declared.tree.TStmt.TheBlock.{shape-the_row-TStmt-0, hidden-the_row-TStmt-0, shape-the_row-TStmt-1, hidden-the_row-TStmt-1}
use Rattle.cilk_ast.specs.declared.tree.TStmt.{TStmt, Block'}
use Rattle.cilk_ast.specs.TreeStatement.{If, While, For, CilkFor, part_of, listed}
use denote.Hole.Carrier.{hidden}

pub while_form : (test : TExpr) (body : TStmt) → code.While test body ≡ While test body
unfolding shape-the_row-TStmt-1 hidden-the_row-TStmt-1 hidden
while_form test body = refl

pub cilk_for_form :
    (at : Pos) (name : List ℕ) (low : TExpr) (second : Pos × List ℕ) (high : TExpr) (third : Pos × List ℕ) (body : TStmt)
    → code.CilkFor at name low second high third body ≡ CilkFor at name low second high third body
unfolding shape-the_row-TStmt-1 hidden-the_row-TStmt-1 hidden
cilk_for_form at name low second high third body = refl

pub if_form : (test : TExpr) (yes_ : TStmt) (no_ : Option TStmt) → code.If test yes_ no_ ≡ If test yes_ (part_of no_)
unfolding shape-the_row-TStmt-1 hidden-the_row-TStmt-1 hidden
if_form test yes_ None = refl
if_form test yes_ (Some s) = refl

pub for_form :
    (init : Option TStmt) (test : Option TExpr) (step : Option TStmt) (body : TStmt) → code.For init test step body ≡ For (part_of init) test (part_of step) body
unfolding shape-the_row-TStmt-1 hidden-the_row-TStmt-1 hidden
for_form None test None body = refl
for_form None test (Some step) body = refl
for_form (Some init) test None body = refl
for_form (Some init) test (Some step) body = refl

-- the row of a list has the items of the list
pub listed_row : (body : List TStmt) → listed (hidden-the_row-TStmt-0 body) ≡ body
unfolding shape-the_row-TStmt-0 hidden-the_row-TStmt-0 hidden
listed_row [] = refl
listed_row (s ∷ body) = λ i. s ∷ listed_row body i

pub block_form : (body : List TStmt) → code.Block body ≡ Block' _ (hidden-the_row-TStmt-0 body)
block_form body = refl
