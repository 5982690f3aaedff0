-- The forms of a program's statements that code builds are those that definitions match, as in
-- ExpressionForms.
use Rattle.std.proofs.Common.{◌≡◌, List, [], ◌∷◌, refl}
use Rattle.cilk_ast.specs.declared.program.Expr.{Expr}
use Rattle.cilk_ast.specs.declared.program.Stmt as code
use Rattle.cilk_ast.specs.declared.program.Stmt.TheBlock.{shape-the_row-Stmt-0, hidden-the_row-Stmt-0, shape-the_row-Stmt-1, hidden-the_row-Stmt-1}
use Rattle.cilk_ast.specs.declared.program.Stmt.{Stmt, Block'}
use Rattle.cilk_ast.specs.Statement.{If, Loop, listed}
use denote.Hole.Carrier.{hidden}

pub if_form : (test : Expr) (yes_ no_ : Stmt) → code.If test yes_ no_ ≡ If test yes_ no_
unfolding shape-the_row-Stmt-1 hidden-the_row-Stmt-1 hidden
if_form test yes_ no_ = refl

pub loop_form : (test : Expr) (step body : Stmt) → code.Loop test step body ≡ Loop test step body
unfolding shape-the_row-Stmt-1 hidden-the_row-Stmt-1 hidden
loop_form test step body = refl

-- the row of a list has the items of the list
pub listed_row : (body : List Stmt) → listed (hidden-the_row-Stmt-0 body) ≡ body
unfolding shape-the_row-Stmt-0 hidden-the_row-Stmt-0 hidden
listed_row [] = refl
listed_row (s ∷ body) = λ i. s ∷ listed_row body i

pub block_form : (body : List Stmt) → code.Block body ≡ Block' _ (hidden-the_row-Stmt-0 body)
block_form body = refl
