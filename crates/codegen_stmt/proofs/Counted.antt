-- The nodes of the forms of statements that code builds.
use Rattle.std.proofs.Common.{◌≡◌, ℕ, zero, suc, ◌+◌, ◌≤◌, ◌<◌, List, [], ◌∷◌, ◌++◌, length, ap, ◌∙◌, arith, take, Some}
use Rattle.std.specs.Prelude.{slice_get}
use Rattle.word_ops.specs.declared.place.Pos.{Pos}
use Rattle.cilk_ast.specs.declared.program.Expr.{Expr}
use Rattle.cilk_ast.specs.declared.program.Stmt as code
use Rattle.cilk_ast.specs.declared.program.Stmt.{Stmt, Nothing, Block', AddTo, Each}
use Rattle.cilk_ast.specs.declared.program.Stmt.TheBlock.{hidden-the_row-Stmt-0}
use Rattle.cilk_ast.specs.Nodes.{expression_nodes, statement_nodes}
use Rattle.cilk_ast.proofs.StatementForms.{if_form, loop_form, block_form, listed_row}
use Rattle.codegen_stmt.proofs.Small.{totals, totals_listed, child_next}

pub nodes_if : (s : Stmt) (test : Expr) (x y : Stmt) → s ≡ code.If test x y → statement_nodes s ≡ suc (expression_nodes test + statement_nodes x + statement_nodes y)
nodes_if s test x y is = let e = ap statement_nodes (is ∙ if_form test x y) in omega arith

pub nodes_loop : (s : Stmt) (test : Expr) (x y : Stmt) → s ≡ code.Loop test x y → statement_nodes s ≡ suc (expression_nodes test + statement_nodes x + statement_nodes y)
nodes_loop s test x y is = let e = ap statement_nodes (is ∙ loop_form test x y) in omega arith

pub nodes_each : (s : Stmt) (at : Pos) (low high : Expr) (g : ℕ) (copies : List ℕ) → s ≡ code.Each at low high g copies → statement_nodes s ≡ suc (expression_nodes low + expression_nodes high + length copies)
nodes_each s at low high g copies is = let e = ap statement_nodes is in omega arith

pub nodes_add : (s : Stmt) (at : Pos) (l e : Expr) → s ≡ code.AddTo at l e → statement_nodes s ≡ suc (expression_nodes l + expression_nodes e)
nodes_add s at l e is = let n = ap statement_nodes is in omega arith

pub nodes_block : (s : Stmt) (body : List Stmt) → s ≡ code.Block body → statement_nodes s ≡ suc (totals body)
nodes_block s body is =
    let e = ap statement_nodes (is ∙ block_form body) in
    let f = ap totals (listed_row body) in
    omega (arith, totals_listed (hidden-the_row-Stmt-0 body))

totals_append : (xs ys : List Stmt) → totals (xs ++ ys) ≡ totals xs + totals ys
totals_append [] ys = omega arith
totals_append (x ∷ xs) ys = omega (arith, totals_append xs ys)

totals_taken : (i : ℕ) (rest : List Stmt) → totals (take i rest) ≤ totals rest
totals_taken zero rest = omega arith
totals_taken (suc i) [] = omega arith
totals_taken (suc i) (s ∷ rest) = omega (arith, totals_taken i rest)

pub totals_next : (body : List Stmt) (i : ℕ) (s : Stmt) → i < length body → slice_get body i ≡ Some s → totals (take i body) + statement_nodes s ≤ totals body
totals_next body i s lt is = let e = ap totals (child_next body i s lt is) in omega (arith, totals_append (take i body) (s ∷ []), totals_taken (i + 1) body)
