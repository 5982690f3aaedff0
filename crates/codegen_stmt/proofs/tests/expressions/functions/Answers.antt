use Rattle.std.proofs.Common.{rules, ◌≡◌, ◌≤◌, ◌^◌, ◌∷◌, [], ℕ, IfOk, IsTrue, List, pos, false, arith, refl, sym, subst}
use Rattle.std.proofs.lemmas.Result.{IfOk-weaker}
use Rattle.word_ops.specs.declared.place.Pos.{Pos}
use Rattle.word_ops.specs.declared.operators.UnaryOp.TheVariants as by_one
use Rattle.mem_atomics.specs.declared.op.Op.TheVariants as op
use Rattle.cilk_ast.specs.declared.builtin.Builtin.TheVariants as built
use Rattle.cilk_ast.specs.declared.program.Expr as code
use Rattle.cilk_ast.specs.declared.program.Expr.{Expr, Word, Slot, Fence, Where}
use Rattle.cilk_ast.specs.declared.program.Expr.TheBlock.{shape-the_row-Expr-0, hidden-the_row-Expr-0, shape-the_row-Expr-1, hidden-the_row-Expr-1}
use Rattle.cilk_ast.specs.declared.program.Stmt as code_stmt
use Rattle.cilk_ast.specs.declared.program.Stmt.{Eval}
use Rattle.cilk_ast.specs.declared.program.Stmt.TheBlock.{shape-the_row-Stmt-0, hidden-the_row-Stmt-0, shape-the_row-Stmt-1, hidden-the_row-Stmt-1}
use Rattle.cilk_ast.specs.declared.program.Function.{Function}
use Rattle.cilk_ast.specs.Kept.{keeps}
use Rattle.cilk_ast.specs.Nodes.{node_count}
use Rattle.codegen_stmt.proofs.tests.expressions.functions.Goals as goal
use denote.Hole.Carrier.{hidden}

abbrev at : Pos
at = record { line = 1; column = 1 }

-- A function of two slots that evaluates these.
abbrev evaluating : ℕ → List Expr → Function
evaluating params es = record { name = []; params = params; slots = 2; spawns = false; body = code_stmt.Block (evaluated es) }
  where
    evaluated : List Expr → List code_stmt.Stmt
    evaluated [] = []
    evaluated (e ∷ es) = Eval e ∷ evaluated es

abbrev functions : List Function
functions =
    evaluating 0 (code.Un at by_one.Neg (Slot 0) ∷ code.Both at (Slot 0) (Slot 1) ∷ code.Either at (Slot 0) (Slot 1) ∷ [])
    ∷ evaluating 2 (code.Add at (Slot 0) (Slot 1) ∷ code.Swap at (Slot 0) (Slot 1) ∷ code.Cas at (Slot 0) (Slot 1) (Slot 0) ∷ code.Load at (Slot 0) ∷ [])
    ∷ evaluating 2 (code.Post at op.Max (Slot 0) (Slot 1) ∷ code.Init at (Slot 0) (Slot 1) ∷ code.Move at (Slot 0) ∷ Fence ∷ Where ∷ [])
    ∷ evaluating 2 (code.Alloc at built.MwLocalmalloc (Word (pos 8) ∷ Slot 0 ∷ []) ∷ code.Call at 1 (Slot 1 ∷ Word (pos 9) ∷ []) ∷ [])
    ∷ []

kept : IsTrue (keeps functions 0)
unfolding shape-the_row-Stmt-0 hidden-the_row-Stmt-0 shape-the_row-Stmt-1 hidden-the_row-Stmt-1 shape-the_row-Expr-0 hidden-the_row-Expr-0 shape-the_row-Expr-1 hidden-the_row-Expr-1 hidden
kept = refl

small : node_count functions ≤ 2 ^ 28
unfolding shape-the_row-Stmt-0 hidden-the_row-Stmt-0 shape-the_row-Stmt-1 hidden-the_row-Stmt-1 shape-the_row-Expr-0 hidden-the_row-Expr-0 shape-the_row-Expr-1 hidden-the_row-Expr-1 hidden
small = omega arith

pub returns-clause-kept : goal.returns-clause-kept
returns-clause-kept c =
    let is : IfOk c.list.result (λ l. l ≡ functions) = search rules in
    IfOk-weaker c.list.result (λ l. l ≡ functions) (λ l. IsTrue (keeps l 0)) (λ l e. subst (λ fs. IsTrue (keeps fs 0)) (sym e) kept) is

pub returns-clause-small : goal.returns-clause-small
returns-clause-small c =
    let is : IfOk c.list.result (λ l. l ≡ functions) = search rules in
    IfOk-weaker c.list.result (λ l. l ≡ functions) (λ l. node_count l ≤ 2 ^ 28) (λ l e. subst (λ fs. node_count fs ≤ 2 ^ 28) (sym e) small) is
