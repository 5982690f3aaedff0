use Rattle.std.proofs.Common.{rules, ◌≡◌, ◌≤◌, ◌^◌, ◌∷◌, [], IfOk, IsTrue, List, pos, true, false, Some, None, arith, refl, sym, subst}
use Rattle.std.proofs.lemmas.Result.{IfOk-weaker}
use Rattle.word_ops.specs.declared.place.Pos.{Pos}
use Rattle.word_ops.specs.declared.format.Part.TheVariants.{Byte, Long}
use Rattle.word_ops.specs.declared.operators.BinaryOp.TheVariants as by
use Rattle.cilk_ast.specs.declared.program.Expr as code
use Rattle.cilk_ast.specs.declared.program.Expr.{Word, Slot}
use Rattle.cilk_ast.specs.declared.program.Expr.TheBlock.{shape-the_row-Expr-0, hidden-the_row-Expr-0, shape-the_row-Expr-1, hidden-the_row-Expr-1}
use Rattle.cilk_ast.specs.declared.program.Stmt as code_stmt
use Rattle.cilk_ast.specs.declared.program.Stmt.{Eval, Nothing, Set, Spawn, Return, Sync}
use Rattle.cilk_ast.specs.declared.program.Stmt.TheBlock.{shape-the_row-Stmt-0, hidden-the_row-Stmt-0, shape-the_row-Stmt-1, hidden-the_row-Stmt-1}
use Rattle.cilk_ast.specs.declared.program.Function.{Function}
use Rattle.cilk_ast.specs.Kept.{keeps}
use Rattle.cilk_ast.specs.Nodes.{node_count}
use Rattle.slot_allot.proofs.tests.functions.Goals as goal
use denote.Hole.Carrier.{hidden}

abbrev at : Pos
at = record { line = 1; column = 1 }

abbrev fib : Function
fib = record {
  name = [];
  params = 1;
  slots = 3;
  spawns = true;
  body = code_stmt.Block
      (code_stmt.If (code.Bin at by.Lt (Slot 0) (Word (pos 2))) (Return (Slot 0)) Nothing
      ∷ Set 1 (Word (pos 0)) ∷ Spawn at (Some 1) 0 None (code.Bin at by.Sub (Slot 0) (Word (pos 1)) ∷ [])
      ∷ Set 2 (code.Call at 0 (code.Bin at by.Sub (Slot 0) (Word (pos 2)) ∷ [])) ∷ Sync ∷ Return (code.Bin at by.Add (Slot 1) (Slot 2)) ∷ []);
}

abbrev functions : List Function
functions =
    fib ∷ record {
      name = [];
      params = 0;
      slots = 0;
      spawns = false;
      body = code_stmt.Block (Eval (code.Print (Long ∷ Byte 10 ∷ []) (code.Call at 0 (Word (pos 10) ∷ []) ∷ [])) ∷ Return (Word (pos 0)) ∷ []);
    } ∷ []

kept : IsTrue (keeps functions 1)
unfolding shape-the_row-Stmt-0 hidden-the_row-Stmt-0 shape-the_row-Stmt-1 hidden-the_row-Stmt-1 shape-the_row-Expr-0 hidden-the_row-Expr-0 shape-the_row-Expr-1 hidden-the_row-Expr-1 hidden
kept = refl

small : node_count functions ≤ 2 ^ 28
unfolding shape-the_row-Stmt-0 hidden-the_row-Stmt-0 shape-the_row-Stmt-1 hidden-the_row-Stmt-1 shape-the_row-Expr-0 hidden-the_row-Expr-0 shape-the_row-Expr-1 hidden-the_row-Expr-1 hidden
small = omega arith

pub returns-clause-kept : goal.returns-clause-kept
returns-clause-kept c =
    let is : IfOk c.both.result (λ l. l ≡ functions) = search rules in
    IfOk-weaker c.both.result (λ l. l ≡ functions) (λ l. IsTrue (keeps l 1)) (λ l e. subst (λ fs. IsTrue (keeps fs 1)) (sym e) kept) is

pub returns-clause-small : goal.returns-clause-small
returns-clause-small c =
    let is : IfOk c.both.result (λ l. l ≡ functions) = search rules in
    IfOk-weaker c.both.result (λ l. l ≡ functions) (λ l. node_count l ≤ 2 ^ 28) (λ l e. subst (λ fs. node_count fs ≤ 2 ^ 28) (sym e) small) is
