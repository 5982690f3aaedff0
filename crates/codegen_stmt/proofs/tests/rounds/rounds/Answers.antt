use Rattle.std.proofs.Common.{rules, ◌≡◌, ◌≤◌, ◌^◌, ◌∷◌, [], IfOk, IsTrue, List, pos, true, false, arith, refl, sym, subst}
use Rattle.std.proofs.lemmas.Result.{IfOk-weaker}
use Rattle.word_ops.specs.declared.place.Pos.{Pos}
use Rattle.word_ops.specs.declared.format.Part.TheVariants as part
use Rattle.cilk_ast.specs.declared.program.Expr as code
use Rattle.cilk_ast.specs.declared.program.Expr.{Word, Slot}
use Rattle.cilk_ast.specs.declared.program.Expr.TheBlock.{shape-the_row-Expr-0, hidden-the_row-Expr-0, shape-the_row-Expr-1, hidden-the_row-Expr-1}
use Rattle.cilk_ast.specs.declared.program.Stmt as code_stmt
use Rattle.cilk_ast.specs.declared.program.Stmt.{Store, AddTo, Each, Eval, Nothing}
use Rattle.cilk_ast.specs.declared.program.Stmt.TheBlock.{shape-the_row-Stmt-0, hidden-the_row-Stmt-0, shape-the_row-Stmt-1, hidden-the_row-Stmt-1}
use Rattle.cilk_ast.specs.declared.program.Function.{Function}
use Rattle.cilk_ast.specs.Kept.{keeps}
use Rattle.cilk_ast.specs.Nodes.{node_count}
use Rattle.codegen_stmt.proofs.tests.rounds.rounds.Goals as goal
use denote.Hole.Carrier.{hidden}

abbrev at : Pos
at = record { line = 1; column = 1 }

abbrev functions : List Function
functions =
    record { name = []; params = 0; slots = 1; spawns = true; body = Each at (Word (pos 0)) (Word (pos 3)) 1 (0 ∷ []) }
    ∷ record {
      name = [];
      params = 2;
      slots = 2;
      spawns = false;
      body = code_stmt.Block (Store at (Slot 1) (Slot 0) ∷ AddTo at (Slot 1) (Slot 0) ∷ Eval (code.Print (part.Long ∷ []) (Slot 0 ∷ [])) ∷ code_stmt.If (Slot 0) Nothing Nothing ∷ []);
    } ∷ []

kept : IsTrue (keeps functions 0)
unfolding shape-the_row-Stmt-0 hidden-the_row-Stmt-0 shape-the_row-Stmt-1 hidden-the_row-Stmt-1 shape-the_row-Expr-0 hidden-the_row-Expr-0 shape-the_row-Expr-1 hidden-the_row-Expr-1 hidden
kept = refl

small : node_count functions ≤ 2 ^ 28
unfolding shape-the_row-Stmt-0 hidden-the_row-Stmt-0 shape-the_row-Stmt-1 hidden-the_row-Stmt-1 shape-the_row-Expr-0 hidden-the_row-Expr-0 shape-the_row-Expr-1 hidden-the_row-Expr-1 hidden
small = omega arith

pub returns-clause-kept : goal.returns-clause-kept
returns-clause-kept c =
    let is : IfOk c.list-2.result (λ l. l ≡ functions) = search rules in
    IfOk-weaker c.list-2.result (λ l. l ≡ functions) (λ l. IsTrue (keeps l 0)) (λ l e. subst (λ fs. IsTrue (keeps fs 0)) (sym e) kept) is

pub returns-clause-small : goal.returns-clause-small
returns-clause-small c =
    let is : IfOk c.list-2.result (λ l. l ≡ functions) = search rules in
    IfOk-weaker c.list-2.result (λ l. l ≡ functions) (λ l. node_count l ≤ 2 ^ 28) (λ l e. subst (λ fs. node_count fs ≤ 2 ^ 28) (sym e) small) is
