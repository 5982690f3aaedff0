-- The program of a small tree, computed.
use Rattle.std.proofs.Common.{◌≡◌, [], ◌∷◌, refl, codes, pos, Some, None, true, false}
use Rattle.word_ops.specs.declared.operators.BinaryOp.TheVariants as by
use Rattle.cilk_ast.specs.declared.builtin.Builtin.TheVariants as built
use Rattle.cilk_ast.specs.declared.kind.Kind.TheVariants as sort
use Rattle.cilk_ast.specs.declared.tree.Tree.{Tree}
use Rattle.cilk_ast.specs.declared.tree.TExpr as code_expr
use Rattle.cilk_ast.specs.declared.tree.TExpr.TheBlock.{shape-the_row-TExpr-0, hidden-the_row-TExpr-0, shape-the_row-TExpr-1, hidden-the_row-TExpr-1}
use Rattle.cilk_ast.specs.declared.tree.TStmt as code
use Rattle.cilk_ast.specs.declared.tree.TStmt.TheBlock.{shape-the_row-TStmt-0, hidden-the_row-TStmt-0, shape-the_row-TStmt-1, hidden-the_row-TStmt-1}
use Rattle.cilk_ast.specs.declared.tree.TValue.TheVariants.{Plain}
use Rattle.cilk_ast.specs.declared.program.Expr as program_expr
use Rattle.cilk_ast.specs.declared.program.Expr.{Expr, Word, Slot}
use Rattle.cilk_ast.specs.declared.program.Expr.TheBlock.{shape-the_row-Expr-0, hidden-the_row-Expr-0, shape-the_row-Expr-1, hidden-the_row-Expr-1}
use Rattle.cilk_ast.specs.declared.program.Stmt as program
use Rattle.cilk_ast.specs.declared.program.Stmt.TheBlock.{shape-the_row-Stmt-0, hidden-the_row-Stmt-0, shape-the_row-Stmt-1, hidden-the_row-Stmt-1}
use Rattle.cilk_model.specs.Checked.{tree_fault}
use Rattle.cilk_model.specs.Lowering.{lower}
use Rattle.cilk_model.proofs.TreeSamples.{at, number, variable, cilk_for, main_file}
use denote.Hole.Carrier.{hidden}

-- int main() { long *a = mw_malloc1dlong(8); cilk_for (long i = 0; i < 8; i++) { a[i] = i * 10; } return 0; }
abbrev tens : Tree
tens =
    main_file 107
    (code.Local (at 20) sort.Ptr (codes "a") (Some (Plain (code_expr.Builtin (at 24) built.MwMalloc1dlong (number 40 8 ∷ []))))
    ∷ cilk_for 59 66 73 (codes "i") (number 63 0) (number 70 8)
    (code.Block
    (code.Assign (at 85) (code_expr.Index (at 81) (variable 80 (codes "a")) (variable 82 (codes "i")))
    (Plain (code_expr.Bin (at 89) by.Mul (variable 87 (codes "i")) (number 91 10))) ∷ []))
    ∷ code.Return (at 97) (Some (number 104 0)) ∷ [])

it_has_no_fault : tree_fault tens ≡ None
unfolding shape-the_row-TStmt-0 hidden-the_row-TStmt-0 shape-the_row-TStmt-1 hidden-the_row-TStmt-1 shape-the_row-TExpr-0 hidden-the_row-TExpr-0 shape-the_row-TExpr-1 hidden-the_row-TExpr-1 hidden
it_has_no_fault = refl

-- main has one slot; the body has its variable, and behind it the copy of a
its_body_is_a_function : lower tens ≡ record {
  functions =
      record {
        name = codes "main";
        params = 0;
        slots = 1;
        spawns = true;
        body =
            program.Block
            (program.Set 0 (program_expr.Alloc (at 24) built.MwMalloc1dlong (Word (pos 8) ∷ []))
            ∷ program.Each (at 59) (Word (pos 0)) (Word (pos 8)) 1 (0 ∷ []) ∷ program.Return (Word (pos 0)) ∷ []);
      }
      ∷ record {
        name = codes "main";
        params = 2;
        slots = 2;
        spawns = false;
        body =
            program.Block
            (program.Store (at 81) (program_expr.Bin (at 81) by.Add (Slot 1) (Slot 0)) (program_expr.Bin (at 89) by.Mul (Slot 0) (Word (pos 10))) ∷ []);
      }
      ∷ [];
  main = 0;
  globals = 0;
  replicated = 0;
}
unfolding shape-the_row-TStmt-0 hidden-the_row-TStmt-0 shape-the_row-TStmt-1 hidden-the_row-TStmt-1 shape-the_row-TExpr-0 hidden-the_row-TExpr-0 shape-the_row-TExpr-1 hidden-the_row-TExpr-1 shape-the_row-Stmt-0 hidden-the_row-Stmt-0 shape-the_row-Stmt-1 hidden-the_row-Stmt-1 shape-the_row-Expr-0 hidden-the_row-Expr-0 shape-the_row-Expr-1 hidden-the_row-Expr-1 hidden
its_body_is_a_function = refl
