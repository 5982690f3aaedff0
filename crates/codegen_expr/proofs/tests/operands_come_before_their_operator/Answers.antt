use Rattle.std.proofs.Common.{◌≡◌, ◌≤◌, ◌∙◌, ap, sym, subst, arith, pos}
use Rattle.word_ops.specs.declared.place.Pos.{Pos}
use Rattle.word_ops.specs.declared.operators.BinaryOp.TheVariants as by
use Rattle.cilk_ast.specs.declared.program.Expr as code
use Rattle.cilk_ast.specs.declared.program.Expr.{Word, Slot}
use Rattle.cilk_ast.specs.declared.program.Expr.TheBlock.{shape-the_row-Expr-0, hidden-the_row-Expr-0, shape-the_row-Expr-1, hidden-the_row-Expr-1}
use Rattle.cilk_ast.specs.Nodes.{expression_nodes}
use Rattle.codegen_expr.proofs.tests.operands_come_before_their_operator.Goals as goal
use denote.Hole.Carrier.{hidden}

abbrev at : Pos
at = record { line = 1; column = 1 }

small : expression_nodes (code.Bin at by.Add (Word (pos 1)) (code.Bin at by.Mul (Word (pos 2)) (Slot 0))) ≤ 5
unfolding shape-the_row-Expr-0 hidden-the_row-Expr-0 shape-the_row-Expr-1 hidden-the_row-Expr-1 hidden
small = omega arith

pub drafted-requires : goal.drafted-requires
drafted-requires g c = subst (λ e. expression_nodes e ≤ 5) (sym (c.in_ok-e.ensures ∙ ap (code.Bin at by.Add (Word (pos 1))) c.in_ok-product.ensures)) small

pub measure-requires : goal.measure-requires
measure-requires g c =
    let le = subst (λ e. expression_nodes e ≤ 5) (sym (c.in_ok-e.ensures ∙ ap (code.Bin at by.Add (Word (pos 1))) c.in_ok-product.ensures)) small in omega arith
