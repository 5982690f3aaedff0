-- The first faults of small trees, computed.
use Rattle.std.proofs.Common.{◌≡◌, [], ◌∷◌, refl, codes, Some, None, false}
use Rattle.word_ops.specs.declared.operators.BinaryOp.TheVariants as by
use Rattle.cilk_ast.specs.declared.fault.FaultKind.TheVariants as fault
use Rattle.cilk_ast.specs.declared.kind.Kind.TheVariants as sort
use Rattle.cilk_ast.specs.declared.tree.Tree.{Tree}
use Rattle.cilk_ast.specs.declared.tree.Item.TheVariants as item
use Rattle.cilk_ast.specs.declared.tree.TExpr as code_expr
use Rattle.cilk_ast.specs.declared.tree.TExpr.{TExpr}
use Rattle.cilk_ast.specs.declared.tree.TExpr.TheBlock.{shape-the_row-TExpr-0, hidden-the_row-TExpr-0, shape-the_row-TExpr-1, hidden-the_row-TExpr-1}
use Rattle.cilk_ast.specs.declared.tree.TStmt as code
use Rattle.cilk_ast.specs.declared.tree.TStmt.TheBlock.{shape-the_row-TStmt-0, hidden-the_row-TStmt-0, shape-the_row-TStmt-1, hidden-the_row-TStmt-1}
use Rattle.cilk_ast.specs.declared.tree.TStmt.{TStmt}
use Rattle.cilk_ast.specs.declared.tree.TValue.TheVariants.{Plain}
use Rattle.cilk_model.specs.Checked.{tree_fault}
use Rattle.cilk_model.proofs.TreeSamples.{at, number, variable, local_of, cilk_for, main_file, fault_at}
use denote.Hole.Carrier.{hidden}

-- (no text)
an_empty_file_has_no_main : tree_fault (record { items = []; end = at 1 }) ≡ Some (fault_at 1 fault.NoMain)
an_empty_file_has_no_main = refl

-- long main;
a_global_is_no_main : tree_fault (record { items = item.Global (at 6) (codes "main") sort.Long false ∷ []; end = at 11 }) ≡ Some (fault_at 11 fault.NoMain)
a_global_is_no_main = refl

-- int main() { return 0; }
main_alone_is_good : tree_fault (main_file 25 (code.Return (at 14) (Some (number 21 0)) ∷ [])) ≡ None
unfolding shape-the_row-TStmt-0 hidden-the_row-TStmt-0 shape-the_row-TStmt-1 hidden-the_row-TStmt-1 hidden
main_alone_is_good = refl

-- int main() { return x; }
a_name_is_declared : tree_fault (main_file 25 (code.Return (at 14) (Some (variable 21 (codes "x"))) ∷ [])) ≡ Some (fault_at 21 fault.Unknown)
unfolding shape-the_row-TStmt-0 hidden-the_row-TStmt-0 shape-the_row-TStmt-1 hidden-the_row-TStmt-1 hidden
a_name_is_declared = refl

-- int main() { long *p = 0; return p + p; }
two_addresses_have_no_sum :
    tree_fault (main_file 42 (code.Local (at 20) sort.Ptr (codes "p") (Some (Plain (number 24 0)))
    ∷ code.Return (at 27) (Some (code_expr.Bin (at 36) by.Add (variable 34 (codes "p")) (variable 38 (codes "p")))) ∷ []))
    ≡ Some (fault_at 36 fault.WrongType)
unfolding shape-the_row-TStmt-0 hidden-the_row-TStmt-0 shape-the_row-TStmt-1 hidden-the_row-TStmt-1 shape-the_row-TExpr-0 hidden-the_row-TExpr-0 hidden
two_addresses_have_no_sum = refl

-- int main() { long *p = 0; return p - p; }
but_a_difference :
    tree_fault (main_file 42 (code.Local (at 20) sort.Ptr (codes "p") (Some (Plain (number 24 0)))
    ∷ code.Return (at 27) (Some (code_expr.Bin (at 36) by.Sub (variable 34 (codes "p")) (variable 38 (codes "p")))) ∷ [])) ≡ None
unfolding shape-the_row-TStmt-0 hidden-the_row-TStmt-0 shape-the_row-TStmt-1 hidden-the_row-TStmt-1 shape-the_row-TExpr-0 hidden-the_row-TExpr-0 hidden
but_a_difference = refl

-- int main() { long a; long a; }
a_name_is_declared_once :
    tree_fault (main_file 31 (code.Local (at 19) sort.Long (codes "a") None ∷ code.Local (at 27) sort.Long (codes "a") None ∷ [])) ≡ Some (fault_at 27 fault.Twice)
unfolding shape-the_row-TStmt-0 hidden-the_row-TStmt-0 shape-the_row-TStmt-1 hidden-the_row-TStmt-1 hidden
a_name_is_declared_once = refl

-- int main() { long a; { long a; } }
but_again_in_a_block :
    tree_fault (main_file 35 (code.Local (at 19) sort.Long (codes "a") None ∷ code.Block (code.Local (at 29) sort.Long (codes "a") None ∷ []) ∷ [])) ≡ None
unfolding shape-the_row-TStmt-0 hidden-the_row-TStmt-0 shape-the_row-TStmt-1 hidden-the_row-TStmt-1 hidden
but_again_in_a_block = refl

-- int main() { long a = a; }
a_local_is_not_known_in_its_initial_value :
    tree_fault (main_file 27 (local_of 19 (codes "a") (variable 23 (codes "a")) ∷ [])) ≡ Some (fault_at 23 fault.Unknown)
unfolding shape-the_row-TStmt-0 hidden-the_row-TStmt-0 shape-the_row-TStmt-1 hidden-the_row-TStmt-1 hidden
a_local_is_not_known_in_its_initial_value = refl

-- int main() { 1 = 2; }
a_literal_is_no_place :
    tree_fault (main_file 22 (code.Assign (at 16) (number 14 1) (Plain (number 18 2)) ∷ [])) ≡ Some (fault_at 14 fault.NotAPlace)
unfolding shape-the_row-TStmt-0 hidden-the_row-TStmt-0 shape-the_row-TStmt-1 hidden-the_row-TStmt-1 hidden
a_literal_is_no_place = refl

-- int main() { (y) = 1; }
brackets_leave_a_name_where_it_is :
    tree_fault (main_file 24 (code.Assign (at 18) (code_expr.Paren (at 14) (variable 15 (codes "y"))) (Plain (number 20 1)) ∷ [])) ≡ Some (fault_at 15 fault.Unknown)
unfolding shape-the_row-TStmt-0 hidden-the_row-TStmt-0 shape-the_row-TStmt-1 hidden-the_row-TStmt-1 shape-the_row-TExpr-0 hidden-the_row-TExpr-0 hidden
brackets_leave_a_name_where_it_is = refl

-- int main() { (main) = 1; }
a_function_is_no_variable :
    tree_fault (main_file 27 (code.Assign (at 21) (code_expr.Paren (at 14) (variable 15 (codes "main"))) (Plain (number 23 1)) ∷ [])) ≡ Some (fault_at 15 fault.WrongType)
unfolding shape-the_row-TStmt-0 hidden-the_row-TStmt-0 shape-the_row-TStmt-1 hidden-the_row-TStmt-1 shape-the_row-TExpr-0 hidden-the_row-TExpr-0 hidden
a_function_is_no_variable = refl

-- int main() { cilk_for (long z = 0; z < 3; z++) { .. } return 0; }, with this statement in the body
abbrev loop_file : TStmt → Tree
loop_file body =
    main_file 70 (cilk_for 29 36 43 (codes "z") (number 33 0) (number 40 3) (code.Block (body ∷ [])) ∷ code.Return (at 59) (Some (number 66 0)) ∷ [])

-- z = 1;
the_variable_is_not_assigned : tree_fault (loop_file (code.Assign (at 52) (variable 50 (codes "z")) (Plain (number 54 1)))) ≡ Some (fault_at 50 fault.AssignsOuter)
unfolding shape-the_row-TStmt-0 hidden-the_row-TStmt-0 shape-the_row-TStmt-1 hidden-the_row-TStmt-1 hidden
the_variable_is_not_assigned = refl

-- long z;
but_hidden : tree_fault (loop_file (code.Local (at 55) sort.Long (codes "z") None)) ≡ None
unfolding shape-the_row-TStmt-0 hidden-the_row-TStmt-0 shape-the_row-TStmt-1 hidden-the_row-TStmt-1 hidden
but_hidden = refl

-- break;
no_break_leaves_a_body : tree_fault (loop_file (code.Break (at 50))) ≡ Some (fault_at 50 fault.Escapes)
unfolding shape-the_row-TStmt-0 hidden-the_row-TStmt-0 shape-the_row-TStmt-1 hidden-the_row-TStmt-1 hidden
no_break_leaves_a_body = refl

-- return;
a_return_without_its_value_comes_before_an_escape : tree_fault (loop_file (code.Return (at 50) None)) ≡ Some (fault_at 50 fault.WrongType)
unfolding shape-the_row-TStmt-0 hidden-the_row-TStmt-0 shape-the_row-TStmt-1 hidden-the_row-TStmt-1 hidden
a_return_without_its_value_comes_before_an_escape = refl

-- printf("%d");
a_format_has_no_d : tree_fault (loop_file (code.Eval (code_expr.Print (at 50) (at 57) (codes "%d") []))) ≡ Some (fault_at 57 fault.BadFormat)
unfolding shape-the_row-TStmt-0 hidden-the_row-TStmt-0 shape-the_row-TStmt-1 hidden-the_row-TStmt-1 shape-the_row-TExpr-1 hidden-the_row-TExpr-1 hidden
a_format_has_no_d = refl

-- printf("%ld\n");
a_word_is_missing : tree_fault (loop_file (code.Eval (code_expr.Print (at 50) (at 57) (codes "%ld\\n") []))) ≡ Some (fault_at 50 fault.WrongCount)
unfolding shape-the_row-TStmt-0 hidden-the_row-TStmt-0 shape-the_row-TStmt-1 hidden-the_row-TStmt-1 shape-the_row-TExpr-1 hidden-the_row-TExpr-1 hidden
a_word_is_missing = refl

-- 0[y];, with y unknown
a_literal_0_is_an_address : tree_fault (loop_file (code.Eval (code_expr.Index (at 51) (number 50 0) (variable 52 (codes "y"))))) ≡ Some (fault_at 52 fault.Unknown)
unfolding shape-the_row-TStmt-0 hidden-the_row-TStmt-0 shape-the_row-TStmt-1 hidden-the_row-TStmt-1 shape-the_row-TExpr-0 hidden-the_row-TExpr-0 hidden
a_literal_0_is_an_address = refl
