-- Marks and words of small trees, counted by hand.
use Rattle.std.proofs.Common.{◌≡◌, [], ◌∷◌, codes, refl}
use Rattle.cilk_ast.specs.declared.tree.TExpr as expr
use Rattle.cilk_ast.specs.declared.tree.TExpr.TheBlock.{shape-the_row-TExpr-0, hidden-the_row-TExpr-0, shape-the_row-TExpr-1, hidden-the_row-TExpr-1}
use Rattle.cilk_ast.specs.declared.tree.TStmt.TheBlock.{shape-the_row-TStmt-0, hidden-the_row-TStmt-0, shape-the_row-TStmt-1, hidden-the_row-TStmt-1}
use Rattle.cilk_ast.specs.declared.tree.TStmt.{Empty}
use Rattle.cilk_model.proofs.TreeSamples.{at, number, variable, cilk_for, main_file}
use Rattle.cilk_types.specs.Marks.{marks_of, marks_in, marks_from}
use denote.Hole.Carrier.{hidden}

-- `int main() { }`
an_empty_main_has_six : marks_from (main_file 15 []).items ≡ 6
unfolding shape-the_row-TStmt-0 hidden-the_row-TStmt-0 hidden
an_empty_main_has_six = refl

-- `f(1, 2)`, without its comma
a_call_counts_its_brackets : marks_of (expr.Call (at 1) (codes "f") (number 3 1 ∷ number 6 2 ∷ [])) ≡ 5
unfolding shape-the_row-TExpr-1 hidden-the_row-TExpr-1 hidden
a_call_counts_its_brackets = refl

-- `p[i]`
an_index_counts_its_brackets : marks_of (expr.Index (at 2) (variable 1 (codes "p")) (variable 3 (codes "i"))) ≡ 4
unfolding shape-the_row-TExpr-0 hidden-the_row-TExpr-0 hidden
an_index_counts_its_brackets = refl

-- `cilk_for (long i = 0; i < 4; i++) ;`
a_cilk_for_counts_its_head : marks_in (cilk_for 16 23 30 (codes "i") (number 20 0) (number 27 4) Empty) ≡ 15
unfolding shape-the_row-TStmt-1 hidden-the_row-TStmt-1 hidden
a_cilk_for_counts_its_head = refl
