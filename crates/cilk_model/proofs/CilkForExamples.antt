-- `cilk_for`, computed.
use Rattle.std.proofs.Common.{◌≡◌, List, [], ◌∷◌, ◌++◌, ◌*◌, ◌+◌, refl, pos, true, false, Some, None, codes, replicate}
use Rattle.std.specs.Fmt.{digits}
use Rattle.std.specs.List.{flat_map}
use Rattle.word_ops.specs.Report.{below}
use Rattle.word_ops.specs.declared.operators.BinaryOp.TheVariants as by
use Rattle.mem_atomics.specs.declared.op.Op.TheVariants as op
use Rattle.cilk_ast.specs.declared.builtin.Builtin.TheVariants as built
use Rattle.cilk_ast.specs.declared.program.Expr as code
use Rattle.cilk_ast.specs.declared.program.Expr.TheBlock.{shape-the_row-Expr-0, hidden-the_row-Expr-0, shape-the_row-Expr-1, hidden-the_row-Expr-1}
use Rattle.cilk_ast.specs.declared.program.Expr.{Expr, Slot, Fence}
use Rattle.cilk_ast.specs.declared.program.Stmt as code_stmt
use Rattle.cilk_ast.specs.declared.program.Stmt.{Stmt, Nothing, Eval, Set, Store, AddTo, Spawn, Each, Break, Continue, Return, Sync}
use Rattle.cilk_ast.specs.declared.program.Stmt.TheBlock.{shape-the_row-Stmt-0, hidden-the_row-Stmt-0, shape-the_row-Stmt-1, hidden-the_row-Stmt-1}
use Rattle.cilk_ast.specs.declared.program.Function.{Function}
use Rattle.world_model.specs.Action as act
use Rattle.world_model.specs.Action.{Answers}
use Rattle.cilk_model.specs.Acts.{acts}
use Rattle.cilk_model.proofs.Samples.{at, word, function, word_line, no_word, add, one_word}
use denote.Hole.Carrier.{hidden}

-- a[i], with a in the second slot and i in the first
abbrev element : Expr
element = add (Slot 1) (Slot 0)

-- the body a[i] = i * 10
abbrev tens : Function
tens = function 2 2 false (Store (at 75) element (code.Bin (at 84) by.Mul (Slot 0) (word 10)) ∷ [])

-- int main() { long *a = mw_malloc1dlong(8); cilk_for (long i = 0; i < 8; i++) { a[i] = i * 10; }
-- long s = 0; for (long i = 0; i < 8; i++) { s += a[i]; } printf("%ld\n", s); return 0; }
abbrev main : Function
main = function 0 3 true
    (Set 0 (code.Alloc (at 23) built.MwMalloc1dlong (word 8 ∷ [])) ∷ Each (at 44) (word 0) (word 8) 1 (0 ∷ []) ∷ Set 1 (word 0) ∷ Set 2 (word 0)
    ∷ code_stmt.Loop (code.Bin (at 1) by.Lt (Slot 2) (word 8)) (Set 2 (add (Slot 2) (word 1)))
    (Set 1 (add (Slot 1) (code.Load (at 144) (add (Slot 0) (Slot 2)))))
    ∷ Eval (code.Print word_line (Slot 1 ∷ [])) ∷ Return (word 0) ∷ [])

-- a begins at 8; the children answer 0; the loop reads the tens
abbrev answers : Answers
answers =
    no_word ∷ one_word 8 ∷ replicate 17 no_word ++ replicate 8 (pos 0) ∷ []
    ++ flat_map (λ i. no_word ∷ one_word (i * 10) ∷ []) (below 8) ++ replicate 3 no_word

a_cilk_for_spawns_its_body_for_each_number_and_syncs_once : acts (main ∷ tens ∷ []) 0 [] answers
    ≡ act.Turn ∷ act.Alloc (act.Striped (pos 8)) ∷ flat_map (λ i. act.Turn ∷ act.Spawn 1 1 (pos i ∷ pos 8 ∷ []) None ∷ []) (below 8)
    ++ act.Turn ∷ act.Sync 1 ∷ flat_map (λ i. act.Turn ∷ act.Load (at 144) (pos (8 + i)) ∷ []) (below 8)
    ++ act.Turn ∷ act.Print (codes "280\n") ∷ act.Sync 1 ∷ act.End (pos 0) ∷ []
unfolding digits shape-the_row-Stmt-0 hidden-the_row-Stmt-0 shape-the_row-Stmt-1 hidden-the_row-Stmt-1 shape-the_row-Expr-0 hidden-the_row-Expr-0 shape-the_row-Expr-1 hidden-the_row-Expr-1 hidden
a_cilk_for_spawns_its_body_for_each_number_and_syncs_once = refl

its_body_stores_at_the_copied_address : acts (main ∷ tens ∷ []) 1 (pos 3 ∷ pos 8 ∷ []) (no_word ∷ no_word ∷ []) ≡ act.Turn ∷ act.Issue (at 75) op.Store (pos 11) (pos 30) ∷ act.End (pos 0) ∷ []
unfolding digits shape-the_row-Stmt-0 hidden-the_row-Stmt-0 shape-the_row-Stmt-1 hidden-the_row-Stmt-1 shape-the_row-Expr-0 hidden-the_row-Expr-0 shape-the_row-Expr-1 hidden-the_row-Expr-1 hidden
its_body_stores_at_the_copied_address = refl

-- x = cilk_spawn one(1); cilk_for (long i = low; i < high; i++) { } return x;
abbrev joins_all : Expr → Expr → List Function
joins_all low high = function 0 1 true (Spawn (at 1) (Some 0) 1 None (word 1 ∷ []) ∷ Each (at 2) low high 2 [] ∷ Return (Slot 0) ∷ [])
    ∷ function 1 1 false (Return (Slot 0) ∷ []) ∷ function 1 1 false [] ∷ []

an_empty_cilk_for_has_one_test_and_joins_earlier_children : acts (joins_all (word 5) (word 5)) 0 [] (no_word ∷ no_word ∷ no_word ∷ one_word 9 ∷ no_word ∷ [])
    ≡ act.Turn ∷ act.Spawn 1 1 (pos 1 ∷ []) None ∷ act.Turn ∷ act.Sync 1 ∷ act.Sync 1 ∷ act.End (pos 9) ∷ []
unfolding digits shape-the_row-Stmt-0 hidden-the_row-Stmt-0 shape-the_row-Stmt-1 hidden-the_row-Stmt-1 shape-the_row-Expr-0 hidden-the_row-Expr-0 shape-the_row-Expr-1 hidden-the_row-Expr-1 hidden
an_empty_cilk_for_has_one_test_and_joins_earlier_children = refl

its_own_children_have_no_target : acts (joins_all (word 0) (word 1)) 0 [] (no_word ∷ no_word ∷ no_word ∷ no_word ∷ no_word ∷ (pos 9 ∷ pos 4 ∷ []) ∷ no_word ∷ [])
    ≡ act.Turn ∷ act.Spawn 1 1 (pos 1 ∷ []) None ∷ act.Turn ∷ act.Spawn 1 2 (pos 0 ∷ []) None ∷ act.Turn ∷ act.Sync 1 ∷ act.Sync 1 ∷ act.End (pos 9) ∷ []
unfolding digits shape-the_row-Stmt-0 hidden-the_row-Stmt-0 shape-the_row-Stmt-1 hidden-the_row-Stmt-1 shape-the_row-Expr-0 hidden-the_row-Expr-0 shape-the_row-Expr-1 hidden-the_row-Expr-1 hidden
its_own_children_have_no_target = refl

its_bounds_are_evaluated_once_from_left_to_right : acts (joins_all (code.Load (at 6) (word 100)) (code.Load (at 7) (word 101))) 0 [] (no_word ∷ no_word ∷ one_word 4 ∷ one_word 5 ∷ no_word ∷ no_word ∷ no_word ∷ [])
    ≡ act.Turn ∷ act.Spawn 1 1 (pos 1 ∷ []) None ∷ act.Load (at 6) (pos 100) ∷ act.Load (at 7) (pos 101) ∷ act.Turn ∷ act.Spawn 1 2 (pos 4 ∷ []) None ∷ act.Turn ∷ act.Sync 1 ∷ []
unfolding digits shape-the_row-Stmt-0 hidden-the_row-Stmt-0 shape-the_row-Stmt-1 hidden-the_row-Stmt-1 shape-the_row-Expr-0 hidden-the_row-Expr-0 shape-the_row-Expr-1 hidden-the_row-Expr-1 hidden
its_bounds_are_evaluated_once_from_left_to_right = refl
