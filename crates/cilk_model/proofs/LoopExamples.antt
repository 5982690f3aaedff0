-- Loops, computed.
use Rattle.std.proofs.Common.{◌≡◌, ℕ, List, [], ◌∷◌, refl, pos, false, codes, replicate}
use Rattle.std.specs.Fmt.{digits}
use Rattle.word_ops.specs.declared.operators.BinaryOp.TheVariants as by
use Rattle.cilk_ast.specs.declared.program.Expr as code
use Rattle.cilk_ast.specs.declared.program.Expr.TheBlock.{shape-the_row-Expr-0, hidden-the_row-Expr-0, shape-the_row-Expr-1, hidden-the_row-Expr-1}
use Rattle.cilk_ast.specs.declared.program.Expr.{Expr, Slot, Fence}
use Rattle.cilk_ast.specs.declared.program.Stmt as code_stmt
use Rattle.cilk_ast.specs.declared.program.Stmt.{Stmt, Nothing, Eval, Set, Store, AddTo, Spawn, Each, Break, Continue, Return, Sync}
use Rattle.cilk_ast.specs.declared.program.Stmt.TheBlock.{shape-the_row-Stmt-0, hidden-the_row-Stmt-0, shape-the_row-Stmt-1, hidden-the_row-Stmt-1}
use Rattle.cilk_ast.specs.declared.program.Function.{Function}
use Rattle.world_model.specs.Action as act
use Rattle.world_model.specs.Action.{Answers}
use Rattle.cilk_model.specs.Acts.{acts}
use Rattle.cilk_model.proofs.Samples.{at, word, function, word_line, no_word, add}
use denote.Hole.Carrier.{hidden}

-- slot 0 is under n
abbrev under : ℕ → Expr
under n = code.Bin (at 1) by.Lt (Slot 0) (word n)

-- one more in slot 0
abbrev step : Stmt
step = Set 0 (add (Slot 0) (word 1))

abbrev print_slot : Stmt
print_slot = Eval (code.Print word_line (Slot 0 ∷ []))

-- for (long i = 0; i < n; i++) body
abbrev loops : ℕ → Stmt → List Function
loops n body = function 0 1 false (Set 0 (word 0) ∷ code_stmt.Loop (under n) step body ∷ Return (Slot 0) ∷ []) ∷ []

three_rounds_have_four_tests : acts (loops 3 Nothing) 0 [] (replicate 9 no_word) ≡ act.Turn ∷ act.Turn ∷ act.Turn ∷ act.Turn ∷ act.Turn ∷ act.End (pos 3) ∷ []
unfolding digits shape-the_row-Stmt-0 hidden-the_row-Stmt-0 shape-the_row-Stmt-1 hidden-the_row-Stmt-1 shape-the_row-Expr-0 hidden-the_row-Expr-0 shape-the_row-Expr-1 hidden-the_row-Expr-1 hidden
three_rounds_have_four_tests = refl

a_round_prints_before_its_step : acts (loops 2 print_slot) 0 [] (replicate 9 no_word)
    ≡ act.Turn ∷ act.Turn ∷ act.Print (codes "0\n") ∷ act.Turn ∷ act.Print (codes "1\n") ∷ act.Turn ∷ act.End (pos 2) ∷ []
unfolding digits shape-the_row-Stmt-0 hidden-the_row-Stmt-0 shape-the_row-Stmt-1 hidden-the_row-Stmt-1 shape-the_row-Expr-0 hidden-the_row-Expr-0 shape-the_row-Expr-1 hidden-the_row-Expr-1 hidden
a_round_prints_before_its_step = refl

a_continued_round_still_steps : acts (loops 2 (code_stmt.Block (Continue ∷ print_slot ∷ []))) 0 [] (replicate 9 no_word) ≡ act.Turn ∷ act.Turn ∷ act.Turn ∷ act.Turn ∷ act.End (pos 2) ∷ []
unfolding digits shape-the_row-Stmt-0 hidden-the_row-Stmt-0 shape-the_row-Stmt-1 hidden-the_row-Stmt-1 shape-the_row-Expr-0 hidden-the_row-Expr-0 shape-the_row-Expr-1 hidden-the_row-Expr-1 hidden
a_continued_round_still_steps = refl

a_break_leaves_without_a_step : acts (loops 2 (code_stmt.Block (print_slot ∷ Break ∷ print_slot ∷ []))) 0 [] (replicate 9 no_word) ≡ act.Turn ∷ act.Turn ∷ act.Print (codes "0\n") ∷ act.End (pos 0) ∷ []
unfolding digits shape-the_row-Stmt-0 hidden-the_row-Stmt-0 shape-the_row-Stmt-1 hidden-the_row-Stmt-1 shape-the_row-Expr-0 hidden-the_row-Expr-0 shape-the_row-Expr-1 hidden-the_row-Expr-1 hidden
a_break_leaves_without_a_step = refl

a_break_leaves_the_inner_loop_alone : acts (loops 1 (code_stmt.Loop (word 1) Nothing (code_stmt.If (word 1) Break Nothing))) 0 [] (replicate 9 no_word)
    ≡ act.Turn ∷ act.Turn ∷ act.Turn ∷ act.Turn ∷ act.End (pos 1) ∷ []
unfolding digits shape-the_row-Stmt-0 hidden-the_row-Stmt-0 shape-the_row-Stmt-1 hidden-the_row-Stmt-1 shape-the_row-Expr-0 hidden-the_row-Expr-0 shape-the_row-Expr-1 hidden-the_row-Expr-1 hidden
a_break_leaves_the_inner_loop_alone = refl

a_return_leaves_every_loop : acts (loops 5 (Return (word 7))) 0 [] (replicate 9 no_word) ≡ act.Turn ∷ act.Turn ∷ act.End (pos 7) ∷ []
unfolding digits shape-the_row-Stmt-0 hidden-the_row-Stmt-0 shape-the_row-Stmt-1 hidden-the_row-Stmt-1 shape-the_row-Expr-0 hidden-the_row-Expr-0 shape-the_row-Expr-1 hidden-the_row-Expr-1 hidden
a_return_leaves_every_loop = refl

a_branch_that_is_not_taken_does_nothing : acts (loops 1 (code_stmt.If (Slot 0) print_slot Nothing)) 0 [] (replicate 9 no_word) ≡ act.Turn ∷ act.Turn ∷ act.Turn ∷ act.End (pos 1) ∷ []
unfolding digits shape-the_row-Stmt-0 hidden-the_row-Stmt-0 shape-the_row-Stmt-1 hidden-the_row-Stmt-1 shape-the_row-Expr-0 hidden-the_row-Expr-0 shape-the_row-Expr-1 hidden-the_row-Expr-1 hidden
a_branch_that_is_not_taken_does_nothing = refl
