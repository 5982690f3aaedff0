-- Calls and their depth, computed.
use Rattle.std.proofs.Common.{◌≡◌, ℕ, List, [], ◌∷◌, ◌++◌, refl, pos, false, codes, replicate}
use Rattle.std.specs.Fmt.{digits}
use Rattle.word_ops.specs.declared.operators.BinaryOp.TheVariants as by
use Rattle.word_ops.specs.declared.ending.TrapKind.TheVariants as kind
use Rattle.cilk_ast.specs.declared.program.Expr as code
use Rattle.cilk_ast.specs.declared.program.Expr.TheBlock.{shape-the_row-Expr-0, hidden-the_row-Expr-0, shape-the_row-Expr-1, hidden-the_row-Expr-1}
use Rattle.cilk_ast.specs.declared.program.Expr.{Expr, Slot, Fence}
use Rattle.cilk_ast.specs.declared.program.Stmt as code_stmt
use Rattle.cilk_ast.specs.declared.program.Stmt.{Stmt, Nothing, Eval, Set, Store, AddTo, Spawn, Each, Break, Continue, Return, Sync}
use Rattle.cilk_ast.specs.declared.program.Stmt.TheBlock.{shape-the_row-Stmt-0, hidden-the_row-Stmt-0, shape-the_row-Stmt-1, hidden-the_row-Stmt-1}
use Rattle.cilk_ast.specs.declared.program.Function.{Function}
use Rattle.world_model.specs.Action as act
use Rattle.world_model.specs.Action.{Answers}
use Rattle.cilk_model.specs.Acts.{acts, run}
use Rattle.cilk_model.proofs.Samples.{at, word, function, word_line, no_word, add, one_word}
use denote.Hole.Carrier.{hidden}

-- long f(long n) { if (n == 0) { return 0; } return 1 + f(n - 1); } int main() { printf("%ld\n", f(n)); return 0; }
abbrev counts : ℕ → List Function
counts n =
    function 1 1 false
    (code_stmt.If (code.Bin (at 23) by.Eq (Slot 0) (word 0)) (Return (word 0)) Nothing
    ∷ Return (add (word 1) (code.Call (at 55) 0 (code.Bin (at 59) by.Sub (Slot 0) (word 1) ∷ []))) ∷ [])
    ∷ function 0 0 false (Eval (code.Print word_line (code.Call (at 30) 0 (word n ∷ []) ∷ [])) ∷ Return (word 0) ∷ [])
    ∷ []

each_call_takes_a_turn : acts (counts 2) 1 [] (replicate 9 no_word) ≡ act.Turn ∷ act.Turn ∷ act.Turn ∷ act.Turn ∷ act.Print (codes "2\n") ∷ act.End (pos 0) ∷ []
unfolding digits shape-the_row-Stmt-0 hidden-the_row-Stmt-0 shape-the_row-Stmt-1 hidden-the_row-Stmt-1 shape-the_row-Expr-0 hidden-the_row-Expr-0 shape-the_row-Expr-1 hidden-the_row-Expr-1 hidden
each_call_takes_a_turn = refl

the_call_from_depth_256_traps_at_its_name : acts (counts 255) 1 [] (replicate 400 no_word) ≡ replicate 256 act.Turn ++ act.Trap (at 55) kind.Depth ∷ []
unfolding digits shape-the_row-Stmt-0 hidden-the_row-Stmt-0 shape-the_row-Stmt-1 hidden-the_row-Stmt-1 shape-the_row-Expr-0 hidden-the_row-Expr-0 shape-the_row-Expr-1 hidden-the_row-Expr-1 hidden
the_call_from_depth_256_traps_at_its_name = refl

depth_256_is_reached : acts (counts 254) 1 [] (replicate 400 no_word) ≡ replicate 256 act.Turn ++ act.Print (codes "254\n") ∷ act.End (pos 0) ∷ []
unfolding digits shape-the_row-Stmt-0 hidden-the_row-Stmt-0 shape-the_row-Stmt-1 hidden-the_row-Stmt-1 shape-the_row-Expr-0 hidden-the_row-Expr-0 shape-the_row-Expr-1 hidden-the_row-Expr-1 hidden
depth_256_is_reached = refl

-- the first argument is loaded, then the call stands at the trap: depth 256 is checked after the arguments
abbrev deep : List Function
deep = function 1 1 false (Eval (code.Call (at 9) 0 (code.Load (at 4) (Slot 0) ∷ [])) ∷ []) ∷ []

a_call_at_the_last_depth_evaluates_its_arguments : run deep 3 256 0 (pos 70 ∷ []) (λ x _. act.End x ∷ []) (one_word 8 ∷ [])
    ≡ act.Load (at 4) (pos 70) ∷ act.Trap (at 9) kind.Depth ∷ []
unfolding digits shape-the_row-Stmt-0 hidden-the_row-Stmt-0 shape-the_row-Stmt-1 hidden-the_row-Stmt-1 shape-the_row-Expr-0 hidden-the_row-Expr-0 shape-the_row-Expr-1 hidden-the_row-Expr-1 hidden
a_call_at_the_last_depth_evaluates_its_arguments = refl

arguments_come_before_the_turn_of_the_callee : acts deep 0 (pos 70 ∷ []) (no_word ∷ one_word 8 ∷ no_word ∷ [])
    ≡ act.Turn ∷ act.Load (at 4) (pos 70) ∷ act.Turn ∷ act.Load (at 4) (pos 8) ∷ []
unfolding digits shape-the_row-Stmt-0 hidden-the_row-Stmt-0 shape-the_row-Stmt-1 hidden-the_row-Stmt-1 shape-the_row-Expr-0 hidden-the_row-Expr-0 shape-the_row-Expr-1 hidden-the_row-Expr-1 hidden
arguments_come_before_the_turn_of_the_callee = refl

other_slots_than_arguments_begin_as_zero : acts (function 1 3 false (Return (add (Slot 0) (Slot 2)) ∷ []) ∷ []) 0 (pos 5 ∷ []) (no_word ∷ []) ≡ act.Turn ∷ act.End (pos 5) ∷ []
unfolding digits shape-the_row-Stmt-0 hidden-the_row-Stmt-0 shape-the_row-Stmt-1 hidden-the_row-Stmt-1 shape-the_row-Expr-0 hidden-the_row-Expr-0 shape-the_row-Expr-1 hidden-the_row-Expr-1 hidden
other_slots_than_arguments_begin_as_zero = refl

a_body_that_falls_off_its_end_returns_zero : acts (function 0 0 false [] ∷ []) 0 [] (no_word ∷ []) ≡ act.Turn ∷ act.End (pos 0) ∷ []
unfolding digits shape-the_row-Stmt-0 hidden-the_row-Stmt-0 shape-the_row-Stmt-1 hidden-the_row-Stmt-1 shape-the_row-Expr-0 hidden-the_row-Expr-0 shape-the_row-Expr-1 hidden-the_row-Expr-1 hidden
a_body_that_falls_off_its_end_returns_zero = refl
