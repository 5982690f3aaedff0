-- What compiled programs do, computed.
use Rattle.std.proofs.Common.{◌≡◌, ℕ, List, [], ◌∷◌, ◌++◌, refl, pos, negsuc, true, false, Some, None, codes, replicate}
use Rattle.std.specs.Prelude.{IsTrue}
use Rattle.std.specs.Fmt.{digits}
use Rattle.word_ops.specs.declared.format.Part.TheVariants.{Byte, Long}
use Rattle.word_ops.specs.declared.operators.BinaryOp.TheVariants as by
use Rattle.word_ops.specs.declared.ending.TrapKind.TheVariants as kind
use Rattle.cilk_ast.specs.declared.program.Expr as code
use Rattle.cilk_ast.specs.declared.program.Expr.{Expr, Word, Slot}
use Rattle.cilk_ast.specs.declared.program.Expr.TheBlock.{shape-the_row-Expr-0, hidden-the_row-Expr-0, shape-the_row-Expr-1, hidden-the_row-Expr-1}
use Rattle.cilk_ast.specs.declared.program.Stmt as code_stmt
use Rattle.cilk_ast.specs.declared.program.Stmt.{Nothing, Eval, Set, Spawn, Return, Sync}
use Rattle.cilk_ast.specs.declared.program.Stmt.TheBlock.{shape-the_row-Stmt-0, hidden-the_row-Stmt-0, shape-the_row-Stmt-1, hidden-the_row-Stmt-1}
use Rattle.cilk_ast.specs.declared.program.Function.{Function}
use Rattle.cilk_ast.specs.declared.program.Program.{Program}
use Rattle.cilk_ast.specs.Kept.{keeps}
use Rattle.world_model.specs.Action as act
use Rattle.world_model.specs.Action.{Action, Answers}
use Rattle.threadlet_code.specs.Running.{acts}
use Rattle.cilk_model.proofs.Samples.{at, word, function, word_line, no_word, one_word}
use Rattle.codegen_stmt.specs.Whole.{code_of}
use denote.Hole.Carrier.{hidden}

-- what the code of these functions does from one of them on, by answers
abbrev does : (functions : List Function) (main : ℕ) → IsTrue (keeps functions main) → Answers → List Action
does functions main kept answers =
    let program : Program = record { functions = functions; main = main; globals = 0; replicated = 0; kept = kept } in
    acts (code_of program) main [] answers

-- int main() { printf("%ld\n", e); return 0; }
abbrev prints : Expr → Function
prints e = function 0 0 false (Eval (code.Print word_line (e ∷ [])) ∷ Return (word 0) ∷ [])

-- the least word by -1
abbrev least_by_minus_one : Expr
least_by_minus_one = code.Bin (at 67) by.Div (Word (negsuc 9223372036854775807)) (Word (negsuc 0))

abbrev dividing : List Function
dividing = prints least_by_minus_one ∷ []

dividing_kept : IsTrue (keeps dividing 0)
unfolding digits shape-the_row-Stmt-0 hidden-the_row-Stmt-0 shape-the_row-Stmt-1 hidden-the_row-Stmt-1 shape-the_row-Expr-0 hidden-the_row-Expr-0 shape-the_row-Expr-1 hidden-the_row-Expr-1 hidden
dividing_kept = refl

the_least_word_by_minus_one_traps_at_the_operator : does dividing 0 dividing_kept (no_word ∷ no_word ∷ []) ≡ act.Turn ∷ act.Trap (at 67) kind.Divide ∷ []
unfolding digits shape-the_row-Stmt-0 hidden-the_row-Stmt-0 shape-the_row-Stmt-1 hidden-the_row-Stmt-1 shape-the_row-Expr-0 hidden-the_row-Expr-0 shape-the_row-Expr-1 hidden-the_row-Expr-1 hidden
the_least_word_by_minus_one_traps_at_the_operator = refl

-- 1 || 1 / 0
abbrev choice : Expr
choice = code.Either (at 30) (word 1) (code.Bin (at 35) by.Div (word 1) (word 0))

abbrev choosing : List Function
choosing = prints choice ∷ []

choosing_kept : IsTrue (keeps choosing 0)
unfolding digits shape-the_row-Stmt-0 hidden-the_row-Stmt-0 shape-the_row-Stmt-1 hidden-the_row-Stmt-1 shape-the_row-Expr-0 hidden-the_row-Expr-0 shape-the_row-Expr-1 hidden-the_row-Expr-1 hidden
choosing_kept = refl

a_part_that_is_left_out_does_not_trap : does choosing 0 choosing_kept (no_word ∷ no_word ∷ []) ≡ act.Turn ∷ act.Print (codes "1\n") ∷ act.End (pos 0) ∷ []
unfolding digits shape-the_row-Stmt-0 hidden-the_row-Stmt-0 shape-the_row-Stmt-1 hidden-the_row-Stmt-1 shape-the_row-Expr-0 hidden-the_row-Expr-0 shape-the_row-Expr-1 hidden-the_row-Expr-1 hidden
a_part_that_is_left_out_does_not_trap = refl

-- long f(long a, long b) { return a - b; }
abbrev difference : Function
difference = function 2 2 false (Return (code.Bin (at 1) by.Sub (Slot 0) (Slot 1)) ∷ [])

-- f(9, f(5, 2))
abbrev call_in_a_call : Expr
call_in_a_call = code.Call (at 30) 0 (word 9 ∷ code.Call (at 35) 0 (word 5 ∷ word 2 ∷ []) ∷ [])

abbrev calling : List Function
calling = difference ∷ prints call_in_a_call ∷ []

calling_kept : IsTrue (keeps calling 1)
unfolding digits shape-the_row-Stmt-0 hidden-the_row-Stmt-0 shape-the_row-Stmt-1 hidden-the_row-Stmt-1 shape-the_row-Expr-0 hidden-the_row-Expr-0 shape-the_row-Expr-1 hidden-the_row-Expr-1 hidden
calling_kept = refl

a_call_stands_in_an_argument : does calling 1 calling_kept (no_word ∷ no_word ∷ no_word ∷ no_word ∷ [])
    ≡ act.Turn ∷ act.Turn ∷ act.Turn ∷ act.Print (codes "6\n") ∷ act.End (pos 0) ∷ []
unfolding digits shape-the_row-Stmt-0 hidden-the_row-Stmt-0 shape-the_row-Stmt-1 hidden-the_row-Stmt-1 shape-the_row-Expr-0 hidden-the_row-Expr-0 shape-the_row-Expr-1 hidden-the_row-Expr-1 hidden
a_call_stands_in_an_argument = refl

-- long one(long v) { return v; }
abbrev one : Function
one = function 1 1 false (Return (Slot 0) ∷ [])

-- long mid() { long y = cilk_spawn one(2); cilk_sync; return y; }
abbrev mid : Function
mid = function 0 1 true (Set 0 (word 0) ∷ Spawn (at 20) (Some 0) 0 None (word 2 ∷ []) ∷ Sync ∷ Return (Slot 0) ∷ [])

-- int main() { long x = 7; x = cilk_spawn one(1); long m = mid(); long b = x; cilk_sync;
-- printf("%ld %ld %ld\n", m, b, x); return 0; }
abbrev main : Function
main = function 0 3 true
    (Set 0 (word 7) ∷ Spawn (at 30) (Some 0) 0 None (word 1 ∷ []) ∷ Set 1 (code.Call (at 40) 1 []) ∷ Set 2 (Slot 0) ∷ Sync
    ∷ Eval (code.Print (Long ∷ Byte 32 ∷ Long ∷ Byte 32 ∷ Long ∷ Byte 10 ∷ []) (Slot 1 ∷ Slot 2 ∷ Slot 0 ∷ [])) ∷ Return (word 0) ∷ [])

-- Turn; Spawn; mid's Turn, Spawn, Sync, and Sync of its return; Sync; Print; Sync of the return
abbrev joining_answers : Answers
joining_answers = no_word ∷ no_word ∷ no_word ∷ no_word ∷ one_word 2 ∷ no_word ∷ one_word 1 ∷ no_word ∷ no_word ∷ []

abbrev joining : List Function
joining = one ∷ mid ∷ main ∷ []

joining_kept : IsTrue (keeps joining 2)
unfolding digits shape-the_row-Stmt-0 hidden-the_row-Stmt-0 shape-the_row-Stmt-1 hidden-the_row-Stmt-1 shape-the_row-Expr-0 hidden-the_row-Expr-0 shape-the_row-Expr-1 hidden-the_row-Expr-1 hidden
joining_kept = refl

a_sync_joins_its_own_children_and_a_target_keeps_its_word_until_then : does joining 2 joining_kept joining_answers
    ≡ act.Turn ∷ act.Spawn 1 0 (pos 1 ∷ []) None ∷ act.Turn ∷ act.Spawn 2 0 (pos 2 ∷ []) None ∷ act.Sync 2 ∷ act.Sync 2 ∷ act.Sync 1
    ∷ act.Print (codes "2 7 1\n") ∷ act.Sync 1 ∷ act.End (pos 0) ∷ []
unfolding digits shape-the_row-Stmt-0 hidden-the_row-Stmt-0 shape-the_row-Stmt-1 hidden-the_row-Stmt-1 shape-the_row-Expr-0 hidden-the_row-Expr-0 shape-the_row-Expr-1 hidden-the_row-Expr-1 hidden
a_sync_joins_its_own_children_and_a_target_keeps_its_word_until_then = refl

-- long f(long n) { if (n == 0) { return 0; } return 1 + f(n - 1); }
abbrev counting : Function
counting = function 1 1 false
    (code_stmt.If (code.Bin (at 23) by.Eq (Slot 0) (word 0)) (Return (word 0)) Nothing
    ∷ Return (code.Bin (at 53) by.Add (word 1) (code.Call (at 55) 0 (code.Bin (at 59) by.Sub (Slot 0) (word 1) ∷ []))) ∷ [])

abbrev too_deep : List Function
too_deep = counting ∷ prints (code.Call (at 30) 0 (word 255 ∷ [])) ∷ []

too_deep_kept : IsTrue (keeps too_deep 1)
unfolding digits shape-the_row-Stmt-0 hidden-the_row-Stmt-0 shape-the_row-Stmt-1 hidden-the_row-Stmt-1 shape-the_row-Expr-0 hidden-the_row-Expr-0 shape-the_row-Expr-1 hidden-the_row-Expr-1 hidden
too_deep_kept = refl

the_call_from_depth_256_traps_at_its_name : does too_deep 1 too_deep_kept (replicate 400 no_word)
    ≡ replicate 256 act.Turn ++ act.Trap (at 55) kind.Depth ∷ []
unfolding digits shape-the_row-Stmt-0 hidden-the_row-Stmt-0 shape-the_row-Stmt-1 hidden-the_row-Stmt-1 shape-the_row-Expr-0 hidden-the_row-Expr-0 shape-the_row-Expr-1 hidden-the_row-Expr-1 hidden
the_call_from_depth_256_traps_at_its_name = refl

abbrev just_deep : List Function
just_deep = counting ∷ prints (code.Call (at 30) 0 (word 254 ∷ [])) ∷ []

just_deep_kept : IsTrue (keeps just_deep 1)
unfolding digits shape-the_row-Stmt-0 hidden-the_row-Stmt-0 shape-the_row-Stmt-1 hidden-the_row-Stmt-1 shape-the_row-Expr-0 hidden-the_row-Expr-0 shape-the_row-Expr-1 hidden-the_row-Expr-1 hidden
just_deep_kept = refl

depth_256_is_reached : does just_deep 1 just_deep_kept (replicate 400 no_word)
    ≡ replicate 256 act.Turn ++ act.Print (codes "254\n") ∷ act.End (pos 0) ∷ []
unfolding digits shape-the_row-Stmt-0 hidden-the_row-Stmt-0 shape-the_row-Stmt-1 hidden-the_row-Stmt-1 shape-the_row-Expr-0 hidden-the_row-Expr-0 shape-the_row-Expr-1 hidden-the_row-Expr-1 hidden
depth_256_is_reached = refl
