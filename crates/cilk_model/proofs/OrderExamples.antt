-- The order in which parts are evaluated, computed.
use Rattle.std.proofs.Common.{◌≡◌, List, [], ◌∷◌, refl, pos, negsuc, true, false, Some, None, codes}
use Rattle.std.specs.Fmt.{digits}
use Rattle.word_ops.specs.declared.operators.BinaryOp.TheVariants as by
use Rattle.word_ops.specs.declared.format.Part.TheVariants.{Byte, Long}
use Rattle.mem_atomics.specs.declared.op.Op.TheVariants as op
use Rattle.cilk_ast.specs.declared.program.Expr as code
use Rattle.cilk_ast.specs.declared.program.Expr.TheBlock.{shape-the_row-Expr-0, hidden-the_row-Expr-0, shape-the_row-Expr-1, hidden-the_row-Expr-1}
use Rattle.cilk_ast.specs.declared.program.Expr.{Expr, Slot, Fence}
use Rattle.cilk_ast.specs.declared.program.Stmt.{Stmt, Eval, Set, Store, AddTo, Spawn, Return}
use Rattle.cilk_ast.specs.declared.program.Stmt.TheBlock.{shape-the_row-Stmt-0, hidden-the_row-Stmt-0, shape-the_row-Stmt-1, hidden-the_row-Stmt-1}
use Rattle.cilk_ast.specs.declared.program.Function.{Function}
use Rattle.world_model.specs.Action as act
use Rattle.world_model.specs.Action.{Answers}
use Rattle.cilk_model.specs.Acts.{acts}
use Rattle.cilk_model.proofs.Samples.{at, word, function, no_word, one_word}
use denote.Hole.Carrier.{hidden}

abbrev main : List Stmt → List Function
main body = function 0 2 false body ∷ []

-- the word at 100, and the word at 101
abbrev first : Expr
first = code.Load (at 1) (word 100)

abbrev second : Expr
second = code.Load (at 2) (word 101)

a_store_evaluates_its_address_and_then_its_word : acts (main (Store (at 5) first second ∷ [])) 0 [] (no_word ∷ one_word 8 ∷ one_word 9 ∷ no_word ∷ [])
    ≡ act.Turn ∷ act.Load (at 1) (pos 100) ∷ act.Load (at 2) (pos 101) ∷ act.Issue (at 5) op.Store (pos 8) (pos 9) ∷ act.End (pos 0) ∷ []
unfolding digits shape-the_row-Stmt-0 hidden-the_row-Stmt-0 shape-the_row-Stmt-1 hidden-the_row-Stmt-1 shape-the_row-Expr-0 hidden-the_row-Expr-0 shape-the_row-Expr-1 hidden-the_row-Expr-1 hidden
a_store_evaluates_its_address_and_then_its_word = refl

an_addition_loads_before_it_evaluates_its_word : acts (main (AddTo (at 5) first second ∷ [])) 0 [] (no_word ∷ one_word 8 ∷ one_word 20 ∷ one_word 3 ∷ no_word ∷ [])
    ≡ act.Turn ∷ act.Load (at 1) (pos 100) ∷ act.Load (at 5) (pos 8) ∷ act.Load (at 2) (pos 101) ∷ act.Issue (at 5) op.Store (pos 8) (pos 23) ∷ act.End (pos 0) ∷ []
unfolding digits shape-the_row-Stmt-0 hidden-the_row-Stmt-0 shape-the_row-Stmt-1 hidden-the_row-Stmt-1 shape-the_row-Expr-0 hidden-the_row-Expr-0 shape-the_row-Expr-1 hidden-the_row-Expr-1 hidden
an_addition_loads_before_it_evaluates_its_word = refl

an_addition_wraps : acts (main (AddTo (at 5) (word 8) (word 1) ∷ [])) 0 [] (no_word ∷ one_word 9223372036854775807 ∷ [])
    ≡ act.Turn ∷ act.Load (at 5) (pos 8) ∷ act.Issue (at 5) op.Store (pos 8) (negsuc 9223372036854775807) ∷ []
unfolding digits shape-the_row-Stmt-0 hidden-the_row-Stmt-0 shape-the_row-Stmt-1 hidden-the_row-Stmt-1 shape-the_row-Expr-0 hidden-the_row-Expr-0 shape-the_row-Expr-1 hidden-the_row-Expr-1 hidden
an_addition_wraps = refl

the_left_operand_comes_first : acts (main (Return (code.Bin (at 3) by.Sub first second) ∷ [])) 0 [] (no_word ∷ one_word 8 ∷ one_word 9 ∷ [])
    ≡ act.Turn ∷ act.Load (at 1) (pos 100) ∷ act.Load (at 2) (pos 101) ∷ act.End (negsuc 0) ∷ []
unfolding digits shape-the_row-Stmt-0 hidden-the_row-Stmt-0 shape-the_row-Stmt-1 hidden-the_row-Stmt-1 shape-the_row-Expr-0 hidden-the_row-Expr-0 shape-the_row-Expr-1 hidden-the_row-Expr-1 hidden
the_left_operand_comes_first = refl

words_come_before_their_print : acts (main (Eval (code.Print (Long ∷ Byte 32 ∷ Long ∷ []) (first ∷ second ∷ [])) ∷ [])) 0 [] (no_word ∷ one_word 8 ∷ one_word 9 ∷ [])
    ≡ act.Turn ∷ act.Load (at 1) (pos 100) ∷ act.Load (at 2) (pos 101) ∷ act.Print (codes "8 9") ∷ []
unfolding digits shape-the_row-Stmt-0 hidden-the_row-Stmt-0 shape-the_row-Stmt-1 hidden-the_row-Stmt-1 shape-the_row-Expr-0 hidden-the_row-Expr-0 shape-the_row-Expr-1 hidden-the_row-Expr-1 hidden
words_come_before_their_print = refl

a_hint_comes_before_the_arguments : acts (function 0 0 true (Spawn (at 5) None 1 (Some first) (second ∷ []) ∷ []) ∷ function 1 1 false [] ∷ []) 0 [] (no_word ∷ one_word 8 ∷ one_word 9 ∷ [])
    ≡ act.Turn ∷ act.Load (at 1) (pos 100) ∷ act.Load (at 2) (pos 101) ∷ act.Spawn 1 1 (pos 9 ∷ []) (Some (record { pos = at 5; address = pos 8 })) ∷ []
unfolding digits shape-the_row-Stmt-0 hidden-the_row-Stmt-0 shape-the_row-Stmt-1 hidden-the_row-Stmt-1 shape-the_row-Expr-0 hidden-the_row-Expr-0 shape-the_row-Expr-1 hidden-the_row-Expr-1 hidden
a_hint_comes_before_the_arguments = refl

an_operation_has_the_place_of_its_word : acts (main (Eval (code.Post (at 5) op.Min (word 8) (word 2)) ∷ Return (word 0) ∷ [])) 0 [] (no_word ∷ no_word ∷ [])
    ≡ act.Turn ∷ act.Issue (at 5) op.Min (pos 8) (pos 2) ∷ act.End (pos 0) ∷ []
unfolding digits shape-the_row-Stmt-0 hidden-the_row-Stmt-0 shape-the_row-Stmt-1 hidden-the_row-Stmt-1 shape-the_row-Expr-0 hidden-the_row-Expr-0 shape-the_row-Expr-1 hidden-the_row-Expr-1 hidden
an_operation_has_the_place_of_its_word = refl

-- int main() { long x = *(long *)0; return x; }
abbrev reads_nothing : List Function
reads_nothing = function 0 1 false (Set 0 (code.Load (at 23) (word 0)) ∷ Return (Slot 0) ∷ []) ∷ []

a_load_of_a_bad_address_is_asked_for_at_its_star : acts reads_nothing 0 [] (no_word ∷ []) ≡ act.Turn ∷ act.Load (at 23) (pos 0) ∷ []
unfolding digits shape-the_row-Stmt-0 hidden-the_row-Stmt-0 shape-the_row-Stmt-1 hidden-the_row-Stmt-1 shape-the_row-Expr-0 hidden-the_row-Expr-0 shape-the_row-Expr-1 hidden-the_row-Expr-1 hidden
a_load_of_a_bad_address_is_asked_for_at_its_star = refl
