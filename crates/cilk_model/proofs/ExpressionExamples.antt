-- Expressions and prints, computed.
use Rattle.std.proofs.Common.{◌≡◌, List, [], ◌∷◌, refl, pos, false, codes, replicate}
use Rattle.std.specs.Fmt.{digits}
use Rattle.word_ops.specs.declared.operators.BinaryOp.TheVariants as by
use Rattle.word_ops.specs.declared.operators.UnaryOp.TheVariants as by_one
use Rattle.word_ops.specs.declared.ending.TrapKind.TheVariants as kind
use Rattle.mem_atomics.specs.declared.fetch_op.FetchOp.TheVariants as fetch
use Rattle.cilk_ast.specs.declared.builtin.Builtin.TheVariants as built
use Rattle.cilk_ast.specs.declared.program.Expr as code
use Rattle.cilk_ast.specs.declared.program.Expr.TheBlock.{shape-the_row-Expr-0, hidden-the_row-Expr-0, shape-the_row-Expr-1, hidden-the_row-Expr-1}
use Rattle.cilk_ast.specs.declared.program.Expr.{Expr, Slot, Fence}
use Rattle.cilk_ast.specs.declared.program.Stmt.{Eval, Set, Return}
use Rattle.cilk_ast.specs.declared.program.Stmt.TheBlock.{shape-the_row-Stmt-0, hidden-the_row-Stmt-0, shape-the_row-Stmt-1, hidden-the_row-Stmt-1}
use Rattle.cilk_ast.specs.declared.program.Function.{Function}
use Rattle.world_model.specs.Action as act
use Rattle.world_model.specs.Action.{Answers}
use Rattle.cilk_model.specs.Acts.{acts}
use Rattle.cilk_model.proofs.Samples.{at, word, function, word_line, no_word, one_word}
use denote.Hole.Carrier.{hidden}

-- int main() { printf("%ld\n", e); return 0; }
abbrev prints : Expr → List Function
prints e = function 0 0 false (Eval (code.Print word_line (e ∷ [])) ∷ Return (word 0) ∷ []) ∷ []

-- 2 + 3 * 4
abbrev sum_and_product : Expr
sum_and_product = code.Bin (at 1) by.Add (word 2) (code.Bin (at 2) by.Mul (word 3) (word 4))

without_an_answer_a_strand_is_before_its_turn : acts (prints sum_and_product) 0 [] [] ≡ act.Turn ∷ []
unfolding digits shape-the_row-Stmt-0 hidden-the_row-Stmt-0 shape-the_row-Stmt-1 hidden-the_row-Stmt-1 shape-the_row-Expr-0 hidden-the_row-Expr-0 shape-the_row-Expr-1 hidden-the_row-Expr-1 hidden
without_an_answer_a_strand_is_before_its_turn = refl

after_its_turn_it_prints : acts (prints sum_and_product) 0 [] (no_word ∷ []) ≡ act.Turn ∷ act.Print (codes "14\n") ∷ []
unfolding digits shape-the_row-Stmt-0 hidden-the_row-Stmt-0 shape-the_row-Stmt-1 hidden-the_row-Stmt-1 shape-the_row-Expr-0 hidden-the_row-Expr-0 shape-the_row-Expr-1 hidden-the_row-Expr-1 hidden
after_its_turn_it_prints = refl

after_its_print_it_ends : acts (prints sum_and_product) 0 [] (no_word ∷ no_word ∷ []) ≡ act.Turn ∷ act.Print (codes "14\n") ∷ act.End (pos 0) ∷ []
unfolding digits shape-the_row-Stmt-0 hidden-the_row-Stmt-0 shape-the_row-Stmt-1 hidden-the_row-Stmt-1 shape-the_row-Expr-0 hidden-the_row-Expr-0 shape-the_row-Expr-1 hidden-the_row-Expr-1 hidden
after_its_print_it_ends = refl

-- long m = -9223372036854775807 - 1; printf("%ld\n", m / -1); return 0;
abbrev divides : List Function
divides = function 0 1 false
    (Set 0 (code.Bin (at 43) by.Sub (code.Un (at 23) by_one.Neg (word 9223372036854775807)) (word 1))
    ∷ Eval (code.Print word_line (code.Bin (at 67) by.Div (Slot 0) (code.Un (at 69) by_one.Neg (word 1)) ∷ [])) ∷ Return (word 0) ∷ []) ∷ []

the_least_word_by_minus_one_traps_at_the_operator : acts divides 0 [] (replicate 5 no_word) ≡ act.Turn ∷ act.Trap (at 67) kind.Divide ∷ []
unfolding digits shape-the_row-Stmt-0 hidden-the_row-Stmt-0 shape-the_row-Stmt-1 hidden-the_row-Stmt-1 shape-the_row-Expr-0 hidden-the_row-Expr-0 shape-the_row-Expr-1 hidden-the_row-Expr-1 hidden
the_least_word_by_minus_one_traps_at_the_operator = refl

a_remainder_by_zero_traps_too : acts (prints (code.Bin (at 7) by.Rem (word 1) (word 0))) 0 [] (no_word ∷ []) ≡ act.Turn ∷ act.Trap (at 7) kind.Divide ∷ []
unfolding digits shape-the_row-Stmt-0 hidden-the_row-Stmt-0 shape-the_row-Stmt-1 hidden-the_row-Stmt-1 shape-the_row-Expr-0 hidden-the_row-Expr-0 shape-the_row-Expr-1 hidden-the_row-Expr-1 hidden
a_remainder_by_zero_traps_too = refl

-- 1 / 0
abbrev no_quotient : Expr
no_quotient = code.Bin (at 9) by.Div (word 1) (word 0)

one_or_anything_is_one : acts (prints (code.Either (at 2) (word 1) no_quotient)) 0 [] (no_word ∷ []) ≡ act.Turn ∷ act.Print (codes "1\n") ∷ []
unfolding digits shape-the_row-Stmt-0 hidden-the_row-Stmt-0 shape-the_row-Stmt-1 hidden-the_row-Stmt-1 shape-the_row-Expr-0 hidden-the_row-Expr-0 shape-the_row-Expr-1 hidden-the_row-Expr-1 hidden
one_or_anything_is_one = refl

zero_and_anything_is_zero : acts (prints (code.Both (at 2) (word 0) no_quotient)) 0 [] (no_word ∷ []) ≡ act.Turn ∷ act.Print (codes "0\n") ∷ []
unfolding digits shape-the_row-Stmt-0 hidden-the_row-Stmt-0 shape-the_row-Stmt-1 hidden-the_row-Stmt-1 shape-the_row-Expr-0 hidden-the_row-Expr-0 shape-the_row-Expr-1 hidden-the_row-Expr-1 hidden
zero_and_anything_is_zero = refl

two_and_three_are_one : acts (prints (code.Both (at 2) (word 2) (word 3))) 0 [] (no_word ∷ []) ≡ act.Turn ∷ act.Print (codes "1\n") ∷ []
unfolding digits shape-the_row-Stmt-0 hidden-the_row-Stmt-0 shape-the_row-Stmt-1 hidden-the_row-Stmt-1 shape-the_row-Expr-0 hidden-the_row-Expr-0 shape-the_row-Expr-1 hidden-the_row-Expr-1 hidden
two_and_three_are_one = refl

zero_or_five_is_one : acts (prints (code.Either (at 2) (word 0) (word 5))) 0 [] (no_word ∷ []) ≡ act.Turn ∷ act.Print (codes "1\n") ∷ []
unfolding digits shape-the_row-Stmt-0 hidden-the_row-Stmt-0 shape-the_row-Stmt-1 hidden-the_row-Stmt-1 shape-the_row-Expr-0 hidden-the_row-Expr-0 shape-the_row-Expr-1 hidden-the_row-Expr-1 hidden
zero_or_five_is_one = refl

-- ATOMIC_CAS(p, 13, 1), with p = 40
abbrev exchanges : Expr
exchanges = code.Cas (at 3) (word 40) (word 13) (word 1)

a_fetch_answers_the_old_word : acts (prints exchanges) 0 [] (no_word ∷ one_word 13 ∷ []) ≡ act.Turn ∷ act.Fetch (at 3) (fetch.Cas (pos 13) (pos 1)) (pos 40) ∷ act.Print (codes "13\n") ∷ []
unfolding digits shape-the_row-Stmt-0 hidden-the_row-Stmt-0 shape-the_row-Stmt-1 hidden-the_row-Stmt-1 shape-the_row-Expr-0 hidden-the_row-Expr-0 shape-the_row-Expr-1 hidden-the_row-Expr-1 hidden
a_fetch_answers_the_old_word = refl

-- mw_malloc2dlong(4, 8)
abbrev blocks : Expr
blocks = code.Alloc (at 3) built.MwMalloc2dlong (word 4 ∷ word 8 ∷ [])

blocks_come_before_their_words : acts (prints blocks) 0 [] (no_word ∷ []) ≡ act.Turn ∷ act.Alloc (act.Blocked (pos 4) (pos 8)) ∷ []
unfolding digits shape-the_row-Stmt-0 hidden-the_row-Stmt-0 shape-the_row-Stmt-1 hidden-the_row-Stmt-1 shape-the_row-Expr-0 hidden-the_row-Expr-0 shape-the_row-Expr-1 hidden-the_row-Expr-1 hidden
blocks_come_before_their_words = refl

a_local_allocation_has_its_place : acts (prints (code.Alloc (at 3) built.MwLocalmalloc (word 4 ∷ word 9 ∷ []))) 0 [] (no_word ∷ []) ≡ act.Turn ∷ act.Alloc (act.Local (at 3) (pos 4) (pos 9)) ∷ []
unfolding digits shape-the_row-Stmt-0 hidden-the_row-Stmt-0 shape-the_row-Stmt-1 hidden-the_row-Stmt-1 shape-the_row-Expr-0 hidden-the_row-Expr-0 shape-the_row-Expr-1 hidden-the_row-Expr-1 hidden
a_local_allocation_has_its_place = refl

a_fence_gives_zero : acts (prints Fence) 0 [] (no_word ∷ no_word ∷ []) ≡ act.Turn ∷ act.Fence ∷ act.Print (codes "0\n") ∷ []
unfolding digits shape-the_row-Stmt-0 hidden-the_row-Stmt-0 shape-the_row-Stmt-1 hidden-the_row-Stmt-1 shape-the_row-Expr-0 hidden-the_row-Expr-0 shape-the_row-Expr-1 hidden-the_row-Expr-1 hidden
a_fence_gives_zero = refl
