-- What each form does, and in which order, computed.
use Rattle.std.proofs.Common.{◌≡◌, List, [], ◌∷◌, refl, pos, true, false, None}
use Rattle.std.specs.Fmt.{digits}
use Rattle.word_ops.specs.declared.operators.BinaryOp.TheVariants as by
use Rattle.word_ops.specs.declared.ending.TrapKind.TheVariants as kind
use Rattle.mem_atomics.specs.declared.op.Op.TheVariants as op
use Rattle.mem_atomics.specs.declared.fetch_op.FetchOp.TheVariants as fetch
use Rattle.cilk_ast.specs.declared.builtin.Builtin.TheVariants as built
use Rattle.cilk_ast.specs.declared.program.Expr as code
use Rattle.cilk_ast.specs.declared.program.Expr.TheBlock.{shape-the_row-Expr-0, hidden-the_row-Expr-0, shape-the_row-Expr-1, hidden-the_row-Expr-1}
use Rattle.cilk_ast.specs.declared.program.Expr.{Expr, Slot, Where}
use Rattle.cilk_ast.specs.declared.program.Stmt as code_stmt
use Rattle.cilk_ast.specs.declared.program.Stmt.{Stmt, Nothing, Eval, Set, Spawn, Continue, Return}
use Rattle.cilk_ast.specs.declared.program.Stmt.TheBlock.{shape-the_row-Stmt-0, hidden-the_row-Stmt-0, shape-the_row-Stmt-1, hidden-the_row-Stmt-1}
use Rattle.cilk_ast.specs.declared.program.Function.{Function}
use Rattle.world_model.specs.Action as act
use Rattle.world_model.specs.Action.{Action, Answers}
use Rattle.cilk_model.specs.Acts.{acts}
use Rattle.cilk_model.proofs.Samples.{at, word, function, no_word, one_word}
use denote.Hole.Carrier.{hidden}

-- the words at 100, 101 and 102
abbrev first : Expr
first = code.Load (at 1) (word 100)

abbrev second : Expr
second = code.Load (at 2) (word 101)

abbrev third : Expr
third = code.Load (at 3) (word 102)

-- return e; in a function of one parameter
abbrev returns : Expr → List Function
returns e = function 0 0 false (Return e ∷ []) ∷ function 2 2 false (Return (Slot 1) ∷ []) ∷ []

-- what is done once the words at 100 and 101 are 8 and 9, and at 102 is 7
abbrev with_two : Expr → List Action
with_two e = acts (returns e) 0 [] (no_word ∷ one_word 8 ∷ one_word 9 ∷ [])

abbrev loads : Action → List Action
loads action = act.Turn ∷ act.Load (at 1) (pos 100) ∷ act.Load (at 2) (pos 101) ∷ action ∷ []

-- ---- the address first, then the words

an_added_word : with_two (code.Add (at 5) first second) ≡ loads (act.Fetch (at 5) (fetch.Add (pos 9)) (pos 8))
unfolding digits shape-the_row-Stmt-0 hidden-the_row-Stmt-0 shape-the_row-Stmt-1 hidden-the_row-Stmt-1 shape-the_row-Expr-0 hidden-the_row-Expr-0 shape-the_row-Expr-1 hidden-the_row-Expr-1 hidden
an_added_word = refl

a_swapped_word : with_two (code.Swap (at 5) first second) ≡ loads (act.Fetch (at 5) (fetch.Swap (pos 9)) (pos 8))
unfolding digits shape-the_row-Stmt-0 hidden-the_row-Stmt-0 shape-the_row-Stmt-1 hidden-the_row-Stmt-1 shape-the_row-Expr-0 hidden-the_row-Expr-0 shape-the_row-Expr-1 hidden-the_row-Expr-1 hidden
a_swapped_word = refl

a_posted_word : with_two (code.Post (at 5) op.Max first second) ≡ loads (act.Issue (at 5) op.Max (pos 8) (pos 9))
unfolding digits shape-the_row-Stmt-0 hidden-the_row-Stmt-0 shape-the_row-Stmt-1 hidden-the_row-Stmt-1 shape-the_row-Expr-0 hidden-the_row-Expr-0 shape-the_row-Expr-1 hidden-the_row-Expr-1 hidden
a_posted_word = refl

an_initial_word : with_two (code.Init (at 5) first second) ≡ loads (act.Init (at 5) (pos 8) (pos 9))
unfolding digits shape-the_row-Stmt-0 hidden-the_row-Stmt-0 shape-the_row-Stmt-1 hidden-the_row-Stmt-1 shape-the_row-Expr-0 hidden-the_row-Expr-0 shape-the_row-Expr-1 hidden-the_row-Expr-1 hidden
an_initial_word = refl

what_is_expected_comes_before_the_new_word : acts (returns (code.Cas (at 5) first second third)) 0 [] (no_word ∷ one_word 8 ∷ one_word 9 ∷ one_word 7 ∷ [])
    ≡ act.Turn ∷ act.Load (at 1) (pos 100) ∷ act.Load (at 2) (pos 101) ∷ act.Load (at 3) (pos 102) ∷ act.Fetch (at 5) (fetch.Cas (pos 9) (pos 7)) (pos 8) ∷ []
unfolding digits shape-the_row-Stmt-0 hidden-the_row-Stmt-0 shape-the_row-Stmt-1 hidden-the_row-Stmt-1 shape-the_row-Expr-0 hidden-the_row-Expr-0 shape-the_row-Expr-1 hidden-the_row-Expr-1 hidden
what_is_expected_comes_before_the_new_word = refl

the_arguments_of_a_call : acts (returns (code.Call (at 5) 1 (first ∷ second ∷ []))) 0 [] (no_word ∷ one_word 8 ∷ one_word 9 ∷ no_word ∷ [])
    ≡ act.Turn ∷ act.Load (at 1) (pos 100) ∷ act.Load (at 2) (pos 101) ∷ act.Turn ∷ act.End (pos 9) ∷ []
unfolding digits shape-the_row-Stmt-0 hidden-the_row-Stmt-0 shape-the_row-Stmt-1 hidden-the_row-Stmt-1 shape-the_row-Expr-0 hidden-the_row-Expr-0 shape-the_row-Expr-1 hidden-the_row-Expr-1 hidden
the_arguments_of_a_call = refl

the_arguments_of_an_allocation : with_two (code.Alloc (at 5) built.MwMalloc2dlong (first ∷ second ∷ [])) ≡ loads (act.Alloc (act.Blocked (pos 8) (pos 9)))
unfolding digits shape-the_row-Stmt-0 hidden-the_row-Stmt-0 shape-the_row-Stmt-1 hidden-the_row-Stmt-1 shape-the_row-Expr-0 hidden-the_row-Expr-0 shape-the_row-Expr-1 hidden-the_row-Expr-1 hidden
the_arguments_of_an_allocation = refl

the_arguments_of_a_spawn : acts (function 0 0 true (Spawn (at 5) None 1 None (first ∷ second ∷ []) ∷ []) ∷ []) 0 [] (no_word ∷ one_word 8 ∷ one_word 9 ∷ [])
    ≡ loads (act.Spawn 1 1 (pos 8 ∷ pos 9 ∷ []) None)
unfolding digits shape-the_row-Stmt-0 hidden-the_row-Stmt-0 shape-the_row-Stmt-1 hidden-the_row-Stmt-1 shape-the_row-Expr-0 hidden-the_row-Expr-0 shape-the_row-Expr-1 hidden-the_row-Expr-1 hidden
the_arguments_of_a_spawn = refl

-- ---- forms of one part or none

a_move_gives_zero : acts (returns (code.Move (at 5) first)) 0 [] (no_word ∷ one_word 8 ∷ no_word ∷ []) ≡ act.Turn ∷ act.Load (at 1) (pos 100) ∷ act.Move (at 5) (pos 8) ∷ act.End (pos 0) ∷ []
unfolding digits shape-the_row-Stmt-0 hidden-the_row-Stmt-0 shape-the_row-Stmt-1 hidden-the_row-Stmt-1 shape-the_row-Expr-0 hidden-the_row-Expr-0 shape-the_row-Expr-1 hidden-the_row-Expr-1 hidden
a_move_gives_zero = refl

the_place_is_asked_for : acts (returns Where) 0 [] (no_word ∷ one_word 6 ∷ []) ≡ act.Turn ∷ act.Where ∷ act.End (pos 6) ∷ []
unfolding digits shape-the_row-Stmt-0 hidden-the_row-Stmt-0 shape-the_row-Stmt-1 hidden-the_row-Stmt-1 shape-the_row-Expr-0 hidden-the_row-Expr-0 shape-the_row-Expr-1 hidden-the_row-Expr-1 hidden
the_place_is_asked_for = refl

replicated_words_are_asked_for : acts (returns (code.Alloc (at 5) built.MwMallocrepl (first ∷ []))) 0 [] (no_word ∷ one_word 8 ∷ []) ≡ act.Turn ∷ act.Load (at 1) (pos 100) ∷ act.Alloc (act.Replicated (pos 8)) ∷ []
unfolding digits shape-the_row-Stmt-0 hidden-the_row-Stmt-0 shape-the_row-Stmt-1 hidden-the_row-Stmt-1 shape-the_row-Expr-0 hidden-the_row-Expr-0 shape-the_row-Expr-1 hidden-the_row-Expr-1 hidden
replicated_words_are_asked_for = refl

-- ---- and, or: the right part is evaluated only where it counts

abbrev after_one : Expr → List Action
after_one e = acts (returns e) 0 [] (no_word ∷ [])

one_and_zero_is_zero : after_one (code.Both (at 4) (word 1) (word 0)) ≡ act.Turn ∷ act.End (pos 0) ∷ []
unfolding digits shape-the_row-Stmt-0 hidden-the_row-Stmt-0 shape-the_row-Stmt-1 hidden-the_row-Stmt-1 shape-the_row-Expr-0 hidden-the_row-Expr-0 shape-the_row-Expr-1 hidden-the_row-Expr-1 hidden
one_and_zero_is_zero = refl

zero_or_zero_is_zero : after_one (code.Either (at 4) (word 0) (word 0)) ≡ act.Turn ∷ act.End (pos 0) ∷ []
unfolding digits shape-the_row-Stmt-0 hidden-the_row-Stmt-0 shape-the_row-Stmt-1 hidden-the_row-Stmt-1 shape-the_row-Expr-0 hidden-the_row-Expr-0 shape-the_row-Expr-1 hidden-the_row-Expr-1 hidden
zero_or_zero_is_zero = refl

two_or_anything_is_one : after_one (code.Either (at 4) (word 2) second) ≡ act.Turn ∷ act.End (pos 1) ∷ []
unfolding digits shape-the_row-Stmt-0 hidden-the_row-Stmt-0 shape-the_row-Stmt-1 hidden-the_row-Stmt-1 shape-the_row-Expr-0 hidden-the_row-Expr-0 shape-the_row-Expr-1 hidden-the_row-Expr-1 hidden
two_or_anything_is_one = refl

the_left_part_comes_first : with_two (code.Both (at 4) first second) ≡ loads (act.End (pos 1))
unfolding digits shape-the_row-Stmt-0 hidden-the_row-Stmt-0 shape-the_row-Stmt-1 hidden-the_row-Stmt-1 shape-the_row-Expr-0 hidden-the_row-Expr-0 shape-the_row-Expr-1 hidden-the_row-Expr-1 hidden
the_left_part_comes_first = refl

-- ---- a quotient is taken once both words are known, and traps there

both_words_come_before_the_trap : acts (returns (code.Bin (at 5) by.Div first second)) 0 [] (no_word ∷ one_word 8 ∷ one_word 0 ∷ []) ≡ loads (act.Trap (at 5) kind.Divide)
unfolding digits shape-the_row-Stmt-0 hidden-the_row-Stmt-0 shape-the_row-Stmt-1 hidden-the_row-Stmt-1 shape-the_row-Expr-0 hidden-the_row-Expr-0 shape-the_row-Expr-1 hidden-the_row-Expr-1 hidden
both_words_come_before_the_trap = refl

-- ---- the second way of a test, and a continue in an inner loop

a_test_of_zero_goes_the_second_way : acts (function 0 0 false (code_stmt.If (word 0) (Return (word 5)) (Return (word 6)) ∷ []) ∷ []) 0 [] (no_word ∷ []) ≡ act.Turn ∷ act.End (pos 6) ∷ []
unfolding digits shape-the_row-Stmt-0 hidden-the_row-Stmt-0 shape-the_row-Stmt-1 hidden-the_row-Stmt-1 shape-the_row-Expr-0 hidden-the_row-Expr-0 shape-the_row-Expr-1 hidden-the_row-Expr-1 hidden
a_test_of_zero_goes_the_second_way = refl

any_word_but_zero_is_true : acts (function 0 0 false (code_stmt.If (code.Bin (at 1) by.Sub (word 1) (word 3)) (Return (word 5)) (Return (word 6)) ∷ []) ∷ []) 0 [] (no_word ∷ []) ≡ act.Turn ∷ act.End (pos 5) ∷ []
unfolding digits shape-the_row-Stmt-0 hidden-the_row-Stmt-0 shape-the_row-Stmt-1 hidden-the_row-Stmt-1 shape-the_row-Expr-0 hidden-the_row-Expr-0 shape-the_row-Expr-1 hidden-the_row-Expr-1 hidden
any_word_but_zero_is_true = refl

a_value_comes_before_the_sync_of_its_return : acts (function 0 0 true (Return first ∷ []) ∷ []) 0 [] (no_word ∷ one_word 8 ∷ no_word ∷ []) ≡ act.Turn ∷ act.Load (at 1) (pos 100) ∷ act.Sync 1 ∷ act.End (pos 8) ∷ []
unfolding digits shape-the_row-Stmt-0 hidden-the_row-Stmt-0 shape-the_row-Stmt-1 hidden-the_row-Stmt-1 shape-the_row-Expr-0 hidden-the_row-Expr-0 shape-the_row-Expr-1 hidden-the_row-Expr-1 hidden
a_value_comes_before_the_sync_of_its_return = refl
