-- What programs keep and how large they are, computed: each example breaks one condition.
use Rattle.std.proofs.Common.{◌≡◌, ℕ, List, [], ◌∷◌, refl, pos, Bool, true, false, Some, None}
use Rattle.word_ops.specs.declared.place.Pos.{Pos}
use Rattle.word_ops.specs.declared.operators.BinaryOp.TheVariants as by
use Rattle.word_ops.specs.declared.format.Part.{Part}
use Rattle.word_ops.specs.declared.format.Part.TheVariants.{Byte, Long}
use Rattle.cilk_ast.specs.declared.builtin.Builtin.TheVariants as built
use Rattle.cilk_ast.specs.declared.program.Expr as code
use Rattle.cilk_ast.specs.declared.program.Expr.TheBlock.{shape-the_row-Expr-0, hidden-the_row-Expr-0, shape-the_row-Expr-1, hidden-the_row-Expr-1}
use Rattle.cilk_ast.specs.declared.program.Expr.{Expr, Word, Slot}
use Rattle.cilk_ast.specs.declared.program.Stmt as code_stmt
use Rattle.cilk_ast.specs.declared.program.Stmt.{Stmt, Nothing, Eval, Set, Spawn, Each, Break, Continue, Return}
use Rattle.cilk_ast.specs.declared.program.Stmt.TheBlock.{shape-the_row-Stmt-0, hidden-the_row-Stmt-0, shape-the_row-Stmt-1, hidden-the_row-Stmt-1}
use Rattle.cilk_ast.specs.declared.program.Function.{Function}
use Rattle.cilk_ast.specs.Kept.{keeps}
use Rattle.cilk_ast.specs.Nodes.{node_count}
use denote.Hole.Carrier.{hidden}

abbrev at : Pos
at = record { line = 1; column = 1 }

abbrev function : ℕ → ℕ → Bool → List Stmt → Function
function params slots spawns body = record { name = []; params = params; slots = slots; spawns = spawns; body = code_stmt.Block body }

abbrev one : Expr
one = Word (pos 1)

-- a program of main with one slot and this body, and a function of two parameters
abbrev keeps_main : Bool → List Stmt → Bool
keeps_main spawns body = keeps (function 0 1 spawns body ∷ function 2 3 false [] ∷ []) 0

abbrev prints : List Part → List Expr → Stmt
prints format args = Eval (code.Print format args)

an_empty_main_is_a_program : keeps_main false [] ≡ true
unfolding shape-the_row-Stmt-0 hidden-the_row-Stmt-0 shape-the_row-Stmt-1 hidden-the_row-Stmt-1 shape-the_row-Expr-0 hidden-the_row-Expr-0 shape-the_row-Expr-1 hidden-the_row-Expr-1 hidden
an_empty_main_is_a_program = refl

without_main_there_is_no_program : keeps (function 0 0 false [] ∷ []) 1 ≡ false
unfolding shape-the_row-Stmt-0 hidden-the_row-Stmt-0 shape-the_row-Stmt-1 hidden-the_row-Stmt-1 shape-the_row-Expr-0 hidden-the_row-Expr-0 shape-the_row-Expr-1 hidden-the_row-Expr-1 hidden
without_main_there_is_no_program = refl

main_has_no_parameters : keeps (function 0 0 false [] ∷ function 1 1 false [] ∷ []) 1 ≡ false
unfolding shape-the_row-Stmt-0 hidden-the_row-Stmt-0 shape-the_row-Stmt-1 hidden-the_row-Stmt-1 shape-the_row-Expr-0 hidden-the_row-Expr-0 shape-the_row-Expr-1 hidden-the_row-Expr-1 hidden
main_has_no_parameters = refl

parameters_have_slots : keeps (function 0 0 false [] ∷ function 2 1 false [] ∷ []) 0 ≡ false
unfolding shape-the_row-Stmt-0 hidden-the_row-Stmt-0 shape-the_row-Stmt-1 hidden-the_row-Stmt-1 shape-the_row-Expr-0 hidden-the_row-Expr-0 shape-the_row-Expr-1 hidden-the_row-Expr-1 hidden
parameters_have_slots = refl

as_many_slots_as_2_to_the_28_are_kept : keeps (function 0 268435456 false [] ∷ []) 0 ≡ true
unfolding shape-the_row-Stmt-0 hidden-the_row-Stmt-0 shape-the_row-Stmt-1 hidden-the_row-Stmt-1 shape-the_row-Expr-0 hidden-the_row-Expr-0 shape-the_row-Expr-1 hidden-the_row-Expr-1 hidden
as_many_slots_as_2_to_the_28_are_kept = refl

one_more_is_not : keeps (function 0 268435457 false [] ∷ []) 0 ≡ false
unfolding shape-the_row-Stmt-0 hidden-the_row-Stmt-0 shape-the_row-Stmt-1 hidden-the_row-Stmt-1 shape-the_row-Expr-0 hidden-the_row-Expr-0 shape-the_row-Expr-1 hidden-the_row-Expr-1 hidden
one_more_is_not = refl

the_only_slot_is_there : keeps_main false (Eval (Slot 0) ∷ []) ≡ true
unfolding shape-the_row-Stmt-0 hidden-the_row-Stmt-0 shape-the_row-Stmt-1 hidden-the_row-Stmt-1 shape-the_row-Expr-0 hidden-the_row-Expr-0 shape-the_row-Expr-1 hidden-the_row-Expr-1 hidden
the_only_slot_is_there = refl

the_next_is_not : keeps_main false (Eval (code.Load at (Slot 1)) ∷ []) ≡ false
unfolding shape-the_row-Stmt-0 hidden-the_row-Stmt-0 shape-the_row-Stmt-1 hidden-the_row-Stmt-1 shape-the_row-Expr-0 hidden-the_row-Expr-0 shape-the_row-Expr-1 hidden-the_row-Expr-1 hidden
the_next_is_not = refl

no_slot_is_set_that_is_not_there : keeps_main false (Set 1 one ∷ []) ≡ false
unfolding shape-the_row-Stmt-0 hidden-the_row-Stmt-0 shape-the_row-Stmt-1 hidden-the_row-Stmt-1 shape-the_row-Expr-0 hidden-the_row-Expr-0 shape-the_row-Expr-1 hidden-the_row-Expr-1 hidden
no_slot_is_set_that_is_not_there = refl

a_call_gives_each_parameter_an_argument : keeps_main false (Eval (code.Call at 1 (one ∷ one ∷ [])) ∷ []) ≡ true
unfolding shape-the_row-Stmt-0 hidden-the_row-Stmt-0 shape-the_row-Stmt-1 hidden-the_row-Stmt-1 shape-the_row-Expr-0 hidden-the_row-Expr-0 shape-the_row-Expr-1 hidden-the_row-Expr-1 hidden
a_call_gives_each_parameter_an_argument = refl

a_call_with_too_few_is_refused : keeps_main false (Eval (code.Call at 1 (one ∷ [])) ∷ []) ≡ false
unfolding shape-the_row-Stmt-0 hidden-the_row-Stmt-0 shape-the_row-Stmt-1 hidden-the_row-Stmt-1 shape-the_row-Expr-0 hidden-the_row-Expr-0 shape-the_row-Expr-1 hidden-the_row-Expr-1 hidden
a_call_with_too_few_is_refused = refl

a_called_function_is_there : keeps_main false (Eval (code.Call at 2 []) ∷ []) ≡ false
unfolding shape-the_row-Stmt-0 hidden-the_row-Stmt-0 shape-the_row-Stmt-1 hidden-the_row-Stmt-1 shape-the_row-Expr-0 hidden-the_row-Expr-0 shape-the_row-Expr-1 hidden-the_row-Expr-1 hidden
a_called_function_is_there = refl

a_spawn_gives_each_parameter_an_argument : keeps_main true (Spawn at (Some 0) 1 None (one ∷ one ∷ []) ∷ []) ≡ true
unfolding shape-the_row-Stmt-0 hidden-the_row-Stmt-0 shape-the_row-Stmt-1 hidden-the_row-Stmt-1 shape-the_row-Expr-0 hidden-the_row-Expr-0 shape-the_row-Expr-1 hidden-the_row-Expr-1 hidden
a_spawn_gives_each_parameter_an_argument = refl

a_spawn_with_too_many_is_refused : keeps_main true (Spawn at None 1 None (one ∷ one ∷ one ∷ []) ∷ []) ≡ false
unfolding shape-the_row-Stmt-0 hidden-the_row-Stmt-0 shape-the_row-Stmt-1 hidden-the_row-Stmt-1 shape-the_row-Expr-0 hidden-the_row-Expr-0 shape-the_row-Expr-1 hidden-the_row-Expr-1 hidden
a_spawn_with_too_many_is_refused = refl

a_target_is_there : keeps_main true (Spawn at (Some 1) 1 None (one ∷ one ∷ []) ∷ []) ≡ false
unfolding shape-the_row-Stmt-0 hidden-the_row-Stmt-0 shape-the_row-Stmt-1 hidden-the_row-Stmt-1 shape-the_row-Expr-0 hidden-the_row-Expr-0 shape-the_row-Expr-1 hidden-the_row-Expr-1 hidden
a_target_is_there = refl

a_cilk_for_gives_its_variable_and_its_copies : keeps_main true (Each at one one 1 (0 ∷ []) ∷ []) ≡ true
unfolding shape-the_row-Stmt-0 hidden-the_row-Stmt-0 shape-the_row-Stmt-1 hidden-the_row-Stmt-1 shape-the_row-Expr-0 hidden-the_row-Expr-0 shape-the_row-Expr-1 hidden-the_row-Expr-1 hidden
a_cilk_for_gives_its_variable_and_its_copies = refl

a_cilk_for_without_a_copy_gives_one_word : keeps_main true (Each at one one 1 [] ∷ []) ≡ false
unfolding shape-the_row-Stmt-0 hidden-the_row-Stmt-0 shape-the_row-Stmt-1 hidden-the_row-Stmt-1 shape-the_row-Expr-0 hidden-the_row-Expr-0 shape-the_row-Expr-1 hidden-the_row-Expr-1 hidden
a_cilk_for_without_a_copy_gives_one_word = refl

a_copied_slot_is_there : keeps_main true (Each at one one 1 (1 ∷ []) ∷ []) ≡ false
unfolding shape-the_row-Stmt-0 hidden-the_row-Stmt-0 shape-the_row-Stmt-1 hidden-the_row-Stmt-1 shape-the_row-Expr-0 hidden-the_row-Expr-0 shape-the_row-Expr-1 hidden-the_row-Expr-1 hidden
a_copied_slot_is_there = refl

a_function_that_spawns_says_so : keeps_main false (Spawn at None 1 None (one ∷ one ∷ []) ∷ []) ≡ false
unfolding shape-the_row-Stmt-0 hidden-the_row-Stmt-0 shape-the_row-Stmt-1 hidden-the_row-Stmt-1 shape-the_row-Expr-0 hidden-the_row-Expr-0 shape-the_row-Expr-1 hidden-the_row-Expr-1 hidden
a_function_that_spawns_says_so = refl

a_function_that_does_not_spawn_says_so : keeps_main true [] ≡ false
unfolding shape-the_row-Stmt-0 hidden-the_row-Stmt-0 shape-the_row-Stmt-1 hidden-the_row-Stmt-1 shape-the_row-Expr-0 hidden-the_row-Expr-0 shape-the_row-Expr-1 hidden-the_row-Expr-1 hidden
a_function_that_does_not_spawn_says_so = refl

a_spawn_deep_in_a_body_counts : keeps_main true (code_stmt.Loop one Nothing (code_stmt.If one Nothing (Each at one one 1 (0 ∷ []))) ∷ []) ≡ true
unfolding shape-the_row-Stmt-0 hidden-the_row-Stmt-0 shape-the_row-Stmt-1 hidden-the_row-Stmt-1 shape-the_row-Expr-0 hidden-the_row-Expr-0 shape-the_row-Expr-1 hidden-the_row-Expr-1 hidden
a_spawn_deep_in_a_body_counts = refl

a_break_stands_in_a_loop : keeps_main false (code_stmt.Loop one Nothing (code_stmt.If one Break Continue) ∷ []) ≡ true
unfolding shape-the_row-Stmt-0 hidden-the_row-Stmt-0 shape-the_row-Stmt-1 hidden-the_row-Stmt-1 shape-the_row-Expr-0 hidden-the_row-Expr-0 shape-the_row-Expr-1 hidden-the_row-Expr-1 hidden
a_break_stands_in_a_loop = refl

a_break_alone_is_refused : keeps_main false (code_stmt.If one Break Nothing ∷ []) ≡ false
unfolding shape-the_row-Stmt-0 hidden-the_row-Stmt-0 shape-the_row-Stmt-1 hidden-the_row-Stmt-1 shape-the_row-Expr-0 hidden-the_row-Expr-0 shape-the_row-Expr-1 hidden-the_row-Expr-1 hidden
a_break_alone_is_refused = refl

the_step_of_a_loop_is_not_its_body : keeps_main false (code_stmt.Loop one Continue Nothing ∷ []) ≡ false
unfolding shape-the_row-Stmt-0 hidden-the_row-Stmt-0 shape-the_row-Stmt-1 hidden-the_row-Stmt-1 shape-the_row-Expr-0 hidden-the_row-Expr-0 shape-the_row-Expr-1 hidden-the_row-Expr-1 hidden
the_step_of_a_loop_is_not_its_body = refl

an_allocation_has_its_words_arguments : keeps_main false (Eval (code.Alloc at built.MwMalloc2dlong (one ∷ one ∷ [])) ∷ []) ≡ true
unfolding shape-the_row-Stmt-0 hidden-the_row-Stmt-0 shape-the_row-Stmt-1 hidden-the_row-Stmt-1 shape-the_row-Expr-0 hidden-the_row-Expr-0 shape-the_row-Expr-1 hidden-the_row-Expr-1 hidden
an_allocation_has_its_words_arguments = refl

an_allocation_with_too_few_is_refused : keeps_main false (Eval (code.Alloc at built.MwMalloc2dlong (one ∷ [])) ∷ []) ≡ false
unfolding shape-the_row-Stmt-0 hidden-the_row-Stmt-0 shape-the_row-Stmt-1 hidden-the_row-Stmt-1 shape-the_row-Expr-0 hidden-the_row-Expr-0 shape-the_row-Expr-1 hidden-the_row-Expr-1 hidden
an_allocation_with_too_few_is_refused = refl

only_four_words_allocate : keeps_main false (Eval (code.Alloc at built.NodeId []) ∷ []) ≡ false
unfolding shape-the_row-Stmt-0 hidden-the_row-Stmt-0 shape-the_row-Stmt-1 hidden-the_row-Stmt-1 shape-the_row-Expr-0 hidden-the_row-Expr-0 shape-the_row-Expr-1 hidden-the_row-Expr-1 hidden
only_four_words_allocate = refl

a_print_has_its_words : keeps_main false (prints (Long ∷ Byte 10 ∷ []) (one ∷ []) ∷ []) ≡ true
unfolding shape-the_row-Stmt-0 hidden-the_row-Stmt-0 shape-the_row-Stmt-1 hidden-the_row-Stmt-1 shape-the_row-Expr-0 hidden-the_row-Expr-0 shape-the_row-Expr-1 hidden-the_row-Expr-1 hidden
a_print_has_its_words = refl

a_print_with_too_many_is_refused : keeps_main false (prints (Byte 10 ∷ []) (one ∷ []) ∷ []) ≡ false
unfolding shape-the_row-Stmt-0 hidden-the_row-Stmt-0 shape-the_row-Stmt-1 hidden-the_row-Stmt-1 shape-the_row-Expr-0 hidden-the_row-Expr-0 shape-the_row-Expr-1 hidden-the_row-Expr-1 hidden
a_print_with_too_many_is_refused = refl

formats_have_blanks_and_tildes : keeps_main false (prints (Byte 32 ∷ Byte 126 ∷ []) [] ∷ []) ≡ true
unfolding shape-the_row-Stmt-0 hidden-the_row-Stmt-0 shape-the_row-Stmt-1 hidden-the_row-Stmt-1 shape-the_row-Expr-0 hidden-the_row-Expr-0 shape-the_row-Expr-1 hidden-the_row-Expr-1 hidden
formats_have_blanks_and_tildes = refl

a_tab_is_refused : keeps_main false (prints (Byte 9 ∷ []) [] ∷ []) ≡ false
unfolding shape-the_row-Stmt-0 hidden-the_row-Stmt-0 shape-the_row-Stmt-1 hidden-the_row-Stmt-1 shape-the_row-Expr-0 hidden-the_row-Expr-0 shape-the_row-Expr-1 hidden-the_row-Expr-1 hidden
a_tab_is_refused = refl

bytes_over_126_are_refused : keeps_main false (prints (Byte 127 ∷ []) [] ∷ []) ≡ false
unfolding shape-the_row-Stmt-0 hidden-the_row-Stmt-0 shape-the_row-Stmt-1 hidden-the_row-Stmt-1 shape-the_row-Expr-0 hidden-the_row-Expr-0 shape-the_row-Expr-1 hidden-the_row-Expr-1 hidden
bytes_over_126_are_refused = refl

a_condition_holds_in_arguments_too : keeps_main false (Return (code.Call at 1 (one ∷ code.Bin at by.Add one (Slot 7) ∷ [])) ∷ []) ≡ false
unfolding shape-the_row-Stmt-0 hidden-the_row-Stmt-0 shape-the_row-Stmt-1 hidden-the_row-Stmt-1 shape-the_row-Expr-0 hidden-the_row-Expr-0 shape-the_row-Expr-1 hidden-the_row-Expr-1 hidden
a_condition_holds_in_arguments_too = refl

-- { f(1, 1 + 1); cilk_for (..; 1; 1) with two copies }: the block, a statement, a call, its 2 arguments and 2 parts
-- of one, the cilk_for, its 2 bounds and 2 copies

arguments_and_copies_are_counted : node_count (function 0 2 true (Eval (code.Call at 1 (one ∷ code.Bin at by.Add one one ∷ [])) ∷ Each at one one 2 (0 ∷ 1 ∷ []) ∷ []) ∷ []) ≡ 12
unfolding shape-the_row-Stmt-0 hidden-the_row-Stmt-0 shape-the_row-Stmt-1 hidden-the_row-Stmt-1 shape-the_row-Expr-0 hidden-the_row-Expr-0 shape-the_row-Expr-1 hidden-the_row-Expr-1 hidden
arguments_and_copies_are_counted = refl
