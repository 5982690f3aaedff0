-- Spawns, targets and syncs, computed.
use Rattle.std.proofs.Common.{◌≡◌, List, [], ◌∷◌, refl, pos, true, false, Some, None, codes}
use Rattle.std.specs.Fmt.{digits}
use Rattle.word_ops.specs.declared.format.Part.TheVariants.{Byte, Long}
use Rattle.cilk_ast.specs.declared.program.Expr as code
use Rattle.cilk_ast.specs.declared.program.Expr.TheBlock.{shape-the_row-Expr-0, hidden-the_row-Expr-0, shape-the_row-Expr-1, hidden-the_row-Expr-1}
use Rattle.cilk_ast.specs.declared.program.Expr.{Expr, Slot, Fence}
use Rattle.cilk_ast.specs.declared.program.Stmt.{Eval, Set, Spawn, Return, Sync}
use Rattle.cilk_ast.specs.declared.program.Stmt.TheBlock.{shape-the_row-Stmt-0, hidden-the_row-Stmt-0, shape-the_row-Stmt-1, hidden-the_row-Stmt-1}
use Rattle.cilk_ast.specs.declared.program.Function.{Function}
use Rattle.world_model.specs.Action as act
use Rattle.world_model.specs.Action.{Answers}
use Rattle.cilk_model.specs.Acts.{acts}
use Rattle.cilk_model.proofs.Samples.{at, word, function, no_word, one_word}
use denote.Hole.Carrier.{hidden}

-- long one(long v) { return v; }
abbrev one : Function
one = function 1 1 false (Return (Slot 0) ∷ [])

-- long mid() { long y = cilk_spawn one(2); cilk_sync; return y; }
abbrev mid : Function
mid = function 0 1 true (Set 0 (word 0) ∷ Spawn (at 20) (Some 0) 0 None (word 2 ∷ []) ∷ Sync ∷ Return (Slot 0) ∷ [])

-- int main() { long x = 7; x = cilk_spawn one(1); long m = mid(); long b = x; cilk_sync;
-- printf("%ld %ld %ld\n", m, b, x); return 0; }
abbrev nested : List Function
nested = one ∷ mid ∷ function 0 3 true
    (Set 0 (word 7) ∷ Spawn (at 30) (Some 0) 0 None (word 1 ∷ []) ∷ Set 1 (code.Call (at 40) 1 []) ∷ Set 2 (Slot 0) ∷ Sync
    ∷ Eval (code.Print (Long ∷ Byte 32 ∷ Long ∷ Byte 32 ∷ Long ∷ Byte 10 ∷ []) (Slot 1 ∷ Slot 2 ∷ Slot 0 ∷ [])) ∷ Return (word 0) ∷ []) ∷ []

-- Turn; Spawn; mid's Turn, Spawn, Sync, and Sync of its return; Sync; Print; Sync of the return
abbrev nested_answers : Answers
nested_answers = no_word ∷ no_word ∷ no_word ∷ no_word ∷ one_word 2 ∷ no_word ∷ one_word 1 ∷ no_word ∷ no_word ∷ []

a_sync_joins_its_own_children_and_a_target_keeps_its_word_until_then : acts nested 2 [] nested_answers
    ≡ act.Turn ∷ act.Spawn 1 0 (pos 1 ∷ []) None ∷ act.Turn ∷ act.Spawn 2 0 (pos 2 ∷ []) None ∷ act.Sync 2 ∷ act.Sync 2 ∷ act.Sync 1
    ∷ act.Print (codes "2 7 1\n") ∷ act.Sync 1 ∷ act.End (pos 0) ∷ []
unfolding digits shape-the_row-Stmt-0 hidden-the_row-Stmt-0 shape-the_row-Stmt-1 hidden-the_row-Stmt-1 shape-the_row-Expr-0 hidden-the_row-Expr-0 shape-the_row-Expr-1 hidden-the_row-Expr-1 hidden
a_sync_joins_its_own_children_and_a_target_keeps_its_word_until_then = refl

-- two children for one slot, then what the slot has
abbrev twice : List Function
twice = one ∷ function 0 1 true
    (Spawn (at 1) (Some 0) 0 None (word 1 ∷ []) ∷ Spawn (at 2) None 0 None (word 2 ∷ []) ∷ Spawn (at 3) (Some 0) 0 None (word 3 ∷ []) ∷ Sync ∷ Return (Slot 0) ∷ []) ∷ []

of_two_children_for_one_slot_the_later_wins : acts twice 1 [] (no_word ∷ no_word ∷ no_word ∷ no_word ∷ (pos 10 ∷ pos 20 ∷ pos 30 ∷ []) ∷ no_word ∷ [])
    ≡ act.Turn ∷ act.Spawn 1 0 (pos 1 ∷ []) None ∷ act.Spawn 1 0 (pos 2 ∷ []) None ∷ act.Spawn 1 0 (pos 3 ∷ []) None ∷ act.Sync 1 ∷ act.Sync 1 ∷ act.End (pos 30) ∷ []
unfolding digits shape-the_row-Stmt-0 hidden-the_row-Stmt-0 shape-the_row-Stmt-1 hidden-the_row-Stmt-1 shape-the_row-Expr-0 hidden-the_row-Expr-0 shape-the_row-Expr-1 hidden-the_row-Expr-1 hidden
of_two_children_for_one_slot_the_later_wins = refl

-- x = cilk_spawn one(5); return x;
abbrev returns_early : List Function
returns_early = one ∷ function 0 1 true (Set 0 (word 7) ∷ Spawn (at 1) (Some 0) 0 None (word 5 ∷ []) ∷ Return (Slot 0) ∷ []) ∷ []

a_return_syncs_after_its_value_is_evaluated : acts returns_early 1 [] (no_word ∷ no_word ∷ one_word 5 ∷ []) ≡ act.Turn ∷ act.Spawn 1 0 (pos 5 ∷ []) None ∷ act.Sync 1 ∷ act.End (pos 7) ∷ []
unfolding digits shape-the_row-Stmt-0 hidden-the_row-Stmt-0 shape-the_row-Stmt-1 hidden-the_row-Stmt-1 shape-the_row-Expr-0 hidden-the_row-Expr-0 shape-the_row-Expr-1 hidden-the_row-Expr-1 hidden
a_return_syncs_after_its_value_is_evaluated = refl

the_end_of_a_body_that_spawns_syncs : acts (one ∷ function 0 0 true (Spawn (at 1) None 0 None (word 5 ∷ []) ∷ []) ∷ []) 1 [] (no_word ∷ no_word ∷ one_word 5 ∷ [])
    ≡ act.Turn ∷ act.Spawn 1 0 (pos 5 ∷ []) None ∷ act.Sync 1 ∷ act.End (pos 0) ∷ []
unfolding digits shape-the_row-Stmt-0 hidden-the_row-Stmt-0 shape-the_row-Stmt-1 hidden-the_row-Stmt-1 shape-the_row-Expr-0 hidden-the_row-Expr-0 shape-the_row-Expr-1 hidden-the_row-Expr-1 hidden
the_end_of_a_body_that_spawns_syncs = refl

a_sync_is_a_step_where_nothing_was_spawned : acts (function 0 0 false (Sync ∷ Return (word 3) ∷ []) ∷ []) 0 [] (no_word ∷ no_word ∷ []) ≡ act.Turn ∷ act.Sync 1 ∷ act.End (pos 3) ∷ []
unfolding digits shape-the_row-Stmt-0 hidden-the_row-Stmt-0 shape-the_row-Stmt-1 hidden-the_row-Stmt-1 shape-the_row-Expr-0 hidden-the_row-Expr-0 shape-the_row-Expr-1 hidden-the_row-Expr-1 hidden
a_sync_is_a_step_where_nothing_was_spawned = refl
