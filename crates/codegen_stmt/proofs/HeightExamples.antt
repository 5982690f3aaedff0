-- How high stacks grow, computed.
use Rattle.std.proofs.Common.{◌≡◌, [], ◌∷◌, refl, pos, true, Some, None}
use Rattle.word_ops.specs.declared.place.Pos.{Pos}
use Rattle.word_ops.specs.declared.operators.BinaryOp.TheVariants as by
use Rattle.cilk_ast.specs.declared.program.Expr as code
use Rattle.cilk_ast.specs.declared.program.Expr.{Expr, Word, Slot, Fence}
use Rattle.cilk_ast.specs.declared.program.Expr.TheBlock.{shape-the_row-Expr-0, hidden-the_row-Expr-0, hidden-the_row-Expr-1}
use Rattle.cilk_ast.specs.Expression.{Bin, Both}
use Rattle.cilk_ast.specs.declared.program.Stmt as code_stmt
use Rattle.cilk_ast.specs.declared.program.Stmt.{Nothing, Eval, Set, AddTo, Spawn, Each, Return, Sync}
use Rattle.cilk_ast.specs.declared.program.Stmt.TheBlock.{shape-the_row-Stmt-0, hidden-the_row-Stmt-0}
use Rattle.cilk_ast.specs.Statement.{If}
use Rattle.cilk_ast.specs.declared.program.Function.{Function}
use Rattle.codegen_stmt.specs.Heights.{expression_height, statement_height, greatest_height}
use denote.Hole.Carrier.{hidden}

abbrev at : Pos
at = record { line = 1; column = 1 }

abbrev minus : Expr → Expr → Expr
minus left right = Bin at by.Sub left right

words_wait_on_the_left : expression_height (minus (Word (pos 1)) (minus (Word (pos 2)) (Slot 0))) ≡ 3
words_wait_on_the_left = refl

none_wait_on_the_right : expression_height (minus (minus (Word (pos 1)) (Word (pos 2))) (Slot 0)) ≡ 2
none_wait_on_the_right = refl

a_choice_keeps_no_word : expression_height (Both at (Slot 0) (minus (Slot 0) (Slot 1))) ≡ 2
a_choice_keeps_no_word = refl

a_fence_alone_needs_no_word : statement_height (Eval Fence) ≡ 0
a_fence_alone_needs_no_word = refl

a_sum_keeps_its_address : statement_height (AddTo at (Slot 0) (minus (Slot 0) (Slot 1))) ≡ 4
a_sum_keeps_its_address = refl

a_child_needs_its_copies : statement_height (Each at (Word (pos 0)) (Word (pos 9)) 1 (0 ∷ 1 ∷ 2 ∷ [])) ≡ 4
a_child_needs_its_copies = refl

-- if (n < 2) return n; long x = cilk_spawn fib(n - 1); long y = fib(n - 2); cilk_sync; return x + y;
abbrev fib : Function
fib = record {
  name = [];
  params = 1;
  slots = 3;
  spawns = true;
  body = code_stmt.Block
      (If (Bin at by.Lt (Slot 0) (Word (pos 2))) (Return (Slot 0)) Nothing
      ∷ Set 1 (Word (pos 0)) ∷ Spawn at (Some 1) 0 None (minus (Slot 0) (Word (pos 1)) ∷ [])
      ∷ Set 2 (code.Call at 0 (minus (Slot 0) (Word (pos 2)) ∷ [])) ∷ Sync ∷ Return (Bin at by.Add (Slot 1) (Slot 2)) ∷ []);
}

fib_needs_two_words : greatest_height fib ≡ 2
unfolding shape-the_row-Stmt-0 hidden-the_row-Stmt-0 shape-the_row-Expr-0 hidden-the_row-Expr-0 hidden-the_row-Expr-1 hidden
fib_needs_two_words = refl
