-- How high the stack of a function grows: the height of each form, where earlier parts wait for later ones.
use Rattle.std.specs.Prelude.{◌≡◌, ◌≤◌, ℕ, suc, ◌+◌, max, List, [], ◌∷◌, length, Some, slice_get}
use Rattle.cilk_ast.specs.declared.program.Expr.{Expr, Word, Slot, Call', Fence, Where, Print', Alloc', Row_of-Expr as Args, end_of-Expr as no_args, more_of-Expr as more_args}
use Rattle.cilk_ast.specs.Expression.{Un, Bin, Both, Either, Load, Post, Add, Swap, Cas, Init, Move}
use Rattle.cilk_ast.specs.declared.program.Stmt.{Stmt, Block', Eval, Set, Store, AddTo, Spawn, Each, Return, Row_of-Stmt as Stmts, end_of-Stmt as no_stmts, more_of-Stmt as more_stmts}
use Rattle.cilk_ast.specs.Statement.{If, Loop}
use Rattle.cilk_ast.specs.declared.program.Function.{Function}
use Rattle.cilk_ast.specs.declared.program.Program.{Program}
use Rattle.threadlet_code.specs.declared.code.FuncCode.{FuncCode}
use Rattle.threadlet_code.specs.declared.code.Code.{Code}
use Rattle.codegen_stmt.specs.Whole.{kept_words}
use Rattle.codegen_stmt.specs.Compiled.{spawned_words}

-- A part whose value is used leaves a word.
abbrev pub used : ℕ → ℕ
used height = max 1 height

-- Parts with these heights, one after another, where k words wait: the greatest of k plus the first's, k + 1 plus
-- the next's, and so on.
abbrev pub in_turn : ℕ → List ℕ → ℕ
in_turn k [] = 0
in_turn k (height ∷ heights) = max (k + used height) (in_turn (suc k) heights)

abbrev mutual
  -- The height of an expression.
  pub expression_height : Expr → ℕ
  expression_height (Word word) = 1
  expression_height (Slot slot) = 1
  expression_height (Un at op inner) = used (expression_height inner)
  expression_height (Bin at op left right) = in_turn 0 (expression_height left ∷ expression_height right ∷ [])
  expression_height (Both at left right) = max (used (expression_height left)) (used (expression_height right))
  expression_height (Either at left right) = max (used (expression_height left)) (used (expression_height right))
  expression_height (Load at address) = used (expression_height address)
  expression_height (Call' at function n args) = used (in_turn 0 (argument_heights args))
  expression_height (Post at op address word) = in_turn 0 (expression_height address ∷ expression_height word ∷ [])
  expression_height (Add at address word) = in_turn 0 (expression_height address ∷ expression_height word ∷ [])
  expression_height (Swap at address word) = in_turn 0 (expression_height address ∷ expression_height word ∷ [])
  expression_height (Cas at address expected word) =
      in_turn 0 (expression_height address ∷ expression_height expected ∷ expression_height word ∷ [])
  expression_height (Init at address word) = in_turn 0 (expression_height address ∷ expression_height word ∷ [])
  expression_height Fence = 0
  expression_height (Move at address) = used (expression_height address)
  expression_height Where = 1
  expression_height (Print' format n args) = in_turn 0 (argument_heights args)
  expression_height (Alloc' at which n args) = used (in_turn 0 (argument_heights args))

  pub argument_heights : {n : _} → Args n → List ℕ
  argument_heights no_args = []
  argument_heights (more_args arg rest) = expression_height arg ∷ argument_heights rest

abbrev pub heights_of : List Expr → List ℕ
heights_of [] = []
heights_of (e ∷ rest) = expression_height e ∷ heights_of rest

abbrev mutual
  -- The greatest height of the forms in a statement.
  pub statement_height : Stmt → ℕ
  statement_height (Block' n body) = row_height body
  statement_height (Eval e) = expression_height e
  statement_height (Set slot e) = used (expression_height e)
  statement_height (Store at address e) = in_turn 0 (expression_height address ∷ expression_height e ∷ [])
  statement_height (AddTo at address e) = max (used (expression_height address)) (2 + used (expression_height e))
  statement_height (Spawn at target function hint args) = in_turn 0 (heights_of (spawned_words hint args))
  statement_height (If test yes_ no_) = max (used (expression_height test)) (max (statement_height yes_) (statement_height no_))
  statement_height (Loop test step body) = max (used (expression_height test)) (max (statement_height step) (statement_height body))
  statement_height (Each at low high function copies) =
      max (max (used (expression_height low)) (used (expression_height high))) (max 2 (suc (length copies)))
  statement_height (Return e) = used (expression_height e)
  statement_height _ = 0

  pub row_height : {n : _} → Stmts n → ℕ
  row_height no_stmts = 0
  row_height (more_stmts first rest) = max (statement_height first) (row_height rest)

-- The greatest height in a function, which returns 0 at its end.
abbrev pub greatest_height : Function → ℕ
greatest_height f = max (statement_height f.body) 1

-- Each function's slots and stack have no more words than its parameters, its locals and its greatest height; a
-- `cilk_for` makes two locals more.
abbrev pub IsNarrow : Code → Program → Type 0
IsNarrow code program = (g : ℕ) (f : Function) (h : FuncCode) → slice_get program.functions g ≡ Some f → slice_get code.functions g ≡ Some h →
    h.slots + h.height ≤ f.slots + kept_words f.body + greatest_height f
