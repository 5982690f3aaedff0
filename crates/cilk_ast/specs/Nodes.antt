-- How large a program is: its expressions, its statements and the slots that its `cilk_for`s copy.
use Rattle.std.specs.Prelude.{ℕ, suc, ◌+◌, List, [], length, map, sum}
use Rattle.cilk_ast.specs.declared.program.Function.{Function}
use Rattle.cilk_ast.specs.Parts.{expressions_of}
use Rattle.cilk_ast.specs.declared.program.Expr.{Expr, Word, Slot, Call', Fence, Where, Print', Alloc', Row_of-Expr as Args, end_of-Expr as no_args, more_of-Expr as more_args}
use Rattle.cilk_ast.specs.Expression.{Un, Bin, Both, Either, Load, Post, Add, Swap, Cas, Init, Move}
use Rattle.cilk_ast.specs.declared.program.Stmt.{Stmt, Block', Each, Row_of-Stmt as Stmts, end_of-Stmt as no_stmts, more_of-Stmt as more_stmts, AddTo, Break, Continue, Eval, If', Loop', Nothing, Return, Set, Spawn, Store, Sync}
use Rattle.cilk_ast.specs.Statement.{If, Loop}

-- The expressions in an expression, itself and its arguments included.
abbrev mutual
  pub expression_nodes : Expr → ℕ
  expression_nodes (Word word) = 1
  expression_nodes (Slot slot) = 1
  expression_nodes (Un at op inner) = suc (expression_nodes inner)
  expression_nodes (Bin at op left right) = suc (expression_nodes left + expression_nodes right)
  expression_nodes (Both at left right) = suc (expression_nodes left + expression_nodes right)
  expression_nodes (Either at left right) = suc (expression_nodes left + expression_nodes right)
  expression_nodes (Load at address) = suc (expression_nodes address)
  expression_nodes (Call' at function n args) = suc (argument_nodes args)
  expression_nodes (Post at op address value) = suc (expression_nodes address + expression_nodes value)
  expression_nodes (Add at address value) = suc (expression_nodes address + expression_nodes value)
  expression_nodes (Swap at address value) = suc (expression_nodes address + expression_nodes value)
  expression_nodes (Cas at address expected value) = suc (expression_nodes address + expression_nodes expected + expression_nodes value)
  expression_nodes (Init at address value) = suc (expression_nodes address + expression_nodes value)
  expression_nodes Fence = 1
  expression_nodes (Move at address) = suc (expression_nodes address)
  expression_nodes Where = 1
  expression_nodes (Print' format n args) = suc (argument_nodes args)
  expression_nodes (Alloc' at which n args) = suc (argument_nodes args)

  pub argument_nodes : {n : _} → Args n → ℕ
  argument_nodes no_args = 0
  argument_nodes (more_args arg rest) = expression_nodes arg + argument_nodes rest

-- The slots that a statement copies.
abbrev pub copies_of : Stmt → List ℕ
copies_of Nothing = []
copies_of (Block' _ _) = []
copies_of (Eval _) = []
copies_of (Set _ _) = []
copies_of (Store _ _ _) = []
copies_of (AddTo _ _ _) = []
copies_of (Spawn _ _ _ _ _) = []
copies_of (If' _ _ _ _ _) = []
copies_of (Loop' _ _ _ _ _) = []
copies_of (Each at low high function copies) = copies
copies_of Break = []
copies_of Continue = []
copies_of (Return _) = []
copies_of Sync = []

-- A statement without the statements in it: itself, its expressions, and the slots that it copies.
abbrev pub own_nodes : Stmt → ℕ
own_nodes body = suc (sum (map expression_nodes (expressions_of body)) + length (copies_of body))

-- The nodes of a statement.
abbrev mutual
  pub statement_nodes : Stmt → ℕ
  statement_nodes Nothing = own_nodes Nothing
  statement_nodes (Block' n body) = suc (row_nodes body)
  statement_nodes (Eval value) = own_nodes (Eval value)
  statement_nodes (Set slot value) = own_nodes (Set slot value)
  statement_nodes (Store at address value) = own_nodes (Store at address value)
  statement_nodes (AddTo at address value) = own_nodes (AddTo at address value)
  statement_nodes (Spawn at target function hint args) = own_nodes (Spawn at target function hint args)
  statement_nodes (If test yes_ no_) = own_nodes (If test yes_ no_) + statement_nodes yes_ + statement_nodes no_
  statement_nodes (Loop test step body) = own_nodes (Loop test step body) + statement_nodes step + statement_nodes body
  statement_nodes (Each at low high function copies) = own_nodes (Each at low high function copies)
  statement_nodes Break = own_nodes Break
  statement_nodes Continue = own_nodes Continue
  statement_nodes (Return value) = own_nodes (Return value)
  statement_nodes Sync = own_nodes Sync

  pub row_nodes : {n : _} → Stmts n → ℕ
  row_nodes no_stmts = 0
  row_nodes (more_stmts first rest) = statement_nodes first + row_nodes rest

-- The nodes of a program: those of its functions' bodies.
abbrev pub node_count : List Function → ℕ
node_count functions = sum (map (λ f. statement_nodes f.body) functions)
