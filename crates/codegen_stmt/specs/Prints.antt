-- The formats that a program prints.
use Rattle.std.specs.Prelude.{List, [], ◌∷◌, ◌++◌, Some, None}
use Rattle.word_ops.specs.declared.format.Part.{Part}
use Rattle.cilk_ast.specs.declared.program.Function.{Function}
use Rattle.cilk_ast.specs.declared.program.Expr.{Expr, Call', Print', Alloc', Row_of-Expr as Args, end_of-Expr as no_args, more_of-Expr as more_args}
use Rattle.cilk_ast.specs.Expression.{Un, Bin, Both, Either, Load, Post, Add, Swap, Cas, Init, Move}
use Rattle.cilk_ast.specs.declared.program.Stmt.{Stmt, Block', Eval, Set, Store, AddTo, Spawn, Each, Return, Row_of-Stmt as Stmts, end_of-Stmt as no_stmts, more_of-Stmt as more_stmts}
use Rattle.cilk_ast.specs.Statement.{If, Loop}

abbrev mutual
  -- The formats of the prints in an expression, in the order in which they are evaluated.
  pub prints_of : Expr → List (List Part)
  prints_of (Un at op inner) = prints_of inner
  prints_of (Bin at op left right) = prints_of left ++ prints_of right
  prints_of (Both at left right) = prints_of left ++ prints_of right
  prints_of (Either at left right) = prints_of left ++ prints_of right
  prints_of (Load at address) = prints_of address
  prints_of (Call' at function n args) = prints_of_all args
  prints_of (Post at op address word) = prints_of address ++ prints_of word
  prints_of (Add at address word) = prints_of address ++ prints_of word
  prints_of (Swap at address word) = prints_of address ++ prints_of word
  prints_of (Cas at address expected word) = prints_of address ++ (prints_of expected ++ prints_of word)
  prints_of (Init at address word) = prints_of address ++ prints_of word
  prints_of (Move at address) = prints_of address
  prints_of (Print' format n args) = prints_of_all args ++ format ∷ []
  prints_of (Alloc' at which n args) = prints_of_all args
  prints_of _ = []

  pub prints_of_all : {n : _} → Args n → List (List Part)
  prints_of_all no_args = []
  prints_of_all (more_args arg rest) = prints_of arg ++ prints_of_all rest

-- The same of expressions in a list.
abbrev pub prints_of_each : List Expr → List (List Part)
prints_of_each [] = []
prints_of_each (e ∷ rest) = prints_of e ++ prints_of_each rest

abbrev mutual
  -- Those of a statement, in the order of its code.
  pub prints_in : Stmt → List (List Part)
  prints_in (Block' n body) = prints_in_all body
  prints_in (Eval e) = prints_of e
  prints_in (Set slot e) = prints_of e
  prints_in (Store at address e) = prints_of address ++ prints_of e
  prints_in (AddTo at address e) = prints_of address ++ prints_of e
  prints_in (Spawn at target function None args) = prints_of_each args
  prints_in (Spawn at target function (Some hint) args) = prints_of hint ++ prints_of_each args
  prints_in (If test yes_ no_) = prints_of test ++ (prints_in yes_ ++ prints_in no_)
  prints_in (Loop test step body) = prints_of test ++ (prints_in body ++ prints_in step)
  prints_in (Each at low high function copies) = prints_of low ++ prints_of high
  prints_in (Return e) = prints_of e
  prints_in _ = []

  pub prints_in_all : {n : _} → Stmts n → List (List Part)
  prints_in_all no_stmts = []
  prints_in_all (more_stmts first rest) = prints_in first ++ prints_in_all rest

-- Those of functions.
abbrev pub prints_in_functions : List Function → List (List Part)
prints_in_functions [] = []
prints_in_functions (f ∷ functions) = prints_in f.body ++ prints_in_functions functions
