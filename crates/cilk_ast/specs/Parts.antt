-- What holds of each part of a program.
use Rattle.std.specs.Prelude.{Bool, true, ◌&&◌, List, [], ◌∷◌, Some, None}
use Rattle.cilk_ast.specs.declared.program.Expr.{Expr, Word, Slot, Call', Fence, Where, Print', Alloc', Row_of-Expr as Args, end_of-Expr as no_args, more_of-Expr as more_args}
use Rattle.cilk_ast.specs.Expression.{Un, Bin, Both, Either, Load, Post, Add, Swap, Cas, Init, Move}
use Rattle.cilk_ast.specs.declared.program.Stmt.{Stmt, Block', Eval, Set, Store, AddTo, Spawn, Each, Return, Row_of-Stmt as Stmts, end_of-Stmt as no_stmts, more_of-Stmt as more_stmts, Break, Continue, If', Loop', Nothing, Sync}
use Rattle.cilk_ast.specs.Statement.{If, Loop}

-- Each expression in an expression, itself included, has a property.
module _ (has : Expr → Bool) where
  abbrev mutual
    pub every : Expr → Bool
    every (Word word) = has (Word word)
    every (Slot slot) = has (Slot slot)
    every (Un at op inner) = has (Un at op inner) && every inner
    every (Bin at op left right) = has (Bin at op left right) && every left && every right
    every (Both at left right) = has (Both at left right) && every left && every right
    every (Either at left right) = has (Either at left right) && every left && every right
    every (Load at address) = has (Load at address) && every address
    every (Call' at function n args) = has (Call' at function n args) && every_arg args
    every (Post at op address value) = has (Post at op address value) && every address && every value
    every (Add at address value) = has (Add at address value) && every address && every value
    every (Swap at address value) = has (Swap at address value) && every address && every value
    every (Cas at address expected value) = has (Cas at address expected value) && every address && every expected && every value
    every (Init at address value) = has (Init at address value) && every address && every value
    every Fence = has Fence
    every (Move at address) = has (Move at address) && every address
    every Where = has Where
    every (Print' format n args) = has (Print' format n args) && every_arg args
    every (Alloc' at which n args) = has (Alloc' at which n args) && every_arg args

    pub every_arg : {n : _} → Args n → Bool
    every_arg no_args = true
    every_arg (more_args arg rest) = every arg && every_arg rest

-- Each statement in a statement, itself included, has a property.
module _ (has : Stmt → Bool) where
  abbrev mutual
    pub each : Stmt → Bool
    each Nothing = has Nothing
    each (Block' n body) = has (Block' n body) && each_of body
    each (Eval value) = has (Eval value)
    each (Set slot value) = has (Set slot value)
    each (Store at address value) = has (Store at address value)
    each (AddTo at address value) = has (AddTo at address value)
    each (Spawn at target function hint args) = has (Spawn at target function hint args)
    each (If test yes_ no_) = has (If test yes_ no_) && each yes_ && each no_
    each (Loop test step body) = has (Loop test step body) && each step && each body
    each (Each at low high function copies) = has (Each at low high function copies)
    each Break = has Break
    each Continue = has Continue
    each (Return value) = has (Return value)
    each Sync = has Sync

    pub each_of : {n : _} → Stmts n → Bool
    each_of no_stmts = true
    each_of (more_stmts first rest) = each first && each_of rest

-- The expressions of a statement, those of the statements in it left out.
abbrev pub expressions_of : Stmt → List Expr
expressions_of Nothing = []
expressions_of (Block' _ _) = []
expressions_of (Eval value) = value ∷ []
expressions_of (Set slot value) = value ∷ []
expressions_of (Store at address value) = address ∷ value ∷ []
expressions_of (AddTo at address value) = address ∷ value ∷ []
expressions_of (Spawn at target function None args) = args
expressions_of (Spawn at target function (Some hint) args) = hint ∷ args
expressions_of (If test yes_ no_) = test ∷ []
expressions_of (Loop test step body) = test ∷ []
expressions_of (Each at low high function copies) = low ∷ high ∷ []
expressions_of Break = []
expressions_of Continue = []
expressions_of (Return value) = value ∷ []
expressions_of Sync = []
