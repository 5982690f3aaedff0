-- Statements that an `else` behind them would go on.
use Rattle.std.specs.Prelude.{Bool, true, false}
use Rattle.cilk_ast.specs.declared.tree.TStmt.{TStmt, None', Empty, Block', Local, Eval, Assign, AddTo, Up, Down, Spawn, Break, Continue, Return, Sync}
use Rattle.cilk_ast.specs.TreeStatement.{If, While, For, CilkFor, Present}

-- The statement ends in an `if` without an `else`.
abbrev pub ends_open : TStmt → Bool
ends_open Empty = false
ends_open (Block' _ _) = false
ends_open (Local _ _ _ _) = false
ends_open (Eval _) = false
ends_open (Assign _ _ _) = false
ends_open (AddTo _ _ _) = false
ends_open (Up _) = false
ends_open (Down _) = false
ends_open (Spawn _) = false
ends_open (If test yes_ None') = true
ends_open (If test yes_ (Present no_)) = ends_open no_
ends_open (While test body) = ends_open body
ends_open (For init test step body) = ends_open body
ends_open (CilkFor at name low second high third body) = ends_open body
ends_open (Break _) = false
ends_open (Continue _) = false
ends_open (Return _ _) = false
ends_open Sync = false
