-- The locals that statements declare, and what is known behind them.
use Rattle.std.specs.Prelude.{ℕ, List, [], ◌∷◌, ◌++◌}
use Rattle.word_ops.specs.declared.place.Pos.{Pos}
use Rattle.cilk_ast.specs.declared.kind.Kind.TheVariants as sort
use Rattle.cilk_ast.specs.declared.tree.Param.{Param}
use Rattle.cilk_ast.specs.declared.tree.TStmt.{TStmt, Block', Local, Held-TStmt-If-2, None', Row_of-TStmt as Stmts, end_of-TStmt as no_stmts, more_of-TStmt as more_stmts, Empty, Eval, Assign, AddTo, Up, Down, Spawn, Break, Continue, Return, Sync}
use Rattle.cilk_ast.specs.TreeStatement.{If, While, For, CilkFor, Present}
use Rattle.cilk_model.specs.Scopes.{Scopes, declared, opened, outlined, closed}

-- The places of the locals that a statement declares, in text order: those of its bodies of `cilk_for` and the
-- variables of `for` and `cilk_for` among them.
abbrev mutual
  pub locals_of : TStmt → List Pos
  locals_of Empty = []
  locals_of (Block' n body) = locals_of_all body
  locals_of (Local at kind name value) = at ∷ []
  locals_of (Eval _) = []
  locals_of (Assign _ _ _) = []
  locals_of (AddTo _ _ _) = []
  locals_of (Up _) = []
  locals_of (Down _) = []
  locals_of (Spawn _) = []
  locals_of (If test yes_ no_) = locals_of yes_ ++ locals_of_part no_
  locals_of (While test body) = locals_of body
  locals_of (For init test step body) = locals_of_part init ++ locals_of_part step ++ locals_of body
  locals_of (CilkFor at name low second high third body) = at ∷ locals_of body
  locals_of (Break _) = []
  locals_of (Continue _) = []
  locals_of (Return _ _) = []
  locals_of Sync = []

  -- of a part that may be missing
  pub locals_of_part : Held-TStmt-If-2 → List Pos
  locals_of_part None' = []
  locals_of_part (Present s) = locals_of s

  -- of statements in a row
  pub locals_of_all : {n : _} → Stmts n → List Pos
  locals_of_all no_stmts = []
  locals_of_all (more_stmts first rest) = locals_of first ++ locals_of_all rest

-- In the statement of a `cilk_for` with this variable, which is declared outside of its body.
abbrev pub in_body : List ℕ → Scopes → Scopes
in_body name scopes = outlined (declared name sort.Long (opened scopes))

-- Behind a statement: what it declares is counted, and known where that is not in a scope of the statement's own.
abbrev mutual
  pub after : TStmt → Scopes → Scopes
  after Empty scopes = scopes
  after (Block' n body) scopes = closed (after_all body (opened scopes))
  after (Local at kind name value) scopes = declared name kind scopes
  after (Eval _) scopes = scopes
  after (Assign _ _ _) scopes = scopes
  after (AddTo _ _ _) scopes = scopes
  after (Up _) scopes = scopes
  after (Down _) scopes = scopes
  after (Spawn _) scopes = scopes
  after (If test yes_ no_) scopes = after_part no_ (after yes_ scopes)
  after (While test body) scopes = after body scopes
  after (For init test step body) scopes = closed (after body (after_part step (after_part init (opened scopes))))
  after (CilkFor at name low second high third body) scopes = record (closed (after body (in_body name scopes))) { level = scopes.level }
  after (Break _) scopes = scopes
  after (Continue _) scopes = scopes
  after (Return _ _) scopes = scopes
  after Sync scopes = scopes

  pub after_part : Held-TStmt-If-2 → Scopes → Scopes
  after_part None' scopes = scopes
  after_part (Present s) scopes = after s scopes

  pub after_all : {n : _} → Stmts n → Scopes → Scopes
  after_all no_stmts scopes = scopes
  after_all (more_stmts first rest) scopes = after_all rest (after first scopes)

-- Behind parameters.
abbrev pub after_params : List Param → Scopes → Scopes
after_params [] scopes = scopes
after_params (param ∷ params) scopes = after_params params (declared param.name param.kind scopes)
