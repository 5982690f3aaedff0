-- The forms of a tree's statements, for definitions to match. Each equals the form of the same name that
-- code builds (proofs/TreeStatementForms.antt). `Block'` stays as it is: it has its
-- statements as a row, `end_of-TStmt` or `more_of-TStmt s rest`. A part that may be missing is `None'`, or
-- `Present s`.
use Rattle.std.specs.Prelude.{ℕ, List, [], ◌∷◌, Option, Some, None}
use Rattle.word_ops.specs.declared.place.Pos.{Pos}
use Rattle.cilk_ast.specs.declared.tree.TExpr.{TExpr}
use Rattle.cilk_ast.specs.declared.tree.TStmt.{TStmt, If', While', For', CilkFor', Row_of-TStmt, end_of-TStmt, more_of-TStmt, Held-TStmt-If-2, None', Some'}

pattern abbrev pub Present : TStmt → Held-TStmt-If-2
Present s = Some' tt (more_of-TStmt s end_of-TStmt)

pattern abbrev pub If : TExpr → TStmt → Held-TStmt-If-2 → TStmt
If test yes_ no_ = If' test tt (more_of-TStmt yes_ end_of-TStmt) no_

pattern abbrev pub While : TExpr → TStmt → TStmt
While test body = While' test tt (more_of-TStmt body end_of-TStmt)

pattern abbrev pub For : Held-TStmt-If-2 → Option TExpr → Held-TStmt-If-2 → TStmt → TStmt
For init test step body = For' init test step tt (more_of-TStmt body end_of-TStmt)

pattern abbrev pub CilkFor : Pos → List ℕ → TExpr → Pos × List ℕ → TExpr → Pos × List ℕ → TStmt → TStmt
CilkFor at name low second high third body = CilkFor' at name low second high third tt (more_of-TStmt body end_of-TStmt)

-- a part that may be missing, as code has it
abbrev pub part_of : Option TStmt → Held-TStmt-If-2
part_of None = None'
part_of (Some s) = Present s

-- the statements of a row, as a list
abbrev pub listed : {n : _} → Row_of-TStmt n → List TStmt
listed end_of-TStmt = []
listed (more_of-TStmt s rest) = s ∷ listed rest
