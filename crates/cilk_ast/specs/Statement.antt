-- The forms of a program's statements, for definitions to match. Each equals the form of the same name that
-- code builds (proofs/StatementForms.antt). `Block'` stays as it is: it has its statements as a row,
-- `end_of-Stmt` or `more_of-Stmt s rest`.
use Rattle.std.specs.Prelude.{List, [], ◌∷◌}
use Rattle.cilk_ast.specs.declared.program.Expr.{Expr}
use Rattle.cilk_ast.specs.declared.program.Stmt.{Stmt, If', Loop', Row_of-Stmt, end_of-Stmt, more_of-Stmt}

pattern abbrev pub If : Expr → Stmt → Stmt → Stmt
If test yes_ no_ = If' test tt (more_of-Stmt yes_ end_of-Stmt) tt (more_of-Stmt no_ end_of-Stmt)

pattern abbrev pub Loop : Expr → Stmt → Stmt → Stmt
Loop test step body = Loop' test tt (more_of-Stmt step end_of-Stmt) tt (more_of-Stmt body end_of-Stmt)

-- the statements of a row, as a list
abbrev pub listed : {n : _} → Row_of-Stmt n → List Stmt
listed end_of-Stmt = []
listed (more_of-Stmt s rest) = s ∷ listed rest
