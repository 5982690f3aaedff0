-- The forms of a tree's expressions, for definitions to match. Each equals the form of the same name that
-- code builds (proofs/TreeExpressionForms.antt). `Call'`, `Builtin'` and `Print'` stay as they
-- are: they have their arguments as a row, `end_of-TExpr` or `more_of-TExpr e rest`.
use Rattle.std.specs.Prelude.{ℕ, List, [], ◌∷◌}
use Rattle.word_ops.specs.declared.place.Pos.{Pos}
use Rattle.word_ops.specs.declared.operators.BinaryOp.{BinaryOp}
use Rattle.word_ops.specs.declared.operators.UnaryOp.{UnaryOp}
use Rattle.cilk_ast.specs.declared.kind.Kind.{Kind}
use Rattle.cilk_ast.specs.declared.tree.TExpr.{TExpr, Paren', Un', Deref', Cast', Index', Bin', Both', Either', InitAt', Row_of-TExpr, end_of-TExpr, more_of-TExpr}

pattern abbrev pub Paren : Pos → TExpr → TExpr
Paren at inner = Paren' at tt (more_of-TExpr inner end_of-TExpr)

pattern abbrev pub Un : Pos → UnaryOp → TExpr → TExpr
Un at op inner = Un' at op tt (more_of-TExpr inner end_of-TExpr)

pattern abbrev pub Deref : Pos → TExpr → TExpr
Deref at inner = Deref' at tt (more_of-TExpr inner end_of-TExpr)

pattern abbrev pub Cast : Pos → Kind → TExpr → TExpr
Cast at kind inner = Cast' at kind tt (more_of-TExpr inner end_of-TExpr)

pattern abbrev pub Index : Pos → TExpr → TExpr → TExpr
Index at base index = Index' at tt (more_of-TExpr base end_of-TExpr) tt (more_of-TExpr index end_of-TExpr)

pattern abbrev pub Bin : Pos → BinaryOp → TExpr → TExpr → TExpr
Bin at op left right = Bin' at op tt (more_of-TExpr left end_of-TExpr) tt (more_of-TExpr right end_of-TExpr)

pattern abbrev pub Both : Pos → TExpr → TExpr → TExpr
Both at left right = Both' at tt (more_of-TExpr left end_of-TExpr) tt (more_of-TExpr right end_of-TExpr)

pattern abbrev pub Either : Pos → TExpr → TExpr → TExpr
Either at left right = Either' at tt (more_of-TExpr left end_of-TExpr) tt (more_of-TExpr right end_of-TExpr)

pattern abbrev pub InitAt : Pos → Pos → List ℕ → TExpr → TExpr
InitAt at name_at name value = InitAt' at name_at name tt (more_of-TExpr value end_of-TExpr)

-- the arguments of a row, as a list
abbrev pub listed : {n : _} → Row_of-TExpr n → List TExpr
listed end_of-TExpr = []
listed (more_of-TExpr e rest) = e ∷ listed rest
