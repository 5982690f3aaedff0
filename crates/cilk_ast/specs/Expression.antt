-- The forms of a program's expressions, for definitions to match. Each equals the form of the same name
-- that code builds (proofs/ExpressionForms.antt). `Call'`, `Print'` and `Alloc'` stay as they
-- are: they have their arguments as a row, `end_of-Expr` or `more_of-Expr e rest`.
use Rattle.std.specs.Prelude.{List, [], ◌∷◌}
use Rattle.word_ops.specs.declared.place.Pos.{Pos}
use Rattle.word_ops.specs.declared.operators.BinaryOp.{BinaryOp}
use Rattle.word_ops.specs.declared.operators.UnaryOp.{UnaryOp}
use Rattle.mem_atomics.specs.declared.op.Op.{Op}
use Rattle.cilk_ast.specs.declared.program.Expr.{Expr, Un', Bin', Both', Either', Load', Post', Add', Swap', Cas', Init', Move', Row_of-Expr, end_of-Expr, more_of-Expr}

pattern abbrev pub Un : Pos → UnaryOp → Expr → Expr
Un at op inner = Un' at op tt (more_of-Expr inner end_of-Expr)

pattern abbrev pub Bin : Pos → BinaryOp → Expr → Expr → Expr
Bin at op left right = Bin' at op tt (more_of-Expr left end_of-Expr) tt (more_of-Expr right end_of-Expr)

pattern abbrev pub Both : Pos → Expr → Expr → Expr
Both at left right = Both' at tt (more_of-Expr left end_of-Expr) tt (more_of-Expr right end_of-Expr)

pattern abbrev pub Either : Pos → Expr → Expr → Expr
Either at left right = Either' at tt (more_of-Expr left end_of-Expr) tt (more_of-Expr right end_of-Expr)

pattern abbrev pub Load : Pos → Expr → Expr
Load at address = Load' at tt (more_of-Expr address end_of-Expr)

pattern abbrev pub Post : Pos → Op → Expr → Expr → Expr
Post at op address value = Post' at op tt (more_of-Expr address end_of-Expr) tt (more_of-Expr value end_of-Expr)

pattern abbrev pub Add : Pos → Expr → Expr → Expr
Add at address value = Add' at tt (more_of-Expr address end_of-Expr) tt (more_of-Expr value end_of-Expr)

pattern abbrev pub Swap : Pos → Expr → Expr → Expr
Swap at address value = Swap' at tt (more_of-Expr address end_of-Expr) tt (more_of-Expr value end_of-Expr)

pattern abbrev pub Cas : Pos → Expr → Expr → Expr → Expr
Cas at address expected value =
    Cas' at tt (more_of-Expr address end_of-Expr) tt (more_of-Expr expected end_of-Expr) tt (more_of-Expr value end_of-Expr)

pattern abbrev pub Init : Pos → Expr → Expr → Expr
Init at address value = Init' at tt (more_of-Expr address end_of-Expr) tt (more_of-Expr value end_of-Expr)

pattern abbrev pub Move : Pos → Expr → Expr
Move at address = Move' at tt (more_of-Expr address end_of-Expr)

-- the arguments of a row, as a list
abbrev pub listed : {n : _} → Row_of-Expr n → List Expr
listed end_of-Expr = []
listed (more_of-Expr e rest) = e ∷ listed rest
