-- A statement's expressions and statements, and what it does itself.
use Rattle.std.specs.Prelude.{ℕ, ◌+◌, Bool, true, false, List, [], ◌∷◌, length, Option, None}
use Rattle.mem_atomics.specs.declared.op.Op.TheVariants as op
use Rattle.cilk_ast.specs.declared.program.Expr.{Expr}
use Rattle.cilk_ast.specs.declared.program.Stmt.{Stmt, Nothing, Block', Eval, Set, Store, AddTo, Spawn, Each, Break, Continue, Return, Sync}
use Rattle.cilk_ast.specs.Statement.{If, Loop, listed}
use Rattle.threadlet_code.specs.declared.instr.Instr.TheVariants as by
use Rattle.codegen_expr.specs.Piece.{Line, line, placeless}
use Rattle.codegen_stmt.specs.declared.around.Around.{Around}
use Rattle.codegen_stmt.specs.Stretch.{returning}
use Rattle.codegen_stmt.specs.Compiled.{is_hinted}

-- The hint of a spawn, if it has one.
unfoldable pub hint_of : Stmt → Option Expr
hint_of (Spawn at target function hint args) = hint
hint_of _ = None

-- Its other expressions, those of the statements in it left out.
unfoldable pub words_of : Stmt → List Expr
words_of (Eval e) = e ∷ []
words_of (Set slot e) = e ∷ []
words_of (Store at address e) = address ∷ e ∷ []
words_of (AddTo at address e) = address ∷ e ∷ []
words_of (Spawn at target function hint args) = args
words_of (If test yes_ no_) = test ∷ []
words_of (Loop test step body) = test ∷ []
words_of (Each at low high function copies) = low ∷ high ∷ []
words_of (Return e) = e ∷ []
words_of _ = []

-- The statements in it, in the order of their code.
unfoldable pub children_of : Stmt → List Stmt
children_of (Block' n body) = listed body
children_of (If test yes_ no_) = yes_ ∷ no_ ∷ []
children_of (Loop test step body) = body ∷ step ∷ []
children_of _ = []

-- How many lines it has besides theirs.
unfoldable pub own_size : Around → Stmt → ℕ
own_size around (Eval e) = 1
own_size around (Set slot e) = 1
own_size around (Store at address e) = 1
own_size around (AddTo at address e) = 4
own_size around (Spawn at target function hint args) = 1
own_size around (If test yes_ no_) = 2
own_size around (Loop test step body) = 3
own_size around (Each at low high function copies) = length copies + 15
own_size around (Return e) = length (returning around.spawns)
own_size around Break = 1
own_size around Continue = 1
own_size around Sync = 1
own_size around _ = 0

-- Its code is that of its words, and then its own lines.
unfoldable pub is_simple : Stmt → Bool
is_simple Nothing = false
is_simple (Block' n body) = false
is_simple (AddTo at address e) = false
is_simple (If test yes_ no_) = false
is_simple (Loop test step body) = false
is_simple (Each at low high function copies) = false
is_simple _ = true

-- The lines of a simple one, behind those of its words.
unfoldable pub own_lines : Around → Stmt → List Line
own_lines around (Eval e) = placeless by.Pop ∷ []
own_lines around (Set slot e) = placeless (by.Set slot) ∷ []
own_lines around (Store at address e) = line at (by.Post op.Store) ∷ []
own_lines around (Spawn at target function hint args) = line at (by.Spawn function target (is_hinted hint)) ∷ []
own_lines around (Return e) = returning around.spawns
own_lines around Break = placeless (by.Jump around.broken) ∷ []
own_lines around Continue = placeless (by.Jump around.continued) ∷ []
own_lines around Sync = placeless by.Sync ∷ []
own_lines around _ = []
