-- The code of a statement.
use Rattle.std.specs.Prelude.{ℕ, Bool, true, false, List, [], ◌∷◌, Option, Some, None}
use Rattle.mem_atomics.specs.declared.op.Op.TheVariants as op
use Rattle.cilk_ast.specs.declared.program.Expr.{Expr}
use Rattle.cilk_ast.specs.declared.program.Stmt.{Stmt, Nothing, Block', Eval, Set, Store, AddTo, Spawn, Each, Break, Continue, Return, Sync, Row_of-Stmt as Stmts, end_of-Stmt as no_stmts, more_of-Stmt as more_stmts}
use Rattle.cilk_ast.specs.Statement.{If, Loop}
use Rattle.threadlet_code.specs.declared.instr.Instr.TheVariants as by
use Rattle.codegen_expr.specs.Piece.{line, placeless}
use Rattle.codegen_expr.specs.Emitted.{emitted, emitted_each}
use Rattle.codegen_stmt.specs.Stretch.{Stretch, plain, leaving, behind, using, adding, choosing, looping, spawning, returning}

-- The words that a spawn needs: the hint, if there is one, and the arguments.
abbrev pub spawned_words : Option Expr → List Expr → List Expr
spawned_words None args = args
spawned_words (Some hint) args = hint ∷ args

abbrev pub is_hinted : Option Expr → Bool
is_hinted None = false
is_hinted (Some hint) = true

-- In a function that spawns or does not, and that keeps the variable of a `cilk_for` in a slot and its bound in the next.
module _ (spawns : Bool) (kept : ℕ) where
  abbrev mutual
    -- The code of a statement.
    pub compiled : Stmt → Stretch
    compiled Nothing = plain []
    compiled (Block' n body) = compiled_all body
    compiled (Eval e) = using (emitted e ∷ []) (placeless by.Pop ∷ [])
    compiled (Set slot e) = using (emitted e ∷ []) (placeless (by.Set slot) ∷ [])
    compiled (Store at address e) = using (emitted address ∷ emitted e ∷ []) (line at (by.Post op.Store) ∷ [])
    compiled (AddTo at address e) = adding at (emitted address) (emitted e)
    compiled (Spawn at target function hint args) =
        using (emitted_each (spawned_words hint args)) (line at (by.Spawn function target (is_hinted hint)) ∷ [])
    compiled (If test yes_ no_) = choosing (emitted test) (compiled yes_) (compiled no_)
    compiled (Loop test step body) = looping (emitted test) (compiled step) (compiled body)
    compiled (Each at low high function copies) = spawning at kept (emitted low) (emitted high) function copies
    compiled Break = leaving (λ exits. exits.broken)
    compiled Continue = leaving (λ exits. exits.continued)
    compiled (Return e) = using (emitted e ∷ []) (returning spawns)
    compiled Sync = plain (placeless by.Sync ∷ [])

    pub compiled_all : {n : _} → Stmts n → Stretch
    compiled_all no_stmts = plain []
    compiled_all (more_stmts first rest) = behind (compiled first) (compiled_all rest)
