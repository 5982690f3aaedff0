-- The formats of code are those that the program prints.
use Rattle.std.proofs.Common.{◌≡◌, List, [], ◌∷◌, ◌++◌, Some, None, refl, ap, ◌∙◌, Bool, ℕ}
use Rattle.word_ops.specs.declared.format.Part.{Part}
use Rattle.cilk_ast.specs.declared.program.Function.{Function}
use Rattle.cilk_ast.specs.declared.program.Expr.{Expr, Word, Slot, Call', Fence, Where, Print', Alloc', Row_of-Expr as Args, end_of-Expr as no_args, more_of-Expr as more_args}
use Rattle.cilk_ast.specs.Expression.{Un, Bin, Both, Either, Load, Post, Add, Swap, Cas, Init, Move}
use Rattle.cilk_ast.specs.declared.program.Stmt.{Stmt, Nothing, Block', Eval, Set, Store, AddTo, Spawn, Each, Break, Continue, Return, Sync, Row_of-Stmt as Stmts, end_of-Stmt as no_stmts, more_of-Stmt as more_stmts}
use Rattle.cilk_ast.specs.Statement.{If, Loop}
use Rattle.codegen_expr.specs.Piece.{in_order}
use Rattle.codegen_expr.specs.Emitted.{emitted, emitted_all, emitted_each}
use Rattle.codegen_expr.proofs.Gained.{append_nil}
use Rattle.codegen_stmt.specs.Compiled.{compiled, compiled_all}
use Rattle.codegen_stmt.specs.Whole.{body_code, formats_code}
use Rattle.codegen_stmt.specs.Prints.{prints_of, prints_of_all, prints_of_each, prints_in, prints_in_all, prints_in_functions}

joined : (xs xs' ys ys' : List (List Part)) → xs ≡ xs' → ys ≡ ys' → xs ++ ys ≡ xs' ++ ys'
joined xs xs' ys ys' p q = ap (λ l. l ++ ys) p ∙ ap (λ l. xs' ++ l) q

mutual
  printed : (e : Expr) → (emitted e).formats ≡ prints_of e
  printed (Word word) = refl
  printed (Slot slot) = refl
  printed (Un at op e) = append_nil (emitted e).formats ∙ printed e
  printed (Bin at op l r) = joined (emitted l).formats (prints_of l) ((emitted r).formats ++ []) (prints_of r) (printed l) (append_nil (emitted r).formats ∙ printed r)
  printed (Both at l r) = joined (emitted l).formats (prints_of l) (emitted r).formats (prints_of r) (printed l) (printed r)
  printed (Either at l r) = joined (emitted l).formats (prints_of l) (emitted r).formats (prints_of r) (printed l) (printed r)
  printed (Load at a) = append_nil (emitted a).formats ∙ printed a
  printed (Call' at g n args) = printed_all args
  printed (Post at op a v) = joined (emitted a).formats (prints_of a) ((emitted v).formats ++ []) (prints_of v) (printed a) (append_nil (emitted v).formats ∙ printed v)
  printed (Add at a v) = joined (emitted a).formats (prints_of a) ((emitted v).formats ++ []) (prints_of v) (printed a) (append_nil (emitted v).formats ∙ printed v)
  printed (Swap at a v) = joined (emitted a).formats (prints_of a) ((emitted v).formats ++ []) (prints_of v) (printed a) (append_nil (emitted v).formats ∙ printed v)
  printed (Cas at a x v) = joined (emitted a).formats (prints_of a) (in_order (emitted x ∷ emitted v ∷ [])).formats (prints_of x ++ prints_of v) (printed a) (joined (emitted x).formats (prints_of x) ((emitted v).formats ++ []) (prints_of v) (printed x) (append_nil (emitted v).formats ∙ printed v))
  printed (Init at a v) = joined (emitted a).formats (prints_of a) ((emitted v).formats ++ []) (prints_of v) (printed a) (append_nil (emitted v).formats ∙ printed v)
  printed Fence = refl
  printed (Move at a) = append_nil (emitted a).formats ∙ printed a
  printed Where = refl
  printed (Print' format n args) = ap (λ l. l ++ format ∷ []) (printed_all args)
  printed (Alloc' at which n args) = printed_all args

  printed_all : {n : _} (args : Args n) → (in_order (emitted_all args)).formats ≡ prints_of_all args
  printed_all no_args = refl
  printed_all (more_args e rest) = joined (emitted e).formats (prints_of e) (in_order (emitted_all rest)).formats (prints_of_all rest) (printed e) (printed_all rest)

printed_each : (es : List Expr) → (in_order (emitted_each es)).formats ≡ prints_of_each es
printed_each [] = refl
printed_each (e ∷ es) = joined (emitted e).formats (prints_of e) (in_order (emitted_each es)).formats (prints_of_each es) (printed e) (printed_each es)

pair : (l r : Expr) → (in_order (emitted l ∷ emitted r ∷ [])).formats ≡ prints_of l ++ prints_of r
pair l r = joined (emitted l).formats (prints_of l) ((emitted r).formats ++ []) (prints_of r) (printed l) (append_nil (emitted r).formats ∙ printed r)

module _ (spawns : Bool) (kept : ℕ) where
  mutual
    stated : (s : Stmt) → (compiled spawns kept s).formats ≡ prints_in s
    stated Nothing = refl
    stated (Block' n body) = stated_all body
    stated (Eval e) = append_nil (emitted e).formats ∙ printed e
    stated (Set slot e) = append_nil (emitted e).formats ∙ printed e
    stated (Store at l e) = pair l e
    stated (AddTo at l e) = joined (emitted l).formats (prints_of l) (emitted e).formats (prints_of e) (printed l) (printed e)
    stated (Spawn at target g None args) = printed_each args
    stated (Spawn at target g (Some hint) args) = printed_each (hint ∷ args)
    stated (If test x y) =
        joined (emitted test).formats (prints_of test) ((compiled spawns kept x).formats ++ (compiled spawns kept y).formats) (prints_in x ++ prints_in y) (printed test)
        (joined (compiled spawns kept x).formats (prints_in x) (compiled spawns kept y).formats (prints_in y) (stated x) (stated y))
    stated (Loop test step_ body) =
        joined (emitted test).formats (prints_of test) ((compiled spawns kept body).formats ++ (compiled spawns kept step_).formats) (prints_in body ++ prints_in step_) (printed test)
        (joined (compiled spawns kept body).formats (prints_in body) (compiled spawns kept step_).formats (prints_in step_) (stated body) (stated step_))
    stated (Each at low high g copies) = joined (emitted low).formats (prints_of low) (emitted high).formats (prints_of high) (printed low) (printed high)
    stated Break = refl
    stated Continue = refl
    stated (Return e) = append_nil (emitted e).formats ∙ printed e
    stated Sync = refl

    stated_all : {n : _} (row : Stmts n) → (compiled_all spawns kept row).formats ≡ prints_in_all row
    stated_all no_stmts = refl
    stated_all (more_stmts s rest) = joined (compiled spawns kept s).formats (prints_in s) (compiled_all spawns kept rest).formats (prints_in_all rest) (stated s) (stated_all rest)

pub functions_printed : (functions : List Function) → formats_code functions ≡ prints_in_functions functions
functions_printed [] = refl
functions_printed (f ∷ functions) = joined (body_code f).formats (prints_in f.body) (formats_code functions) (prints_in_functions functions) (stated f.spawns f.slots f.body) (functions_printed functions)
