-- The formats of a program's prints hold no byte but newline and those from 0x20 to 0x7E.
use Rattle.std.proofs.Common.{◌≡◌, ℕ, List, [], ◌∷◌, ◌++◌, length, Some, None, refl, ◌∙◌, ap, sym, Bool, true}
use Rattle.std.specs.Prelude.{◌&&◌, ◌==◌}
use Rattle.std.specs.List.{list_all}
use Rattle.std.proofs.lemmas.Bool.{and_from}
use Rattle.std.proofs.lemmas.List.Folds.{list_all-append}
use Rattle.word_ops.specs.declared.format.Part.{Part}
use Rattle.word_ops.specs.Formats.{words_in, is_printable}
use Rattle.cilk_ast.specs.declared.program.Function.{Function}
use Rattle.cilk_ast.specs.declared.program.Program.{Program}
use Rattle.cilk_ast.specs.declared.program.Expr.{Expr, Word, Slot, Call', Fence, Where, Print', Alloc', Row_of-Expr as Args, end_of-Expr as no_args, more_of-Expr as more_args}
use Rattle.cilk_ast.specs.Expression.{Un, Bin, Both, Either, Load, Post, Add, Swap, Cas, Init, Move, listed}
use Rattle.cilk_ast.specs.declared.program.Stmt.{Stmt, Nothing, Block', Eval, Set, Store, AddTo, Spawn, Each, Break, Continue, Return, Sync, Row_of-Stmt as Stmts, end_of-Stmt as no_stmts, more_of-Stmt as more_stmts}
use Rattle.cilk_ast.specs.Statement.{If, Loop}
use Rattle.cilk_ast.specs.Parts.{every, every_arg, each, each_of, expressions_of}
use Rattle.cilk_ast.specs.Kept.{takes, prints_agree, keeps_expression, keeps_function, writes_slots, spawns_agree}
use Rattle.codegen_expr.proofs.KeptParts.{both_true, three_true, kept_expression}
use Rattle.codegen_stmt.specs.Prints.{prints_of, prints_of_all, prints_of_each, prints_in, prints_in_all, prints_in_functions}
use Rattle.codegen_stmt.proofs.Wholes.{kept_function, function_kept}

-- Formats whose bytes can all be printed.
abbrev ArePrintable : List (List Part) → Type 0
ArePrintable formats = list_all (list_all is_printable) formats ≡ true

joined : (xs ys : List (List Part)) → ArePrintable xs → ArePrintable ys → ArePrintable (xs ++ ys)
joined xs ys all_xs all_ys =
    list_all-append (list_all is_printable) xs ys
    ∙ and_from (list_all (list_all is_printable) xs) (list_all (list_all is_printable) ys) all_xs all_ys

-- ---- expressions

pair_of : (l r : Expr) → (every prints_agree l && every prints_agree r) ≡ true → (every prints_agree l ≡ true) × (every prints_agree r ≡ true)
pair_of l r h = both_true (every prints_agree l) (every prints_agree r) h

mutual
  of_expression : (e : Expr) → every prints_agree e ≡ true → ArePrintable (prints_of e)
  of_expression (Word word) h = refl
  of_expression (Slot slot) h = refl
  of_expression (Un at op inner) h = of_expression inner h
  of_expression (Bin at op l r) h = let p = pair_of l r h in joined (prints_of l) (prints_of r) (of_expression l p.0) (of_expression r p.1)
  of_expression (Both at l r) h = let p = pair_of l r h in joined (prints_of l) (prints_of r) (of_expression l p.0) (of_expression r p.1)
  of_expression (Either at l r) h = let p = pair_of l r h in joined (prints_of l) (prints_of r) (of_expression l p.0) (of_expression r p.1)
  of_expression (Load at a) h = of_expression a h
  of_expression (Call' at g n args) h = of_arguments args h
  of_expression (Post at op a v) h = let p = pair_of a v h in joined (prints_of a) (prints_of v) (of_expression a p.0) (of_expression v p.1)
  of_expression (Add at a v) h = let p = pair_of a v h in joined (prints_of a) (prints_of v) (of_expression a p.0) (of_expression v p.1)
  of_expression (Swap at a v) h = let p = pair_of a v h in joined (prints_of a) (prints_of v) (of_expression a p.0) (of_expression v p.1)
  of_expression (Cas at a x v) h =
      let p = three_true (every prints_agree a) (every prints_agree x) (every prints_agree v) h in
      joined (prints_of a) (prints_of x ++ prints_of v) (of_expression a p.0)
      (joined (prints_of x) (prints_of v) (of_expression x p.1) (of_expression v p.2))
  of_expression (Init at a v) h = let p = pair_of a v h in joined (prints_of a) (prints_of v) (of_expression a p.0) (of_expression v p.1)
  of_expression Fence h = refl
  of_expression (Move at a) h = of_expression a h
  of_expression Where h = refl
  of_expression (Print' format n args) h =
      let p = both_true (prints_agree (Print' format n args)) (every_arg prints_agree args) h in
      let own = (both_true (words_in format == length (listed args)) (list_all is_printable format) p.0).1 in
      joined (prints_of_all args) (format ∷ []) (of_arguments args p.1) (and_from (list_all is_printable format) true own refl)
  of_expression (Alloc' at which n args) h = of_arguments args h

  of_arguments : {n : _} (args : Args n) → every_arg prints_agree args ≡ true → ArePrintable (prints_of_all args)
  of_arguments no_args h = refl
  of_arguments (more_args e rest) h =
      let p = both_true (every prints_agree e) (every_arg prints_agree rest) h in
      joined (prints_of e) (prints_of_all rest) (of_expression e p.0) (of_arguments rest p.1)

-- ---- statements

module _ (functions : List Function) (slots : ℕ) where
  -- Each expression of a statement, those of the statements in it left out, is well formed.
  abbrev own : Stmt → Bool
  own s = list_all (keeps_expression functions slots) (expressions_of s)

  of_kept : (e : Expr) → keeps_expression functions slots e ≡ true → ArePrintable (prints_of e)
  of_kept e h = of_expression e (kept_expression functions slots e h).prints

  of_each : (es : List Expr) → list_all (keeps_expression functions slots) es ≡ true → ArePrintable (prints_of_each es)
  of_each [] h = refl
  of_each (e ∷ es) h =
      let p = both_true (keeps_expression functions slots e) (list_all (keeps_expression functions slots) es) h in
      joined (prints_of e) (prints_of_each es) (of_kept e p.0) (of_each es p.1)

  of_one : (e : Expr) → list_all (keeps_expression functions slots) (e ∷ []) ≡ true → ArePrintable (prints_of e)
  of_one e h = of_kept e (both_true (keeps_expression functions slots e) true h).0

  of_two : (a e : Expr) → list_all (keeps_expression functions slots) (a ∷ e ∷ []) ≡ true → ArePrintable (prints_of a ++ prints_of e)
  of_two a e h =
      let p = both_true (keeps_expression functions slots a) (list_all (keeps_expression functions slots) (e ∷ [])) h in
      joined (prints_of a) (prints_of e) (of_kept a p.0) (of_one e p.1)

  mutual
    of_statement : (s : Stmt) → each own s ≡ true → ArePrintable (prints_in s)
    of_statement Nothing h = refl
    of_statement (Block' n body) h = of_statements body h
    of_statement (Eval e) h = of_one e h
    of_statement (Set slot e) h = of_one e h
    of_statement (Store at a e) h = of_two a e h
    of_statement (AddTo at a e) h = of_two a e h
    of_statement (Spawn at target g None args) h = of_each args h
    of_statement (Spawn at target g (Some hint) args) h = of_each (hint ∷ args) h
    of_statement (If test yes_ no_) h =
        let p = three_true (own (If test yes_ no_)) (each own yes_) (each own no_) h in
        joined (prints_of test) (prints_in yes_ ++ prints_in no_) (of_one test p.0)
        (joined (prints_in yes_) (prints_in no_) (of_statement yes_ p.1) (of_statement no_ p.2))
    of_statement (Loop test step body) h =
        let p = three_true (own (Loop test step body)) (each own step) (each own body) h in
        joined (prints_of test) (prints_in body ++ prints_in step) (of_one test p.0)
        (joined (prints_in body) (prints_in step) (of_statement body p.2) (of_statement step p.1))
    of_statement (Each at low high g copies) h = of_two low high h
    of_statement Break h = refl
    of_statement Continue h = refl
    of_statement (Return e) h = of_one e h
    of_statement Sync h = refl

    of_statements : {n : _} (body : Stmts n) → each_of own body ≡ true → ArePrintable (prints_in_all body)
    of_statements no_stmts h = refl
    of_statements (more_stmts s rest) h =
        let p = both_true (each own s) (each_of own rest) h in
        joined (prints_in s) (prints_in_all rest) (of_statement s p.0) (of_statements rest p.1)

-- ---- functions and programs

of_functions : (all functions : List Function) → list_all (keeps_function all) functions ≡ true → ArePrintable (prints_in_functions functions)
of_functions all [] h = refl
of_functions all (f ∷ functions) h =
    let p = both_true (keeps_function all f) (list_all (keeps_function all) functions) h in
    let kept = function_kept all f p.0 in
    let body = (three_true (each (writes_slots f.slots) f.body) (each (spawns_agree all) f.body) (each (own all f.slots) f.body) kept.body).2 in
    joined (prints_in f.body) (prints_in_functions functions) (of_statement all f.slots f.body body) (of_functions all functions p.1)

pub of_program : (program : Program) → ArePrintable (prints_in_functions program.functions)
of_program program =
    of_functions program.functions program.functions
    (both_true (takes program.functions program.main 0) (list_all (keeps_function program.functions) program.functions) program.kept).1
