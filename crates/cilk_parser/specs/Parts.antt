-- Parts of forms that the code reads by themselves.
use Rattle.std.specs.Prelude.{ℕ, Bool, true, false, List, ◌∷◌, Some}
use Rattle.word_ops.specs.declared.place.Pos.{Pos}
use Rattle.cilk_ast.specs.declared.kind.Kind.{Kind}
use Rattle.cilk_ast.specs.declared.builtin.Builtin.{Builtin}
use Rattle.cilk_ast.specs.declared.tree.TExpr as tree
use Rattle.cilk_ast.specs.declared.tree.TExpr.{TExpr}
use Rattle.cilk_ast.specs.declared.tree.TStmt as stmt
use Rattle.cilk_ast.specs.declared.tree.TStmt.{TStmt}
use Rattle.cilk_ast.specs.declared.tree.TValue.TheVariants.{Plain}
use Rattle.cilk_ast.specs.declared.tree.Item.{Item}
use Rattle.cilk_ast.specs.declared.tree.Item.TheVariants.{Global}
use Rattle.cilk_model.specs.GrammarForms.{star, args, more_args, function, more_globals, up, unary, shift, expr}
use Rattle.cilk_model.specs.Tests.{is_mark}
use Rattle.cilk_parser.specs.Parsers.{Parser, ◌>>=◌, ◌▹◌, when, take}
use Rattle.cilk_parser.specs.Kinds.{a_mark, a_word, a_name, a_text}
use Rattle.cilk_parser.specs.Reading.{closed, read_named, read_init}
use Rattle.cilk_parser.specs.Read.{read}

-- ---- Of expressions

-- Behind `( long`.
abbrev pub read_cast : Pos → Parser TExpr
read_cast at = read star >>= λ k. take (a_mark ")") >>= λ _. read unary ▹ λ x. tree.Cast at k x

-- A name, and what stands behind it.
abbrev pub read_name : Parser TExpr
read_name = take a_name >>= read_named read

-- Behind a built-in word, and behind `printf` and `mw_replicated_init`.
abbrev pub read_builtin : Pos → Builtin → Parser TExpr
read_builtin at which = take (a_mark "(") >>= λ _. read args >>= λ xs. closed ")" (tree.Builtin at which xs)

abbrev pub read_print : Pos → Parser TExpr
read_print at = take (a_mark "(") >>= λ _. take a_text >>= λ t. read more_args >>= λ xs. closed ")" (tree.Print at (t.0) (t.1) xs)

abbrev pub read_replicated_init : Pos → Parser TExpr
read_replicated_init at = take (a_mark "(") >>= λ _. read_init read at

abbrev pub read_init_at : Pos → Parser TExpr
read_init_at at = take a_name >>= λ g. take (a_mark ",") >>= λ _. read expr >>= λ v. closed ")" (tree.InitAt at (g.0) (g.1) v)

-- ---- Of statements

-- `( expr )`, and what stands behind it.
abbrev pub read_test : {X : Type 0} → (TExpr → Parser X) → Parser X
read_test f = take (a_mark "(") >>= λ _. read expr >>= λ x. take (a_mark ")") >>= λ _. f x

-- Behind the `long` in the head of a `for`.
abbrev pub read_init_local : Parser TStmt
read_init_local = read star >>= λ k. take a_name >>= λ i. take (a_mark "=") >>= λ _. read expr ▹ λ x. stmt.Local (i.0) k (i.1) (Some (Plain x))

-- The variable of a `cilk_for`, and what stands behind its `=`.
abbrev pub read_counter : {X : Type 0} → (Pos × List ℕ → Parser X) → Parser X
read_counter f = take (a_mark "(") >>= λ _. take (a_word "long") >>= λ _. take a_name >>= λ i. take (a_mark "=") >>= λ _. f i

-- The bounds and the names of a `cilk_for`, each with the token behind it, and what stands behind that.
abbrev pub read_low : {X : Type 0} → (TExpr → Parser X) → Parser X
read_low f = read expr >>= λ l. take (a_mark ";") >>= λ _. f l

abbrev pub read_tested : {X : Type 0} → (Pos × List ℕ → Parser X) → Parser X
read_tested f = take a_name >>= λ j. take (a_mark "<") >>= λ _. f j

abbrev pub read_high : {X : Type 0} → (TExpr → Parser X) → Parser X
read_high f = read shift >>= λ h. take (a_mark ";") >>= λ _. f h

abbrev pub read_stepped : {X : Type 0} → (Pos × List ℕ → Parser X) → Parser X
read_stepped f = read up >>= λ n. take (a_mark ")") >>= λ _. f n

-- ---- Of items

-- A declarator of a global, and what stands behind it.
abbrev pub read_global : {X : Type 0} → Bool → (Item → Parser X) → Parser X
read_global r f = read star >>= λ k. take a_name >>= λ g. f (Global (g.0) (g.1) k r)

-- What is declared behind it.
abbrev pub then_globals : Bool → Item → Parser (List Item)
then_globals r x = read (more_globals r) ▹ λ xs. x ∷ xs

abbrev pub read_replicated : Parser (List Item)
read_replicated = take (a_word "long") >>= λ _. read_global true (then_globals true)

abbrev pub read_function_named : Pos → Kind → Parser (List Item)
read_function_named at k = take a_name >>= λ f. read (function at k (f.0) (f.1))

abbrev pub read_long : Parser (List Item)
read_long =
    take (a_word "long") >>= λ at. read star >>= λ k. take a_name >>= λ f.
    when (is_mark "(") (read (function at k (f.0) (f.1))) (then_globals false (Global (f.0) (f.1) k false))
