-- Reading the grammar from the left, with one token of look-ahead.
use Rattle.std.specs.Prelude.{ℕ, zero, suc, Bool, true, false, cond, List, [], ◌∷◌, ◌++◌, Some, None}
use Prim.Native.String.{String}
use Rattle.word_ops.specs.declared.place.Pos.{Pos}
use Rattle.cilk_ast.specs.declared.kind.Kind.{Kind}
use Rattle.cilk_ast.specs.declared.kind.Kind.TheVariants.{Long, Ptr, Void, Int}
use Rattle.cilk_ast.specs.declared.builtin.Builtin.TheVariants.{MwReplicatedInit}
use Rattle.cilk_ast.specs.declared.tree.TExpr as tree
use Rattle.cilk_ast.specs.declared.tree.TExpr.{TExpr}
use Rattle.cilk_ast.specs.declared.tree.TStmt as stmt
use Rattle.cilk_ast.specs.declared.tree.TStmt.{TStmt}
use Rattle.cilk_ast.specs.declared.tree.TValue.TheVariants.{Plain, Spawned}
use Rattle.cilk_ast.specs.declared.tree.Item.{Item}
use Rattle.cilk_ast.specs.declared.tree.Item.TheVariants.{Global, Function}
use Rattle.cilk_model.specs.Signs.{prefixed, joined}
use Rattle.cilk_model.specs.Tests.{is_mark, is_finish}
use Rattle.cilk_model.specs.OpenEnds.{ends_open}
use Rattle.cilk_model.specs.GrammarForms.{Form, Val, star, expression, further, postfix, indexes, primary, args, more_args, perhaps, origin, spawn, value, initial, local, more_locals, simple, change, init, step, up, statement, block, body, params, param, more_params, function, more_globals, item, items, file, unary, shift, expr}
use Rattle.cilk_parser.specs.Parsers.{Parser, ◌>>=◌, gives, ◌▹◌, when, choose, take}
use Rattle.cilk_parser.specs.Kinds.{a_mark, a_word, a_name, a_literal, a_text, a_finish, a_prefix, an_infix, a_builtin, is_spawn}

-- A reader of each form of the grammar.
abbrev pub Readers : Type 0
Readers = (n : Form) → Parser (Val n)

-- Takes a mark, which ends what is read.
abbrev pub closed : {X : Type 0} → String → X → Parser X
closed spelling x = take (a_mark spelling) ▹ λ _. x

-- What each form reads, by what its parts read.
module _ (p : Readers) where
  -- ---- Expressions

  -- Behind a `(` that starts an operand: a cast, or an expression in brackets.
  abbrev pub read_bracketed : Pos → Parser TExpr
  read_bracketed at =
      choose (a_word "long")
      (λ _. p star >>= λ k. take (a_mark ")") >>= λ _. p unary ▹ λ x. tree.Cast at k x)
      (p expr >>= λ x. take (a_mark ")") >>= λ _. p (indexes (tree.Paren at x)))

  abbrev pub read_unary : Parser TExpr
  read_unary = choose a_prefix (λ o. p unary ▹ λ x. prefixed (o.1) (o.0) x) (choose (a_mark "(") read_bracketed (p postfix))

  abbrev pub read_further : ℕ → TExpr → Parser TExpr
  read_further n x = choose (an_infix n) (λ o. p (expression n) >>= λ y. p (further n (joined (o.1) (o.0) x y))) (gives x)

  abbrev pub read_indexes : TExpr → Parser TExpr
  read_indexes x = choose (a_mark "[") (λ at. p expr >>= λ i. take (a_mark "]") >>= λ _. p (indexes (tree.Index at x i))) (gives x)

  -- Behind a name.
  abbrev pub read_named : Pos × List ℕ → Parser TExpr
  read_named f = choose (a_mark "(") (λ _. p args >>= λ xs. closed ")" (tree.Call (f.0) (f.1) xs)) (gives (tree.Var (f.0) (f.1)))

  -- Behind `mw_replicated_init (`.
  abbrev pub read_init : Pos → Parser TExpr
  read_init at =
      choose (a_mark "&")
      (λ _. take a_name >>= λ g. take (a_mark ",") >>= λ _. p expr >>= λ v. closed ")" (tree.InitAt at (g.0) (g.1) v))
      (p expr >>= λ x. take (a_mark ",") >>= λ _. p expr >>= λ v. closed ")" (tree.Builtin at MwReplicatedInit (x ∷ v ∷ [])))

  abbrev pub read_primary : Parser TExpr
  read_primary =
      choose a_literal (λ l. gives (tree.Number (l.0) (l.1)))
      (choose a_name read_named
      (choose a_builtin (λ b. take (a_mark "(") >>= λ _. p args >>= λ xs. closed ")" (tree.Builtin (b.0) (b.1) xs))
      (choose (a_word "printf") (λ at. take (a_mark "(") >>= λ _. take a_text >>= λ t. p more_args >>= λ xs. closed ")" (tree.Print at (t.0) (t.1) xs))
      (choose (a_word "mw_replicated_init") (λ at. take (a_mark "(") >>= λ _. read_init at)
      (take (a_mark "(") >>= λ at. p expr >>= λ x. closed ")" (tree.Paren at x))))))

  abbrev pub read_args : Parser (List TExpr)
  read_args = when (is_mark ")") (gives []) (p expr >>= λ x. p more_args ▹ λ xs. x ∷ xs)

  abbrev pub read_more_args : Parser (List TExpr)
  read_more_args = choose (a_mark ",") (λ _. p expr >>= λ x. p more_args ▹ λ xs. x ∷ xs) (gives [])

  abbrev pub read_perhaps : Parser (Val perhaps)
  read_perhaps = when (is_mark ";") (gives None) (p expr ▹ λ x. Some x)

  -- ---- Spawns, locals and simple statements

  abbrev pub read_origin : Parser (Val origin)
  read_origin =
      choose (a_word "cilk_spawn") (λ at. gives (at, None))
      (take (a_word "cilk_spawn_at") >>= λ at. take (a_mark "(") >>= λ _. p expr >>= λ x. closed ")" (at, Some x))

  abbrev pub read_spawn : Parser (Val spawn)
  read_spawn =
      p origin >>= λ from. take a_name >>= λ f. take (a_mark "(") >>= λ _. p args >>= λ xs.
      closed ")" (record { pos = from.0; hint = from.1; name_pos = f.0; name = f.1; args = xs })

  abbrev pub read_value : (may : Bool) → Parser (Val (value may))
  read_value true = when is_spawn (p spawn ▹ λ s. Spawned s) (p expr ▹ λ x. Plain x)
  read_value false = p expr ▹ λ x. Plain x

  abbrev pub read_initial : Parser (Val initial)
  read_initial = choose (a_mark "=") (λ _. p (value true) ▹ λ v. Some v) (gives None)

  abbrev pub read_local : Parser TStmt
  read_local = p star >>= λ k. take a_name >>= λ x. p initial ▹ λ v. stmt.Local (x.0) k (x.1) v

  abbrev pub read_more_locals : Parser (List TStmt)
  read_more_locals = choose (a_mark ",") (λ _. p local >>= λ s. p more_locals ▹ λ ss. s ∷ ss) (closed ";" [])

  abbrev pub read_simple : Bool → Parser TStmt
  read_simple may =
      choose (a_mark "++") (λ _. p unary ▹ λ x. stmt.Up x)
      (choose (a_mark "--") (λ _. p unary ▹ λ x. stmt.Down x) (p expr >>= λ x. p (change may x)))

  abbrev pub read_change : Bool → TExpr → Parser TStmt
  read_change may x =
      choose (a_mark "=") (λ at. p (value may) ▹ λ v. stmt.Assign at x v)
      (choose (a_mark "+=") (λ at. p expr ▹ λ y. stmt.AddTo at x y)
      (choose (a_mark "++") (λ _. gives (stmt.Up x)) (choose (a_mark "--") (λ _. gives (stmt.Down x)) (gives (stmt.Eval x)))))

  -- ---- Statements

  -- Behind the test and the first statement of an `if`: where that statement would take an `else`, it has.
  abbrev pub read_else : TExpr → TStmt → Parser TStmt
  read_else x s = cond (ends_open s) (gives (stmt.If x s None)) (choose (a_word "else") (λ _. p statement ▹ λ r. stmt.If x s (Some r)) (gives (stmt.If x s None)))

  -- Behind the words `if`, `while`, `for` and `cilk_for`.
  abbrev pub read_if : Parser TStmt
  read_if = take (a_mark "(") >>= λ _. p expr >>= λ x. take (a_mark ")") >>= λ _. p statement >>= λ s. read_else x s

  abbrev pub read_while : Parser TStmt
  read_while = take (a_mark "(") >>= λ _. p expr >>= λ x. take (a_mark ")") >>= λ _. p statement ▹ λ s. stmt.While x s

  abbrev pub read_for : Parser TStmt
  read_for =
      take (a_mark "(") >>= λ _. p init >>= λ i. take (a_mark ";") >>= λ _. p perhaps >>= λ t. take (a_mark ";") >>= λ _.
      p step >>= λ n. take (a_mark ")") >>= λ _. p statement ▹ λ s. stmt.For i t n s

  abbrev pub read_cilk_for : Parser TStmt
  read_cilk_for =
      take (a_mark "(") >>= λ _. take (a_word "long") >>= λ _. take a_name >>= λ i. take (a_mark "=") >>= λ _. p expr >>= λ l. take (a_mark ";") >>= λ _.
      take a_name >>= λ j. take (a_mark "<") >>= λ _. p shift >>= λ h. take (a_mark ";") >>= λ _.
      p up >>= λ n. take (a_mark ")") >>= λ _. p statement ▹ λ s. stmt.CilkFor (i.0) (i.1) l j h n s

  -- A statement that starts with an expression, a step or a spawn.
  abbrev pub read_effect : Parser TStmt
  read_effect = when is_spawn (p spawn >>= λ s. closed ";" (stmt.Spawn s)) (p (simple true) >>= λ s. closed ";" s)

  abbrev pub read_leave : Parser TStmt
  read_leave =
      choose (a_word "break") (λ at. closed ";" (stmt.Break at))
      (choose (a_word "continue") (λ at. closed ";" (stmt.Continue at))
      (choose (a_word "return") (λ at. p perhaps >>= λ v. closed ";" (stmt.Return at v))
      (choose (a_word "cilk_sync") (λ _. closed ";" stmt.Sync) read_effect)))

  abbrev pub read_no_block : Parser TStmt
  read_no_block =
      choose (a_mark ";") (λ _. gives stmt.Empty)
      (choose (a_word "if") (λ _. read_if)
      (choose (a_word "while") (λ _. read_while)
      (choose (a_word "for") (λ _. read_for)
      (choose (a_word "cilk_for") (λ _. read_cilk_for) read_leave))))

  abbrev pub read_statement : Parser TStmt
  read_statement = when (is_mark "{") (p block) read_no_block

  abbrev pub read_block : Parser TStmt
  read_block = take (a_mark "{") >>= λ _. p body >>= λ ss. closed "}" (stmt.Block ss)

  abbrev pub read_body : Parser (List TStmt)
  read_body =
      when (is_mark "}") (gives [])
      (choose (a_word "long") (λ _. p local >>= λ s. p more_locals >>= λ ss. p body ▹ λ rest. s ∷ (ss ++ rest))
      (p statement >>= λ s. p body ▹ λ ss. s ∷ ss))

  -- ---- The heads of loops

  abbrev pub read_init_part : Parser (Val init)
  read_init_part =
      when (is_mark ";") (gives None)
      (choose (a_word "long") (λ _. p star >>= λ k. take a_name >>= λ i. take (a_mark "=") >>= λ _. p expr ▹ λ x. Some (stmt.Local (i.0) k (i.1) (Some (Plain x))))
      (p (simple false) ▹ λ s. Some s))

  abbrev pub read_step : Parser (Val step)
  read_step = when (is_mark ")") (gives None) (p (simple false) ▹ λ s. Some s)

  abbrev pub read_up : Parser (Val up)
  read_up = choose a_name (λ i. closed "++" i) (take (a_mark "++") >>= λ _. take a_name)

  -- ---- Functions, globals and the file

  abbrev pub read_params : Parser (Val params)
  read_params = when (is_mark ")") (gives []) (choose (a_word "void") (λ _. gives []) (p param >>= λ x. p more_params ▹ λ xs. x ∷ xs))

  abbrev pub read_param : Parser (Val param)
  read_param = take (a_word "long") >>= λ _. p star >>= λ k. take a_name ▹ λ x. record { pos = x.0; kind = k; name = x.1 }

  abbrev pub read_more_params : Parser (Val params)
  read_more_params = choose (a_mark ",") (λ _. p param >>= λ x. p more_params ▹ λ xs. x ∷ xs) (gives [])

  abbrev pub read_function : Pos → Kind → Pos → List ℕ → Parser (List Item)
  read_function at k at_name f =
      take (a_mark "(") >>= λ _. p params >>= λ ps. take (a_mark ")") >>= λ _.
      choose (a_mark ";") (λ _. gives []) (p block ▹ λ s. Function at k at_name f ps s ∷ [])

  abbrev pub read_more_globals : Bool → Parser (List Item)
  read_more_globals r =
      choose (a_mark ",") (λ _. p star >>= λ k. take a_name >>= λ g. p (more_globals r) ▹ λ gs. Global (g.0) (g.1) k r ∷ gs) (closed ";" [])

  abbrev pub read_item : Parser (List Item)
  read_item =
      choose (a_word "replicated")
      (λ _. take (a_word "long") >>= λ _. p star >>= λ k. take a_name >>= λ g. p (more_globals true) ▹ λ gs. Global (g.0) (g.1) k true ∷ gs)
      (choose (a_word "void") (λ at. take a_name >>= λ f. p (function at Void (f.0) (f.1)))
      (choose (a_word "int") (λ at. take a_name >>= λ f. p (function at Int (f.0) (f.1)))
      (take (a_word "long") >>= λ at. p star >>= λ k. take a_name >>= λ f.
      when (is_mark "(") (p (function at k (f.0) (f.1))) (p (more_globals false) ▹ λ gs. Global (f.0) (f.1) k false ∷ gs))))

  abbrev pub read_items : Parser (List Item)
  read_items = when is_finish (gives []) (p item >>= λ fs. p items ▹ λ gs. fs ++ gs)

  abbrev pub read_file : Parser (Val file)
  read_file = p items >>= λ fs. take a_finish ▹ λ at. record { items = fs; end = at }

  unfoldable pub body_of : (n : Form) → Parser (Val n)
  body_of star = choose (a_mark "*") (λ _. gives Ptr) (gives Long)
  body_of (expression zero) = read_unary
  body_of (expression (suc n)) = p (expression n) >>= λ x. p (further n x)
  body_of (further n x) = read_further n x
  body_of postfix = p primary >>= λ x. p (indexes x)
  body_of (indexes x) = read_indexes x
  body_of primary = read_primary
  body_of args = read_args
  body_of more_args = read_more_args
  body_of perhaps = read_perhaps
  body_of origin = read_origin
  body_of spawn = read_spawn
  body_of (value may) = read_value may
  body_of initial = read_initial
  body_of local = read_local
  body_of more_locals = read_more_locals
  body_of (simple may) = read_simple may
  body_of (change may x) = read_change may x
  body_of init = read_init_part
  body_of step = read_step
  body_of up = read_up
  body_of statement = read_statement
  body_of block = read_block
  body_of body = read_body
  body_of params = read_params
  body_of param = read_param
  body_of more_params = read_more_params
  body_of (function at k at_name f) = read_function at k at_name f
  body_of (more_globals r) = read_more_globals r
  body_of item = read_item
  body_of items = read_items
  body_of file = read_file
