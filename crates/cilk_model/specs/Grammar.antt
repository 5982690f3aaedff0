-- The grammar, by its productions: which tokens spell which tree. A list of declarators becomes several nodes;
-- `++x` and `x++` are one node; prototypes are left out.
use Rattle.std.specs.Prelude.{◌≡◌, ℕ, suc, Bool, true, false, ℤ, List, [], ◌∷◌, ◌++◌, Some, None}
use Rattle.word_ops.specs.declared.place.Pos.{Pos}
use Rattle.cilk_ast.specs.declared.kind.Kind.{Kind}
use Rattle.cilk_ast.specs.declared.kind.Kind.TheVariants as kind
use Rattle.cilk_ast.specs.declared.builtin.Builtin.{Builtin}
use Rattle.cilk_ast.specs.declared.builtin.Builtin.TheVariants as built
use Rattle.cilk_ast.specs.declared.tree.TExpr.{TExpr}
use Rattle.cilk_ast.specs.declared.tree.TExpr as tree
use Rattle.cilk_ast.specs.declared.tree.TStmt.{TStmt}
use Rattle.cilk_ast.specs.declared.tree.TStmt as stmt
use Rattle.cilk_ast.specs.declared.tree.TSpawn.{TSpawn}
use Rattle.cilk_ast.specs.declared.tree.TValue.{TValue}
use Rattle.cilk_ast.specs.declared.tree.TValue.TheVariants.{Plain, Spawned}
use Rattle.cilk_ast.specs.declared.tree.Param.{Param}
use Rattle.cilk_ast.specs.declared.tree.Item.{Item}
use Rattle.cilk_ast.specs.declared.tree.Item.TheVariants.{Global, Function}
use Rattle.cilk_model.specs.Lexemes.{Lexeme, name, literal, text, finish}
use Rattle.cilk_model.specs.Signs.{word, mark, Prefix, prefix_spelling, prefixed, Infix, looseness, infix_spelling, joined, builtin_spelling, is_replicated_init}
use Rattle.cilk_model.specs.GrammarForms.{Form, Val, star, expression, further, postfix, indexes, primary, args, more_args, perhaps, origin, spawn, value, initial, local, more_locals, simple, change, init, step, up, statement, block, body, params, param, more_params, function, more_globals, item, items, file, unary, shift, expr}
use Rattle.cilk_model.specs.OpenEnds.{ends_open}

-- Some tokens, one after the other.
abbrev pub Row : Type 0
Row = List Lexeme

pub data Spells : (n : Form) → Val n → Row → Type 0 where
  no_star : Spells star kind.Long []
  a_star : {at : Pos} → Spells star kind.Ptr (mark "*" at ∷ [])
  -- ---- Expressions: operators of one looseness join to the left

  first : {n : ℕ} {x z : TExpr} {a b : Row} → Spells (expression n) x a → Spells (further n x) z b → Spells (expression (suc n)) z (a ++ b)
  no_further : {n : ℕ} {x : TExpr} → Spells (further n x) x []
  joins : {n : ℕ} {at : Pos} {x y z : TExpr} {a b : Row} → (o : Infix) → looseness o ≡ n → Spells (expression n) y a → Spells (further n (joined o at x y)) z b →
      Spells (further n x) z (mark (infix_spelling o) at ∷ (a ++ b))
  applied : {at : Pos} {x : TExpr} {a : Row} → (o : Prefix) → Spells unary x a → Spells unary (prefixed o at x) (mark (prefix_spelling o) at ∷ a)
  cast : {at at_long : Pos} {k : Kind} {x : TExpr} {a b : Row} → (close : Pos) → Spells star k a → Spells unary x b →
      Spells unary (tree.Cast at k x) (mark "(" at ∷ word "long" at_long ∷ (a ++ (mark ")" close ∷ b)))
  operand : {x : TExpr} {a : Row} → Spells postfix x a → Spells unary x a
  indexed : {x y : TExpr} {a b : Row} → Spells primary x a → Spells (indexes x) y b → Spells postfix y (a ++ b)
  no_index : {x : TExpr} → Spells (indexes x) x []
  index : {at : Pos} {x i y : TExpr} {a b : Row} → (close : Pos) → Spells expr i a → Spells (indexes (tree.Index at x i)) y b →
      Spells (indexes x) y (mark "[" at ∷ (a ++ (mark "]" close ∷ b)))
  number : {at : Pos} {v : ℤ} → Spells primary (tree.Number at v) (literal at v ∷ [])
  variable : {at : Pos} {x : List ℕ} → Spells primary (tree.Var at x) (name at x ∷ [])
  paren : {at : Pos} {x : TExpr} {a : Row} → (close : Pos) → Spells expr x a → Spells primary (tree.Paren at x) (mark "(" at ∷ (a ++ (mark ")" close ∷ [])))
  call : {at bracket : Pos} {f : List ℕ} {xs : List TExpr} {a : Row} → (close : Pos) → Spells args xs a →
      Spells primary (tree.Call at f xs) (name at f ∷ mark "(" bracket ∷ (a ++ (mark ")" close ∷ [])))
  builtin : {at bracket : Pos} {xs : List TExpr} {a : Row} → (which : Builtin) → is_replicated_init which ≡ false → (close : Pos) → Spells args xs a →
      Spells primary (tree.Builtin at which xs) (word (builtin_spelling which) at ∷ mark "(" bracket ∷ (a ++ (mark ")" close ∷ [])))
  print : {at bracket at_text : Pos} {format : List ℕ} {xs : List TExpr} {a : Row} → (close : Pos) → Spells more_args xs a →
      Spells primary (tree.Print at at_text format xs) (word "printf" at ∷ mark "(" bracket ∷ text at_text format ∷ (a ++ (mark ")" close ∷ [])))
  init_named : {at bracket ampersand at_name comma : Pos} {g : List ℕ} {v : TExpr} {a : Row} → (close : Pos) → Spells expr v a →
      Spells primary (tree.InitAt at at_name g v)
      (word "mw_replicated_init" at ∷ mark "(" bracket ∷ mark "&" ampersand ∷ name at_name g ∷ mark "," comma ∷ (a ++ (mark ")" close ∷ [])))
  init_address : {at bracket : Pos} {p v : TExpr} {a b : Row} → (comma close : Pos) → Spells expr p a → Spells expr v b →
      Spells primary (tree.Builtin at built.MwReplicatedInit (p ∷ v ∷ []))
      (word "mw_replicated_init" at ∷ mark "(" bracket ∷ (a ++ (mark "," comma ∷ (b ++ (mark ")" close ∷ [])))))
  no_args : Spells args [] []
  some_args : {x : TExpr} {xs : List TExpr} {a b : Row} → Spells expr x a → Spells more_args xs b → Spells args (x ∷ xs) (a ++ b)
  last_arg : Spells more_args [] []
  next_arg : {comma : Pos} {x : TExpr} {xs : List TExpr} {a b : Row} → Spells expr x a → Spells more_args xs b → Spells more_args (x ∷ xs) (mark "," comma ∷ (a ++ b))
  left_out : Spells perhaps None []
  there : {x : TExpr} {a : Row} → Spells expr x a → Spells perhaps (Some x) a
  -- ---- Spawns, and what stands behind a `=`

  here : {at : Pos} → Spells origin (at, None) (word "cilk_spawn" at ∷ [])
  placed : {at bracket : Pos} {p : TExpr} {a : Row} → (close : Pos) → Spells expr p a →
      Spells origin (at, Some p) (word "cilk_spawn_at" at ∷ mark "(" bracket ∷ (a ++ (mark ")" close ∷ [])))
  child : {from : Val origin} {f : List ℕ} {xs : List TExpr} {a b : Row} → (at_name bracket close : Pos) → Spells origin from a → Spells args xs b →
      Spells spawn (record { pos = from.0; hint = from.1; name_pos = at_name; name = f; args = xs }) (a ++ (name at_name f ∷ mark "(" bracket ∷ (b ++ (mark ")" close ∷ []))))
  plain : {may : Bool} {x : TExpr} {a : Row} → Spells expr x a → Spells (value may) (Plain x) a
  spawned : {s : TSpawn} {a : Row} → Spells spawn s a → Spells (value true) (Spawned s) a
  no_initial : Spells initial None []
  an_initial : {equal : Pos} {v : TValue} {a : Row} → Spells (value true) v a → Spells initial (Some v) (mark "=" equal ∷ a)
  -- ---- Locals, and the statements that are expressions, assignments and steps

  declarator : {k : Kind} {x : List ℕ} {v : Val initial} {a b : Row} → (at : Pos) → Spells star k a → Spells initial v b →
      Spells local (stmt.Local at k x v) (a ++ (name at x ∷ b))
  last_local : {end : Pos} → Spells more_locals [] (mark ";" end ∷ [])
  next_local : {comma : Pos} {s : TStmt} {ss : List TStmt} {a b : Row} → Spells local s a → Spells more_locals ss b → Spells more_locals (s ∷ ss) (mark "," comma ∷ (a ++ b))
  changed : {may : Bool} {x : TExpr} {s : TStmt} {a b : Row} → Spells expr x a → Spells (change may x) s b → Spells (simple may) s (a ++ b)
  up_before : {may : Bool} {at : Pos} {x : TExpr} {a : Row} → Spells unary x a → Spells (simple may) (stmt.Up x) (mark "++" at ∷ a)
  down_before : {may : Bool} {at : Pos} {x : TExpr} {a : Row} → Spells unary x a → Spells (simple may) (stmt.Down x) (mark "--" at ∷ a)
  unchanged : {may : Bool} {x : TExpr} → Spells (change may x) (stmt.Eval x) []
  assigned : {may : Bool} {at : Pos} {x : TExpr} {v : TValue} {a : Row} → Spells (value may) v a → Spells (change may x) (stmt.Assign at x v) (mark "=" at ∷ a)
  added : {may : Bool} {at : Pos} {x y : TExpr} {a : Row} → Spells expr y a → Spells (change may x) (stmt.AddTo at x y) (mark "+=" at ∷ a)
  up_behind : {may : Bool} {at : Pos} {x : TExpr} → Spells (change may x) (stmt.Up x) (mark "++" at ∷ [])
  down_behind : {may : Bool} {at : Pos} {x : TExpr} → Spells (change may x) (stmt.Down x) (mark "--" at ∷ [])
  -- ---- Statements

  nested : {s : TStmt} {a : Row} → Spells block s a → Spells statement s a
  nothing : {end : Pos} → Spells statement stmt.Empty (mark ";" end ∷ [])
  effect : {s : TStmt} {a : Row} → (end : Pos) → Spells (simple true) s a → Spells statement s (a ++ (mark ";" end ∷ []))
  lone_spawn : {s : TSpawn} {a : Row} → (end : Pos) → Spells spawn s a → Spells statement (stmt.Spawn s) (a ++ (mark ";" end ∷ []))
  if_alone : {at bracket : Pos} {x : TExpr} {s : TStmt} {a b : Row} → (close : Pos) → Spells expr x a → Spells statement s b →
      Spells statement (stmt.If x s None) (word "if" at ∷ mark "(" bracket ∷ (a ++ (mark ")" close ∷ b)))
  -- an `else` belongs to the nearest `if` without one
  if_else : {at bracket : Pos} {x : TExpr} {s r : TStmt} {a b c : Row} → (close at_else : Pos) → Spells expr x a → Spells statement s b → ends_open s ≡ false → Spells statement r c →
      Spells statement (stmt.If x s (Some r)) (word "if" at ∷ mark "(" bracket ∷ (a ++ (mark ")" close ∷ (b ++ (word "else" at_else ∷ c)))))
  while_loop : {at bracket : Pos} {x : TExpr} {s : TStmt} {a b : Row} → (close : Pos) → Spells expr x a → Spells statement s b →
      Spells statement (stmt.While x s) (word "while" at ∷ mark "(" bracket ∷ (a ++ (mark ")" close ∷ b)))
  for_loop : {at bracket : Pos} {i : Val init} {t : Val perhaps} {n : Val step} {s : TStmt} {a b c d : Row} → (end_init end_test close : Pos) →
      Spells init i a → Spells perhaps t b → Spells step n c → Spells statement s d →
      Spells statement (stmt.For i t n s) (word "for" at ∷ mark "(" bracket ∷ (a ++ (mark ";" end_init ∷ (b ++ (mark ";" end_test ∷ (c ++ (mark ")" close ∷ d)))))))
  cilk_for_loop : {at bracket at_long at_first equal : Pos} {i j : List ℕ} {l h : TExpr} {n : Val up} {s : TStmt} {a b c d : Row} → (end_low at_second less end_high close : Pos) →
      Spells expr l a → Spells shift h b → Spells up n c → Spells statement s d →
      Spells statement (stmt.CilkFor at_first i l (at_second, j) h n s)
      (word "cilk_for" at ∷ mark "(" bracket ∷ word "long" at_long ∷ name at_first i ∷ mark "=" equal
      ∷ (a ++ (mark ";" end_low ∷ name at_second j ∷ mark "<" less ∷ (b ++ (mark ";" end_high ∷ (c ++ (mark ")" close ∷ d)))))))
  broken : {at end : Pos} → Spells statement (stmt.Break at) (word "break" at ∷ mark ";" end ∷ [])
  continued : {at end : Pos} → Spells statement (stmt.Continue at) (word "continue" at ∷ mark ";" end ∷ [])
  returned : {at : Pos} {v : Val perhaps} {a : Row} → (end : Pos) → Spells perhaps v a → Spells statement (stmt.Return at v) (word "return" at ∷ (a ++ (mark ";" end ∷ [])))
  synced : {at end : Pos} → Spells statement stmt.Sync (word "cilk_sync" at ∷ mark ";" end ∷ [])
  braces : {at : Pos} {ss : List TStmt} {a : Row} → (close : Pos) → Spells body ss a → Spells block (stmt.Block ss) (mark "{" at ∷ (a ++ (mark "}" close ∷ [])))
  no_more : Spells body [] []
  locals : {at : Pos} {s : TStmt} {ss rest : List TStmt} {a b c : Row} → Spells local s a → Spells more_locals ss b → Spells body rest c →
      Spells body (s ∷ (ss ++ rest)) (word "long" at ∷ (a ++ (b ++ c)))
  next_statement : {s : TStmt} {ss : List TStmt} {a b : Row} → Spells statement s a → Spells body ss b → Spells body (s ∷ ss) (a ++ b)
  -- ---- The heads of loops

  no_init : Spells init None []
  init_simple : {s : TStmt} {a : Row} → Spells (simple false) s a → Spells init (Some s) a
  init_local : {at_long : Pos} {k : Kind} {i : List ℕ} {x : TExpr} {a b : Row} → (at equal : Pos) → Spells star k a → Spells expr x b →
      Spells init (Some (stmt.Local at k i (Some (Plain x)))) (word "long" at_long ∷ (a ++ (name at i ∷ mark "=" equal ∷ b)))
  no_step : Spells step None []
  a_step : {s : TStmt} {a : Row} → Spells (simple false) s a → Spells step (Some s) a
  name_first : {at plus : Pos} {i : List ℕ} → Spells up (at, i) (name at i ∷ mark "++" plus ∷ [])
  name_last : {at plus : Pos} {i : List ℕ} → Spells up (at, i) (mark "++" plus ∷ name at i ∷ [])
  -- ---- Functions, globals and the file

  no_params : Spells params [] []
  void_params : {at : Pos} → Spells params [] (word "void" at ∷ [])
  some_params : {p : Param} {ps : List Param} {a b : Row} → Spells param p a → Spells more_params ps b → Spells params (p ∷ ps) (a ++ b)
  parameter : {at_long : Pos} {k : Kind} {x : List ℕ} {a : Row} → (at : Pos) → Spells star k a →
      Spells param (record { pos = at; kind = k; name = x }) (word "long" at_long ∷ (a ++ (name at x ∷ [])))
  last_param : Spells more_params [] []
  next_param : {comma : Pos} {p : Param} {ps : List Param} {a b : Row} → Spells param p a → Spells more_params ps b → Spells more_params (p ∷ ps) (mark "," comma ∷ (a ++ b))
  written : {at at_name bracket : Pos} {k : Kind} {f : List ℕ} {ps : List Param} {s : TStmt} {a b : Row} → (close : Pos) → Spells params ps a → Spells block s b →
      Spells (function at k at_name f) (Function at k at_name f ps s ∷ []) (mark "(" bracket ∷ (a ++ (mark ")" close ∷ b)))
  prototype : {at at_name bracket : Pos} {k : Kind} {f : List ℕ} {ps : List Param} {a : Row} → (close end : Pos) → Spells params ps a →
      Spells (function at k at_name f) [] (mark "(" bracket ∷ (a ++ (mark ")" close ∷ mark ";" end ∷ [])))
  void_function : {at at_name : Pos} {f : List ℕ} {fs : List Item} {a : Row} → Spells (function at kind.Void at_name f) fs a →
      Spells item fs (word "void" at ∷ name at_name f ∷ a)
  int_function : {at at_name : Pos} {f : List ℕ} {fs : List Item} {a : Row} → Spells (function at kind.Int at_name f) fs a →
      Spells item fs (word "int" at ∷ name at_name f ∷ a)
  long_function : {at : Pos} {k : Kind} {f : List ℕ} {fs : List Item} {a b : Row} → (at_name : Pos) → Spells star k a → Spells (function at k at_name f) fs b →
      Spells item fs (word "long" at ∷ (a ++ (name at_name f ∷ b)))
  plain_globals : {at_long : Pos} {k : Kind} {g : List ℕ} {gs : List Item} {a b : Row} → (at : Pos) → Spells star k a → Spells (more_globals false) gs b →
      Spells item (Global at g k false ∷ gs) (word "long" at_long ∷ (a ++ (name at g ∷ b)))
  replicated_globals : {at_replicated at_long : Pos} {k : Kind} {g : List ℕ} {gs : List Item} {a b : Row} → (at : Pos) → Spells star k a → Spells (more_globals true) gs b →
      Spells item (Global at g k true ∷ gs) (word "replicated" at_replicated ∷ word "long" at_long ∷ (a ++ (name at g ∷ b)))
  last_global : {r : Bool} {end : Pos} → Spells (more_globals r) [] (mark ";" end ∷ [])
  next_global : {r : Bool} {comma : Pos} {k : Kind} {g : List ℕ} {gs : List Item} {a b : Row} → (at : Pos) → Spells star k a → Spells (more_globals r) gs b →
      Spells (more_globals r) (Global at g k r ∷ gs) (mark "," comma ∷ (a ++ (name at g ∷ b)))
  no_items : Spells items [] []
  next_item : {fs gs : List Item} {a b : Row} → Spells item fs a → Spells items gs b → Spells items (fs ++ gs) (a ++ b)
  whole : {fs : List Item} {a : Row} → (end : Pos) → Spells items fs a → Spells file (record { items = fs; end = end }) (a ++ (finish end ∷ []))
