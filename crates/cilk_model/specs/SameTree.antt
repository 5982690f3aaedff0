-- Trees that are the same, places aside.
use Rattle.std.specs.Prelude.{ℕ, ℤ, Bool, List, [], ◌∷◌, Option, Some, None}
use Rattle.word_ops.specs.declared.place.Pos.{Pos}
use Rattle.word_ops.specs.declared.operators.BinaryOp.{BinaryOp}
use Rattle.word_ops.specs.declared.operators.UnaryOp.{UnaryOp}
use Rattle.cilk_ast.specs.declared.kind.Kind.{Kind}
use Rattle.cilk_ast.specs.declared.builtin.Builtin.{Builtin}
use Rattle.cilk_ast.specs.declared.tree.TExpr.{TExpr}
use Rattle.cilk_ast.specs.declared.tree.TExpr as tree
use Rattle.cilk_ast.specs.declared.tree.TStmt.{TStmt}
use Rattle.cilk_ast.specs.declared.tree.TStmt as stmt
use Rattle.cilk_ast.specs.declared.tree.TSpawn.{TSpawn}
use Rattle.cilk_ast.specs.declared.tree.TValue.{TValue}
use Rattle.cilk_ast.specs.declared.tree.TValue.TheVariants.{Plain, Spawned}
use Rattle.cilk_ast.specs.declared.tree.Param.{Param}
use Rattle.cilk_ast.specs.declared.tree.Item.{Item}
use Rattle.cilk_ast.specs.declared.tree.Item.TheVariants.{Global, Function}
use Rattle.cilk_ast.specs.declared.tree.Tree.{Tree}

-- The parts of a tree.
pub data Part : Type 0 where
  one_expression : Part
  expressions : Part
  perhaps_expression : Part
  one_spawn : Part
  one_value : Part
  perhaps_value : Part
  one_statement : Part
  statements : Part
  perhaps_statement : Part
  parameters : Part
  items : Part
  whole_tree : Part

abbrev pub Value : Part → Type 0
Value one_expression = TExpr
Value expressions = List TExpr
Value perhaps_expression = Option TExpr
Value one_spawn = TSpawn
Value one_value = TValue
Value perhaps_value = Option TValue
Value one_statement = TStmt
Value statements = List TStmt
Value perhaps_statement = Option TStmt
Value parameters = List Param
Value items = List Item
Value whole_tree = Tree

-- Two parts are of one form, with the same names, values and operators, and with parts that are the same.
pub data Same : (part : Part) → Value part → Value part → Type 0 where
  number : {at there : Pos} {v : ℤ} → Same one_expression (tree.Number at v) (tree.Number there v)
  variable : {at there : Pos} {x : List ℕ} → Same one_expression (tree.Var at x) (tree.Var there x)
  paren : {at there : Pos} {x y : TExpr} → Same one_expression x y → Same one_expression (tree.Paren at x) (tree.Paren there y)
  single : {at there : Pos} {o : UnaryOp} {x y : TExpr} → Same one_expression x y → Same one_expression (tree.Un at o x) (tree.Un there o y)
  deref : {at there : Pos} {x y : TExpr} → Same one_expression x y → Same one_expression (tree.Deref at x) (tree.Deref there y)
  cast : {at there : Pos} {k : Kind} {x y : TExpr} → Same one_expression x y → Same one_expression (tree.Cast at k x) (tree.Cast there k y)
  index : {at there : Pos} {b c i j : TExpr} → Same one_expression b c → Same one_expression i j → Same one_expression (tree.Index at b i) (tree.Index there c j)
  binary : {at there : Pos} {o : BinaryOp} {x y l r : TExpr} → Same one_expression x l → Same one_expression y r → Same one_expression (tree.Bin at o x y) (tree.Bin there o l r)
  both : {at there : Pos} {x y l r : TExpr} → Same one_expression x l → Same one_expression y r → Same one_expression (tree.Both at x y) (tree.Both there l r)
  either : {at there : Pos} {x y l r : TExpr} → Same one_expression x l → Same one_expression y r → Same one_expression (tree.Either at x y) (tree.Either there l r)
  call : {at there : Pos} {f : List ℕ} {xs ys : List TExpr} → Same expressions xs ys → Same one_expression (tree.Call at f xs) (tree.Call there f ys)
  builtin : {at there : Pos} {which : Builtin} {xs ys : List TExpr} → Same expressions xs ys → Same one_expression (tree.Builtin at which xs) (tree.Builtin there which ys)
  print : {at there text_at text_there : Pos} {format : List ℕ} {xs ys : List TExpr} → Same expressions xs ys →
      Same one_expression (tree.Print at text_at format xs) (tree.Print there text_there format ys)
  init_at : {at there name_at name_there : Pos} {x : List ℕ} {v w : TExpr} → Same one_expression v w →
      Same one_expression (tree.InitAt at name_at x v) (tree.InitAt there name_there x w)
  no_expressions : Same expressions [] []
  more_expressions : {x y : TExpr} {xs ys : List TExpr} → Same one_expression x y → Same expressions xs ys → Same expressions (x ∷ xs) (y ∷ ys)
  no_expression : Same perhaps_expression None None
  an_expression : {x y : TExpr} → Same one_expression x y → Same perhaps_expression (Some x) (Some y)
  spawn : {f : List ℕ} {at there name_at name_there : Pos} {p q : Option TExpr} {xs ys : List TExpr} → Same perhaps_expression p q → Same expressions xs ys →
      Same one_spawn (record { pos = at; hint = p; name_pos = name_at; name = f; args = xs }) (record { pos = there; hint = q; name_pos = name_there; name = f; args = ys })
  plain : {x y : TExpr} → Same one_expression x y → Same one_value (Plain x) (Plain y)
  spawned : {s t : TSpawn} → Same one_spawn s t → Same one_value (Spawned s) (Spawned t)
  no_value : Same perhaps_value None None
  a_value : {v w : TValue} → Same one_value v w → Same perhaps_value (Some v) (Some w)
  empty : Same one_statement stmt.Empty stmt.Empty
  block : {ss ts : List TStmt} → Same statements ss ts → Same one_statement (stmt.Block ss) (stmt.Block ts)
  local : {at there : Pos} {k : Kind} {x : List ℕ} {v w : Option TValue} → Same perhaps_value v w → Same one_statement (stmt.Local at k x v) (stmt.Local there k x w)
  eval : {x y : TExpr} → Same one_expression x y → Same one_statement (stmt.Eval x) (stmt.Eval y)
  assign : {at there : Pos} {x y : TExpr} {v w : TValue} → Same one_expression x y → Same one_value v w → Same one_statement (stmt.Assign at x v) (stmt.Assign there y w)
  add_to : {at there : Pos} {x y v w : TExpr} → Same one_expression x y → Same one_expression v w → Same one_statement (stmt.AddTo at x v) (stmt.AddTo there y w)
  up : {x y : TExpr} → Same one_expression x y → Same one_statement (stmt.Up x) (stmt.Up y)
  down : {x y : TExpr} → Same one_expression x y → Same one_statement (stmt.Down x) (stmt.Down y)
  lone_spawn : {s t : TSpawn} → Same one_spawn s t → Same one_statement (stmt.Spawn s) (stmt.Spawn t)
  choice : {x y : TExpr} {s t : TStmt} {p q : Option TStmt} → Same one_expression x y → Same one_statement s t → Same perhaps_statement p q →
      Same one_statement (stmt.If x s p) (stmt.If y t q)
  while_loop : {x y : TExpr} {s t : TStmt} → Same one_expression x y → Same one_statement s t → Same one_statement (stmt.While x s) (stmt.While y t)
  for_loop : {i j n m : Option TStmt} {x y : Option TExpr} {s t : TStmt} →
      Same perhaps_statement i j → Same perhaps_expression x y → Same perhaps_statement n m → Same one_statement s t → Same one_statement (stmt.For i x n s) (stmt.For j y m t)
  cilk_for_loop : {at there at_second there_second at_third there_third : Pos} {i j k : List ℕ} {l h x y : TExpr} {s t : TStmt} →
      Same one_expression l x → Same one_expression h y → Same one_statement s t →
      Same one_statement (stmt.CilkFor at i l (at_second, j) h (at_third, k) s) (stmt.CilkFor there i x (there_second, j) y (there_third, k) t)
  broken : {at there : Pos} → Same one_statement (stmt.Break at) (stmt.Break there)
  continued : {at there : Pos} → Same one_statement (stmt.Continue at) (stmt.Continue there)
  returned : {at there : Pos} {x y : Option TExpr} → Same perhaps_expression x y → Same one_statement (stmt.Return at x) (stmt.Return there y)
  synced : Same one_statement stmt.Sync stmt.Sync
  no_statements : Same statements [] []
  more_statements : {s t : TStmt} {ss ts : List TStmt} → Same one_statement s t → Same statements ss ts → Same statements (s ∷ ss) (t ∷ ts)
  no_statement : Same perhaps_statement None None
  a_statement : {s t : TStmt} → Same one_statement s t → Same perhaps_statement (Some s) (Some t)
  no_parameters : Same parameters [] []
  more_parameters : {at there : Pos} {k : Kind} {x : List ℕ} {ps qs : List Param} → Same parameters ps qs →
      Same parameters (record { pos = at; kind = k; name = x } ∷ ps) (record { pos = there; kind = k; name = x } ∷ qs)
  no_items : Same items [] []
  global : {at there : Pos} {x : List ℕ} {k : Kind} {replicated : Bool} {is js : List Item} → Same items is js →
      Same items (Global at x k replicated ∷ is) (Global there x k replicated ∷ js)
  function : {at there name_at name_there : Pos} {k : Kind} {f : List ℕ} {ps qs : List Param} {s t : TStmt} {is js : List Item} →
      Same parameters ps qs → Same one_statement s t → Same items is js →
      Same items (Function at k name_at f ps s ∷ is) (Function there k name_there f qs t ∷ js)
  whole : {end end_there : Pos} {is js : List Item} → Same items is js → Same whole_tree (record { items = is; end = end }) (record { items = js; end = end_there })

-- Two trees are the same, places aside.
abbrev pub SameTree : Tree → Tree → Type 0
SameTree = Same whole_tree
