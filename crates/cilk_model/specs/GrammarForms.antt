-- The forms of the grammar, and what each stands for in a tree.
use Rattle.std.specs.Prelude.{ℕ, Bool, List, Option}
use Rattle.word_ops.specs.declared.place.Pos.{Pos}
use Rattle.cilk_ast.specs.declared.kind.Kind.{Kind}
use Rattle.cilk_ast.specs.declared.tree.TExpr.{TExpr}
use Rattle.cilk_ast.specs.declared.tree.TStmt.{TStmt}
use Rattle.cilk_ast.specs.declared.tree.TSpawn.{TSpawn}
use Rattle.cilk_ast.specs.declared.tree.TValue.{TValue}
use Rattle.cilk_ast.specs.declared.tree.Param.{Param}
use Rattle.cilk_ast.specs.declared.tree.Item.{Item}
use Rattle.cilk_ast.specs.declared.tree.Tree.{Tree}

pub data Form : Type 0 where
  -- `[ "*" ]`, behind `long`
  star : Form
  -- an expression whose operators between operands, brackets aside, are all less loose than this
  expression : ℕ → Form
  -- the operators of one looseness, each with its right operand, behind an expression
  further : ℕ → TExpr → Form
  postfix : Form
  -- the indexes behind an expression
  indexes : TExpr → Form
  primary : Form
  -- `[ args ]`, and `{ "," expr }`
  args : Form
  more_args : Form
  -- `[ expr ]`
  perhaps : Form
  -- `cilk_spawn`, or `cilk_spawn_at ( expr )`
  origin : Form
  spawn : Form
  -- what stands behind a `=`: a spawn only where it may
  value : Bool → Form
  -- `[ "=" ( expr | spawn ) ]`
  initial : Form
  -- a declarator of a local, and `{ "," ldecl } ";"`
  local : Form
  more_locals : Form
  -- a statement that can stand in the head of a `for`; where it may, a spawn can stand behind its `=`
  simple : Bool → Form
  -- what stands behind the expression of such a statement
  change : Bool → TExpr → Form
  -- `[ init ]`, and `[ simple ]`
  init : Form
  step : Form
  -- the step of a `cilk_for`
  up : Form
  statement : Form
  block : Form
  -- `{ decl | stmt }`
  body : Form
  -- `[ "void" | param { "," param } ]`, and `{ "," param }`
  params : Form
  param : Form
  more_params : Form
  -- what stands behind the name of a function: its place and its result, then its name's place and its name
  function : Pos → Kind → Pos → List ℕ → Form
  -- `{ "," gdecl } ";"`, of replicated globals or of plain ones
  more_globals : Bool → Form
  item : Form
  items : Form
  file : Form

abbrev pub Val : Form → Type 0
Val star = Kind
Val (expression n) = TExpr
Val (further n x) = TExpr
Val postfix = TExpr
Val (indexes x) = TExpr
Val primary = TExpr
Val args = List TExpr
Val more_args = List TExpr
Val perhaps = Option TExpr
Val origin = Pos × Option TExpr
Val spawn = TSpawn
Val (value may) = TValue
Val initial = Option TValue
Val local = TStmt
Val more_locals = List TStmt
Val (simple may) = TStmt
Val (change may x) = TStmt
Val init = Option TStmt
Val step = Option TStmt
Val up = Pos × List ℕ
Val statement = TStmt
Val block = TStmt
Val body = List TStmt
Val params = List Param
Val param = Param
Val more_params = List Param
Val (function at result name_at name) = List Item
Val (more_globals replicated) = List Item
Val item = List Item
Val items = List Item
Val file = Tree

-- `unary`, `shift` and `expr`: the expressions of no operator between operands, of the operators that are
-- tighter than a comparison, and of all.
abbrev pub unary : Form
unary = expression 0

abbrev pub shift : Form
shift = expression 3

abbrev pub expr : Form
expr = expression 10
