-- The tokens of a tree, as its canonical text has them. Their places are left blank.
use Rattle.std.specs.Prelude.{ℕ, Bool, true, false, List, [], ◌∷◌, ◌++◌, map, flat_map, Option, Some, None}
use Prim.Native.String.{String}
use Rattle.word_ops.specs.declared.place.Pos.{Pos}
use Rattle.word_ops.specs.declared.operators.UnaryOp.{UnaryOp}
use Rattle.word_ops.specs.declared.operators.UnaryOp.TheVariants as single
use Rattle.cilk_ast.specs.declared.kind.Kind.{Kind}
use Rattle.cilk_ast.specs.declared.kind.Kind.TheVariants as kind
use Rattle.cilk_ast.specs.declared.tree.TExpr.{TExpr, Number, Var, Call', Builtin', Print', Row_of-TExpr as Args, end_of-TExpr as no_args, more_of-TExpr as more_args}
use Rattle.cilk_ast.specs.TreeExpression.{Paren, Un, Deref, Cast, Index, Bin, Both, Either, InitAt}
use Rattle.cilk_ast.specs.declared.tree.TStmt.{TStmt, Block', Local, Eval, Assign, AddTo, Up, Down, Spawn, Break, Continue, Return, Sync, None', Held-TStmt-If-2, Row_of-TStmt as Stmts, end_of-TStmt as no_stmts, more_of-TStmt as more_stmts, Empty, If', While', For', CilkFor'}
use Rattle.cilk_ast.specs.TreeStatement.{If, While, For, CilkFor, Present}
use Rattle.cilk_ast.specs.declared.tree.TSpawn.{TSpawn}
use Rattle.cilk_ast.specs.declared.tree.TValue.{TValue}
use Rattle.cilk_ast.specs.declared.tree.TValue.TheVariants.{Plain, Spawned}
use Rattle.cilk_ast.specs.declared.tree.Param.{Param}
use Rattle.cilk_ast.specs.declared.tree.Item.{Item}
use Rattle.cilk_ast.specs.declared.tree.Item.TheVariants.{Global, Function}
use Rattle.cilk_ast.specs.declared.tree.Tree.{Tree}
use Rattle.cilk_model.specs.Lexemes as lexeme
use Rattle.cilk_model.specs.Lexemes.{Lexeme}
use Rattle.cilk_model.specs.Signs as sign
use Rattle.cilk_model.specs.Signs.{Prefix, minus, opposite, complement, contents, prefix_spelling, Infix, either, both, binary, infix_spelling, builtin_spelling}
use Rattle.cilk_model.specs.Grammar.{Row}

-- The blank place.
abbrev pub nowhere : Pos
nowhere = record { line = 0; column = 0 }

abbrev pub word : String → Lexeme
word spelling = sign.word spelling nowhere

abbrev pub mark : String → Lexeme
mark spelling = sign.mark spelling nowhere

abbrev pub name : List ℕ → Lexeme
name x = lexeme.name nowhere x

-- ---- Tokens round and between others

abbrev pub in_brackets : Row → Row
in_brackets a = mark "(" ∷ (a ++ mark ")" ∷ [])

-- Rows with a comma before each, and with one between two.
abbrev pub behind_commas : List Row → Row
behind_commas [] = []
behind_commas (a ∷ rest) = mark "," ∷ (a ++ behind_commas rest)

abbrev pub between_commas : List Row → Row
between_commas [] = []
between_commas (a ∷ rest) = a ++ behind_commas rest

-- ---- Expressions

abbrev pub prefix : UnaryOp → Prefix
prefix single.Neg = minus
prefix single.Not = opposite
prefix single.Flip = complement

abbrev pub before_operand : Prefix → Row → Row
before_operand o a = mark (prefix_spelling o) ∷ a

abbrev pub between_operands : Infix → Row → Row → Row
between_operands o a b = a ++ (mark (infix_spelling o) ∷ b)

-- `*`, where the kind is an address.
abbrev pub star : Kind → Row
star kind.Long = []
star kind.Ptr = mark "*" ∷ []
star kind.Void = []
star kind.Int = []

abbrev mutual
  pub expression : TExpr → Row
  expression (Number at value) = lexeme.literal nowhere value ∷ []
  expression (Var at x) = name x ∷ []
  expression (Paren at inner) = in_brackets (expression inner)
  expression (Un at o inner) = before_operand (prefix o) (expression inner)
  expression (Deref at inner) = before_operand contents (expression inner)
  expression (Cast at k inner) = in_brackets (word "long" ∷ star k) ++ expression inner
  expression (Index at base index) = expression base ++ (mark "[" ∷ (expression index ++ mark "]" ∷ []))
  expression (Bin at o left right) = between_operands (binary o) (expression left) (expression right)
  expression (Both at left right) = between_operands both (expression left) (expression right)
  expression (Either at left right) = between_operands either (expression left) (expression right)
  expression (Call' at f n args) = name f ∷ in_brackets (between_commas (arguments args))
  expression (Builtin' at which n args) = word (builtin_spelling which) ∷ in_brackets (between_commas (arguments args))
  expression (Print' at text_at format n args) = word "printf" ∷ in_brackets (lexeme.text nowhere format ∷ behind_commas (arguments args))
  expression (InitAt at name_at x value) = word "mw_replicated_init" ∷ in_brackets (mark "&" ∷ name x ∷ mark "," ∷ expression value)

  -- the tokens of each argument
  pub arguments : {n : _} → Args n → List Row
  arguments no_args = []
  arguments (more_args arg rest) = expression arg ∷ arguments rest

abbrev pub perhaps : Option TExpr → Row
perhaps None = []
perhaps (Some e) = expression e

-- ---- Spawns, and what stands behind a `=`

abbrev pub origin : Option TExpr → Row
origin None = word "cilk_spawn" ∷ []
origin (Some hint) = word "cilk_spawn_at" ∷ in_brackets (expression hint)

abbrev pub spawn : TSpawn → Row
spawn s = origin s.hint ++ (name s.name ∷ in_brackets (between_commas (map expression s.args)))

abbrev pub value : TValue → Row
value (Plain e) = expression e
value (Spawned s) = spawn s

abbrev pub initial : Option TValue → Row
initial None = []
initial (Some v) = mark "=" ∷ value v

-- ---- Statements

-- `long`, then the name with its `*`.
abbrev pub declared : Kind → List ℕ → Row
declared k x = word "long" ∷ (star k ++ name x ∷ [])

-- A statement without parts that are statements, and without its `;`. Each local is declared by itself, and `++` and
-- `--` stand behind their place.
abbrev pub simple : TStmt → Row
simple Empty = []
simple (Block' _ _) = []
simple (Local at k x v) = declared k x ++ initial v
simple (Eval e) = expression e
simple (Assign at left v) = expression left ++ (mark "=" ∷ value v)
simple (AddTo at left e) = expression left ++ (mark "+=" ∷ expression e)
simple (Up left) = expression left ++ mark "++" ∷ []
simple (Down left) = expression left ++ mark "--" ∷ []
simple (Spawn s) = spawn s
simple (If' _ _ _ _) = []
simple (While' _ _ _) = []
simple (For' _ _ _ _ _) = []
simple (CilkFor' _ _ _ _ _ _ _ _) = []
simple (Break at) = word "break" ∷ []
simple (Continue at) = word "continue" ∷ []
simple (Return at e) = word "return" ∷ perhaps e
simple Sync = word "cilk_sync" ∷ []

-- The init or the step of a `for`.
abbrev pub head : Held-TStmt-If-2 → Row
head None' = []
head (Present s) = simple s

-- What stands between the brackets of a `for` and of a `cilk_for`.
abbrev pub for_head : Held-TStmt-If-2 → Option TExpr → Held-TStmt-If-2 → Row
for_head init test step = head init ++ (mark ";" ∷ (perhaps test ++ (mark ";" ∷ head step)))

abbrev pub cilk_for_head : List ℕ → TExpr → List ℕ → TExpr → List ℕ → Row
cilk_for_head i low j high k =
    declared kind.Long i ++ (mark "=" ∷ (expression low ++ (mark ";" ∷ name j ∷ mark "<" ∷ (expression high ++ (mark ";" ∷ name k ∷ mark "++" ∷ [])))))

abbrev mutual
  pub statement : TStmt → Row
  statement (Block' n body) = mark "{" ∷ (statements body ++ mark "}" ∷ [])
  statement (If test yes_ None') = word "if" ∷ (in_brackets (expression test) ++ statement yes_)
  statement (If test yes_ (Present no_)) = word "if" ∷ (in_brackets (expression test) ++ (statement yes_ ++ (word "else" ∷ statement no_)))
  statement (While test body) = word "while" ∷ (in_brackets (expression test) ++ statement body)
  statement (For init test step body) = word "for" ∷ (in_brackets (for_head init test step) ++ statement body)
  statement (CilkFor at i low second high third body) =
      word "cilk_for" ∷ (in_brackets (cilk_for_head i low second.1 high third.1) ++ statement body)
  statement other = simple other ++ mark ";" ∷ []

  pub statements : {n : _} → Stmts n → Row
  statements no_stmts = []
  statements (more_stmts s rest) = statement s ++ statements rest

-- ---- Items

abbrev pub parameter : Param → Row
parameter p = declared p.kind p.name

-- The result of a function.
abbrev pub result : Kind → Row
result kind.Long = word "long" ∷ []
result kind.Ptr = word "long" ∷ mark "*" ∷ []
result kind.Void = word "void" ∷ []
result kind.Int = word "int" ∷ []

abbrev pub replicated_word : Bool → Row
replicated_word true = word "replicated" ∷ []
replicated_word false = []

-- Each global is declared by itself.
abbrev pub item : Item → Row
item (Global at x k replicated) = replicated_word replicated ++ (declared k x ++ mark ";" ∷ [])
item (Function at k name_at f params body) = result k ++ (name f ∷ (in_brackets (between_commas (map parameter params)) ++ statement body))

abbrev pub tokens_of : Tree → Row
tokens_of tree = flat_map item tree.items
