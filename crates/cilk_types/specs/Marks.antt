-- How many marks and words the text of a tree has at least. Commas between arguments, the semicolons behind statements
-- and prototypes are left out. Each mark or word is at least a byte of the text.
use Rattle.std.specs.Prelude.{ℕ, ◌+◌, ◌^◌, ◌≤◌, List, [], ◌∷◌, Option, Some, None}
use Rattle.cilk_ast.specs.declared.tree.TSpawn.{TSpawn}
use Rattle.cilk_ast.specs.declared.tree.TValue.{TValue}
use Rattle.cilk_ast.specs.declared.tree.TValue.TheVariants.{Plain, Spawned}
use Rattle.cilk_ast.specs.declared.tree.Tree.{Tree}
use Rattle.cilk_ast.specs.declared.tree.Item.{Item}
use Rattle.cilk_ast.specs.declared.tree.Item.TheVariants as item
use Rattle.cilk_ast.specs.declared.tree.TExpr.{TExpr, Number, Var, Call', Builtin', Print', Row_of-TExpr as Args, end_of-TExpr as no_args, more_of-TExpr as more_args}
use Rattle.cilk_ast.specs.TreeExpression.{Paren, Un, Deref, Cast, Index, Bin, Both, Either, InitAt}
use Rattle.cilk_ast.specs.declared.tree.TStmt.{TStmt, Empty, Block', Local, Eval, Assign, AddTo, Up, Down, Spawn, Break, Continue, Return, Sync, Held-TStmt-If-2, None', Row_of-TStmt as Stmts, end_of-TStmt as no_stmts, more_of-TStmt as more_stmts}
use Rattle.cilk_ast.specs.TreeStatement.{If, While, For, CilkFor, Present}

-- Those of an expression.
abbrev mutual
  pub marks_of : TExpr → ℕ
  marks_of (Number at value) = 1
  marks_of (Var at name) = 1
  marks_of (Paren at inner) = 2 + marks_of inner
  marks_of (Un at op inner) = 1 + marks_of inner
  marks_of (Deref at inner) = 1 + marks_of inner
  marks_of (Cast at kind inner) = 3 + marks_of inner
  marks_of (Index at base index) = 2 + marks_of base + marks_of index
  marks_of (Bin at op left right) = 1 + marks_of left + marks_of right
  marks_of (Both at left right) = 1 + marks_of left + marks_of right
  marks_of (Either at left right) = 1 + marks_of left + marks_of right
  marks_of (Call' at name n args) = 3 + argument_marks args
  marks_of (Builtin' at which n args) = 3 + argument_marks args
  marks_of (Print' at text_at format n args) = 4 + argument_marks args
  marks_of (InitAt at name_at name value) = 4 + marks_of value

  pub argument_marks : {n : _} → Args n → ℕ
  argument_marks no_args = 0
  argument_marks (more_args arg rest) = marks_of arg + argument_marks rest

-- Those of expressions in a list, of one that may be missing, of a spawn and of a value.
abbrev pub list_marks : List TExpr → ℕ
list_marks [] = 0
list_marks (arg ∷ rest) = marks_of arg + list_marks rest

abbrev pub option_marks : Option TExpr → ℕ
option_marks None = 0
option_marks (Some e) = marks_of e

abbrev pub spawn_marks : TSpawn → ℕ
spawn_marks spawn = 4 + option_marks spawn.hint + list_marks spawn.args

abbrev pub value_marks : TValue → ℕ
value_marks (Plain e) = marks_of e
value_marks (Spawned spawn) = spawn_marks spawn

abbrev pub initial_marks : Option TValue → ℕ
initial_marks None = 0
initial_marks (Some value) = value_marks value

-- Those of a statement.
abbrev mutual
  pub marks_in : TStmt → ℕ
  marks_in Empty = 1
  marks_in (Block' n body) = 2 + marks_in_all body
  marks_in (Local at kind name value) = 2 + initial_marks value
  marks_in (Eval e) = marks_of e
  marks_in (Assign at left value) = 1 + marks_of left + value_marks value
  marks_in (AddTo at left value) = 1 + marks_of left + marks_of value
  marks_in (Up left) = 1 + marks_of left
  marks_in (Down left) = 1 + marks_of left
  marks_in (Spawn spawn) = spawn_marks spawn
  marks_in (If test yes_ no_) = 3 + marks_of test + marks_in yes_ + marks_in_part no_
  marks_in (While test body) = 3 + marks_of test + marks_in body
  marks_in (For init test step body) = 5 + marks_in_part init + option_marks test + marks_in_part step + marks_in body
  marks_in (CilkFor at name low second high third body) = 12 + marks_of low + marks_of high + marks_in body
  marks_in (Break at) = 1
  marks_in (Continue at) = 1
  marks_in (Return at value) = 1 + option_marks value
  marks_in Sync = 1

  pub marks_in_part : Held-TStmt-If-2 → ℕ
  marks_in_part None' = 0
  marks_in_part (Present s) = marks_in s

  pub marks_in_all : {n : _} → Stmts n → ℕ
  marks_in_all no_stmts = 0
  marks_in_all (more_stmts first rest) = marks_in first + marks_in_all rest

-- Those of items.
abbrev pub marks_from : List Item → ℕ
marks_from [] = 0
marks_from (item.Global at name kind replicated ∷ items) = 2 + marks_from items
marks_from (item.Function at result name_at name params body ∷ items) = 4 + marks_in body + marks_from items

-- A tree that a text of at most 1,048,576 bytes can spell has no more marks and words.
abbrev pub IsWithinText : Tree → Type 0
IsWithinText tree = marks_from tree.items ≤ 2 ^ 20
