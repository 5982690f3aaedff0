-- The locals that a statement names, and the copies that a body of `cilk_for` gets of them.
use Rattle.std.specs.Prelude.{ℕ, ◌==◌, List, [], ◌∷◌, ◌++◌, filter, Option, Some, None}
use Rattle.std.specs.List.{list_any}
use Rattle.cilk_ast.specs.declared.tree.TSpawn.{TSpawn}
use Rattle.cilk_ast.specs.declared.tree.TValue.{TValue}
use Rattle.cilk_ast.specs.declared.tree.TValue.TheVariants.{Plain, Spawned}
use Rattle.cilk_ast.specs.declared.tree.TExpr.{TExpr, Number, Var, Call', Builtin', Print', Row_of-TExpr as Args, end_of-TExpr as no_args, more_of-TExpr as more_args}
use Rattle.cilk_ast.specs.TreeExpression.{Paren, Un, Deref, Cast, Index, Bin, Both, Either, InitAt}
use Rattle.cilk_ast.specs.declared.tree.TStmt.{TStmt, Block', Local, Eval, Assign, AddTo, Up, Down, Spawn, Return, Held-TStmt-If-2, None', Row_of-TStmt as Stmts, end_of-TStmt as no_stmts, more_of-TStmt as more_stmts, Empty, Break, Continue, Sync}
use Rattle.cilk_ast.specs.TreeStatement.{If, While, For, CilkFor, Present}
use Rattle.cilk_model.specs.Scopes.{Entity, local, Names, Scopes, names_in, opened, global, function}
use Rattle.cilk_model.specs.Locals.{in_body, after, after_part}

-- The number of a local.
abbrev pub number_of : Option Entity → List ℕ
number_of None = []
number_of (Some (local l)) = l.number ∷ []
number_of (Some (global _)) = []
number_of (Some (function _)) = []

-- The numbers of the locals that an expression names.
module _ (names : Names) where
  abbrev mutual
    pub named_by : TExpr → List ℕ
    named_by (Number at value) = []
    named_by (Var at name) = number_of (names name)
    named_by (Paren at inner) = named_by inner
    named_by (Un at op inner) = named_by inner
    named_by (Deref at inner) = named_by inner
    named_by (Cast at kind inner) = named_by inner
    named_by (Index at base index) = named_by base ++ named_by index
    named_by (Bin at op left right) = named_by left ++ named_by right
    named_by (Both at left right) = named_by left ++ named_by right
    named_by (Either at left right) = named_by left ++ named_by right
    named_by (Call' at name n args) = named_by_args args
    named_by (Builtin' at which n args) = named_by_args args
    named_by (Print' at text_at format n args) = named_by_args args
    named_by (InitAt at name_at name value) = named_by value

    pub named_by_args : {n : _} → Args n → List ℕ
    named_by_args no_args = []
    named_by_args (more_args arg rest) = named_by arg ++ named_by_args rest

  -- The same of expressions in a list, of one that may be missing, of a spawn and of a value.
  abbrev pub named_by_list : List TExpr → List ℕ
  named_by_list [] = []
  named_by_list (arg ∷ rest) = named_by arg ++ named_by_list rest

  abbrev pub named_by_option : Option TExpr → List ℕ
  named_by_option None = []
  named_by_option (Some e) = named_by e

  abbrev pub named_by_spawn : TSpawn → List ℕ
  named_by_spawn spawn = named_by_option spawn.hint ++ named_by_list spawn.args

  abbrev pub named_by_value : TValue → List ℕ
  named_by_value (Plain e) = named_by e
  named_by_value (Spawned spawn) = named_by_spawn spawn

  abbrev pub named_by_initial : Option TValue → List ℕ
  named_by_initial None = []
  named_by_initial (Some value) = named_by_value value

-- The numbers of the locals that a statement names, those of its `cilk_for`s included.
abbrev mutual
  pub named_in : TStmt → Scopes → List ℕ
  named_in Empty scopes = []
  named_in (Block' n body) scopes = named_in_all body (opened scopes)
  named_in (Local at kind name value) scopes = named_by_initial (names_in scopes) value
  named_in (Eval e) scopes = named_by (names_in scopes) e
  named_in (Assign at left value) scopes = named_by (names_in scopes) left ++ named_by_value (names_in scopes) value
  named_in (AddTo at left value) scopes = named_by (names_in scopes) left ++ named_by (names_in scopes) value
  named_in (Up left) scopes = named_by (names_in scopes) left
  named_in (Down left) scopes = named_by (names_in scopes) left
  named_in (Spawn spawn) scopes = named_by_spawn (names_in scopes) spawn
  named_in (If test yes_ no_) scopes = named_by (names_in scopes) test ++ named_in yes_ scopes ++ named_in_part no_ (after yes_ scopes)
  named_in (While test body) scopes = named_by (names_in scopes) test ++ named_in body scopes
  named_in (For init test step body) scopes =
      let begun = after_part init (opened scopes) in
      named_in_part init (opened scopes) ++ named_by_option (names_in begun) test ++ named_in_part step begun
      ++ named_in body (after_part step begun)
  named_in (CilkFor at name low second high third body) scopes =
      named_by (names_in scopes) low ++ named_by (names_in scopes) high ++ named_in body (in_body name scopes)
  named_in (Break _) scopes = []
  named_in (Continue _) scopes = []
  named_in (Return at value) scopes = named_by_option (names_in scopes) value
  named_in Sync scopes = []

  pub named_in_part : Held-TStmt-If-2 → Scopes → List ℕ
  named_in_part None' scopes = []
  named_in_part (Present s) scopes = named_in s scopes

  pub named_in_all : {n : _} → Stmts n → Scopes → List ℕ
  named_in_all no_stmts scopes = []
  named_in_all (more_stmts first rest) scopes = named_in first scopes ++ named_in_all rest (after first scopes)

-- The locals of a function in the order of their slots, by their numbers.
abbrev pub Frame : Type 0
Frame = List ℕ

-- The locals of a frame that are among those named.
abbrev pub copies_of : Frame → List ℕ → Frame
copies_of frame named = filter (λ number. list_any (λ other. other == number) named) frame
