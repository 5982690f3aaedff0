-- The rules that are broken in a statement, each with its place.
use Rattle.std.specs.Prelude.{ℕ, nat_lt, Bool, true, false, not, List, [], ◌++◌, Option, Some, None}
use Rattle.std.specs.Str.{bytes_eq}
use Rattle.word_ops.specs.declared.place.Pos.{Pos}
use Rattle.cilk_ast.specs.declared.fault.FaultKind.TheVariants as fault
use Rattle.cilk_ast.specs.declared.fault.TextFault.{TextFault}
use Rattle.cilk_ast.specs.declared.kind.Kind.{Kind}
use Rattle.cilk_ast.specs.declared.kind.Kind.TheVariants as sort
use Rattle.cilk_ast.specs.declared.tree.TValue.{TValue}
use Rattle.cilk_ast.specs.declared.tree.TValue.TheVariants.{Plain, Spawned}
use Rattle.cilk_ast.specs.declared.tree.TExpr.{TExpr, Var, Bin', Both', Builtin', Call', Cast', Deref', Either', Index', InitAt', Number, Paren', Print', Un'}
use Rattle.cilk_ast.specs.TreeExpression.{Paren, Deref, Index}
use Rattle.cilk_ast.specs.declared.tree.TStmt.{TStmt, Block', Local, Eval, Assign, AddTo, Up, Down, Spawn, Break, Continue, Return, Held-TStmt-If-2, None', Row_of-TStmt as Stmts, end_of-TStmt as no_stmts, more_of-TStmt as more_stmts, Empty, Sync}
use Rattle.cilk_ast.specs.TreeStatement.{If, While, For, CilkFor, Present}
use Rattle.cilk_model.specs.FirstFault.{broken, broken_if}
use Rattle.cilk_model.specs.Scopes.{Entity, local, global, Names, Scopes, names_in, is_twice, opened, function}
use Rattle.cilk_model.specs.Sorts.{counted, same_kind, is_word, is_value, begins_at, Judged, kind_of, judged, spawn_kind}
use Rattle.cilk_model.specs.ExpressionBreaks.{misfit, unfit, faults_of, part_faults, spawn_faults}
use Rattle.cilk_model.specs.Locals.{in_body, after, after_part}

-- ---- left sides

-- A place: a name, `*e` or `e[i]`, brackets aside.
abbrev pub is_place : TExpr → Bool
is_place (Number _ _) = false
is_place (Var at name) = true
is_place (Paren at inner) = is_place inner
is_place (Un' _ _ _ _) = false
is_place (Deref at inner) = true
is_place (Cast' _ _ _ _) = false
is_place (Index at base index) = true
is_place (Bin' _ _ _ _ _ _) = false
is_place (Both' _ _ _ _ _) = false
is_place (Either' _ _ _ _ _) = false
is_place (Call' _ _ _ _) = false
is_place (Builtin' _ _ _ _) = false
is_place (Print' _ _ _ _ _) = false
is_place (InitAt' _ _ _ _ _) = false

-- A name stands for a local that is declared in fewer bodies of `cilk_for` than this.
abbrev pub is_outer_local : ℕ → Option Entity → Bool
is_outer_local level None = false
is_outer_local level (Some (local l)) = nat_lt l.level level
is_outer_local level (Some (global _)) = false
is_outer_local level (Some (function _)) = false

-- An outer local, or the variable of the `cilk_for`, brackets aside.
abbrev pub is_outer : Scopes → TExpr → Bool
is_outer scopes (Number _ _) = false
is_outer scopes (Var at name) = is_outer_local scopes.level (names_in scopes name)
is_outer scopes (Paren at inner) = is_outer scopes inner
is_outer scopes (Un' _ _ _ _) = false
is_outer scopes (Deref' _ _ _) = false
is_outer scopes (Cast' _ _ _ _) = false
is_outer scopes (Index' _ _ _ _ _) = false
is_outer scopes (Bin' _ _ _ _ _ _) = false
is_outer scopes (Both' _ _ _ _ _) = false
is_outer scopes (Either' _ _ _ _ _) = false
is_outer scopes (Call' _ _ _ _) = false
is_outer scopes (Builtin' _ _ _ _) = false
is_outer scopes (Print' _ _ _ _ _) = false
is_outer scopes (InitAt' _ _ _ _ _) = false

-- A name stands for a global.
abbrev pub is_global : Option Entity → Bool
is_global None = false
is_global (Some (local _)) = false
is_global (Some (global g)) = true
is_global (Some (function _)) = false

-- What a spawn's target may be: a name that is no global's, brackets aside.
abbrev pub is_target : Names → TExpr → Bool
is_target names (Number _ _) = false
is_target names (Var at name) = not (is_global (names name))
is_target names (Paren at inner) = is_target names inner
is_target names (Un' _ _ _ _) = false
is_target names (Deref' _ _ _) = false
is_target names (Cast' _ _ _ _) = false
is_target names (Index' _ _ _ _ _) = false
is_target names (Bin' _ _ _ _ _ _) = false
is_target names (Both' _ _ _ _ _) = false
is_target names (Either' _ _ _ _ _) = false
is_target names (Call' _ _ _ _) = false
is_target names (Builtin' _ _ _ _) = false
is_target names (Print' _ _ _ _ _) = false
is_target names (InitAt' _ _ _ _ _) = false

-- The rules that are broken in a left side.
abbrev pub side_faults : Scopes → TExpr → List TextFault
side_faults scopes left =
    faults_of (names_in scopes) left ++ broken_if (not (is_place left)) fault.NotAPlace (begins_at left)
    ++ broken_if (is_outer scopes left) fault.AssignsOuter (begins_at left)

-- ---- values

-- A value fits the kind of what it is given to, where that has one.
abbrev pub given_misfit : Option Kind → Judged → List TextFault
given_misfit None value = []
given_misfit (Some wanted) value = unfit wanted value

-- A spawn brings the kind of its target.
abbrev pub brings_other : Option Kind → Option Kind → Pos → List TextFault
brings_other (Some wanted) (Some kind) at = broken_if (not (same_kind wanted kind)) fault.WrongType at
brings_other _ _ at = []

-- The rules that are broken in what is given to something of a kind.
abbrev pub value_faults : Names → Option Kind → TValue → List TextFault
value_faults names wanted (Plain e) = faults_of names e ++ given_misfit wanted (judged names e)
value_faults names wanted (Spawned spawn) = spawn_faults names spawn ++ brings_other wanted (spawn_kind names spawn) spawn.pos

-- The rules that are broken in an initial value, if there is one.
abbrev pub initial_faults : Names → Kind → Option TValue → List TextFault
initial_faults names kind None = []
initial_faults names kind (Some value) = value_faults names (Some kind) value

-- The target of a spawn is a local or a parameter.
abbrev pub target_faults : Names → TExpr → TValue → List TextFault
target_faults names left (Plain e) = []
target_faults names left (Spawned spawn) = broken_if (not (is_target names left)) fault.NotAPlace (begins_at left)

-- What is added is a word, where what it is added to has a kind.
abbrev pub added_misfit : Option Kind → Judged → List TextFault
added_misfit None value = []
added_misfit (Some side) value = misfit is_word value

-- ---- ends and jumps

-- The rules that are broken in a `return` of a function with a result of a kind.
abbrev pub return_faults : Names → Kind → Pos → Option TExpr → List TextFault
return_faults names result at None = broken_if (not (same_kind sort.Void result)) fault.WrongType at
return_faults names sort.Void at (Some e) = broken fault.WrongType at ++ faults_of names e
return_faults names result at (Some e) = faults_of names e ++ unfit (counted result) (judged names e)

-- A test, if there is one, is a word or an address.
abbrev pub test_faults : Names → Option TExpr → List TextFault
test_faults names None = []
test_faults names (Some test) = part_faults names is_value test

-- A name in the head of a `cilk_for` is that of its variable.
abbrev pub other_name : List ℕ → Pos × List ℕ → List TextFault
other_name name again = broken_if (not (bytes_eq name again.1)) fault.Unknown again.0

-- ---- statements

-- The rules that are broken in a statement of a function with a result of this kind. The truth says that the
-- statement stands in a loop which a `break` can leave.
module _ (result : Kind) where
  abbrev mutual
    pub faults_in : TStmt → Scopes → Bool → List TextFault
    faults_in Empty scopes inside = []
    faults_in (Block' n body) scopes inside = faults_in_all body (opened scopes) inside
    faults_in (Local at kind name value) scopes inside =
        broken_if (is_twice name scopes.around) fault.Twice at ++ initial_faults (names_in scopes) kind value
    faults_in (Eval e) scopes inside = faults_of (names_in scopes) e
    faults_in (Assign at left value) scopes inside =
        side_faults scopes left ++ target_faults (names_in scopes) left value
        ++ value_faults (names_in scopes) (kind_of (names_in scopes) left) value
    faults_in (AddTo at left value) scopes inside =
        side_faults scopes left ++ faults_of (names_in scopes) value
        ++ added_misfit (kind_of (names_in scopes) left) (judged (names_in scopes) value)
    faults_in (Up left) scopes inside = side_faults scopes left ++ misfit is_value (judged (names_in scopes) left)
    faults_in (Down left) scopes inside = side_faults scopes left ++ misfit is_value (judged (names_in scopes) left)
    faults_in (Spawn spawn) scopes inside = spawn_faults (names_in scopes) spawn
    faults_in (If test yes_ no_) scopes inside =
        part_faults (names_in scopes) is_value test ++ faults_in yes_ scopes inside ++ faults_in_part no_ (after yes_ scopes) inside
    faults_in (While test body) scopes inside = part_faults (names_in scopes) is_value test ++ faults_in body scopes true
    faults_in (For init test step body) scopes inside =
        let begun = after_part init (opened scopes) in
        faults_in_part init (opened scopes) inside ++ test_faults (names_in begun) test ++ faults_in_part step begun inside
        ++ faults_in body (after_part step begun) true
    faults_in (CilkFor at name low second high third body) scopes inside =
        part_faults (names_in scopes) is_word low ++ other_name name second ++ part_faults (names_in scopes) is_word high
        ++ other_name name third ++ faults_in body (in_body name scopes) false
    faults_in (Break at) scopes inside = broken_if (not inside) fault.Escapes at
    faults_in (Continue at) scopes inside = broken_if (not inside) fault.Escapes at
    faults_in (Return at value) scopes inside =
        return_faults (names_in scopes) result at value ++ broken_if (nat_lt 0 scopes.level) fault.Escapes at
    faults_in Sync scopes inside = []

    pub faults_in_part : Held-TStmt-If-2 → Scopes → Bool → List TextFault
    faults_in_part None' scopes inside = []
    faults_in_part (Present s) scopes inside = faults_in s scopes inside

    pub faults_in_all : {n : _} → Stmts n → Scopes → Bool → List TextFault
    faults_in_all no_stmts scopes inside = []
    faults_in_all (more_stmts first rest) scopes inside = faults_in first scopes inside ++ faults_in_all rest (after first scopes) inside

  -- The same in the outermost block, which has no scope of its own.
  abbrev pub faults_in_body : TStmt → Scopes → List TextFault
  faults_in_body (Block' n body) scopes = faults_in_all body scopes false
  faults_in_body s scopes = faults_in s scopes false
