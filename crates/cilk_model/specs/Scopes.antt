-- What names stand for, at each place of a text.
use Rattle.std.specs.Prelude.{ℕ, suc, Bool, false, if◌then◌else◌, ℤ, List, [], ◌∷◌, ◌++◌, drop, Option, Some, None, is_some}
use Rattle.std.specs.Option.{option_or}
use Rattle.std.specs.Map.{lookup}
use Rattle.std.specs.Str.{bytes_eq}
use Rattle.cilk_ast.specs.declared.kind.Kind.{Kind}

-- A parameter, a local or the variable of a `for` or `cilk_for`: its kind; how many of them its function
-- declares before it, in text order; and how many bodies of `cilk_for` it is declared in.
pub record Local : Type 0 where
  pub kind : Kind
  pub number : ℕ
  pub level : ℕ

-- A global: its kind, whether each nodelet has a copy of it, and its address.
pub record Global : Type 0 where
  pub kind : Kind
  pub replicated : Bool
  pub address : ℤ

-- A function that is written: its result, the kinds of its parameters, and how many are written before it.
pub record Written : Type 0 where
  pub result : Kind
  pub params : List Kind
  pub index : ℕ

-- What a name stands for.
pub data Entity : Type 0 where
  local : Local → Entity
  global : Global → Entity
  function : Written → Entity

-- What each name stands for at a place, if it is declared there.
abbrev pub Names : Type 0
Names = List ℕ → Option Entity

-- The locals of a scope by their names, in text order. Of two with one name the first counts.
abbrev pub Scope : Type 0
Scope = List (List ℕ × Local)

-- What is known at a place: the names of the file; the scopes of the function that are open, the innermost
-- first; how many locals the function has declared so far; and how many bodies of `cilk_for` are around.
pub record Scopes : Type 0 where
  pub file : Names
  pub around : List Scope
  pub count : ℕ
  pub level : ℕ

-- The local of a name in the innermost scope that has one.
abbrev pub local_named : List ℕ → List Scope → Option Local
local_named name [] = None
local_named name (scope ∷ scopes) = option_or (lookup (bytes_eq name) scope) (local_named name scopes)

-- What a local hides.
abbrev pub hides : Option Local → Option Entity → Option Entity
hides (Some l) other = Some (local l)
hides None other = other

-- What names stand for at a place: a local, or else what the file knows.
abbrev pub names_in : Scopes → Names
names_in scopes name = hides (local_named name scopes.around) (scopes.file name)

-- A scope, or another list of what names stand for, has a name.
abbrev pub has_name : {A : Type 0} → List ℕ → List (List ℕ × A) → Bool
has_name name scope = is_some (lookup (bytes_eq name) scope)

-- The innermost scope has a name.
abbrev pub is_twice : List ℕ → List Scope → Bool
is_twice name [] = false
is_twice name (scope ∷ scopes) = has_name name scope

-- A scope with a name more, where it is not there.
abbrev pub with_new : {A : Type 0} → List ℕ → A → List (List ℕ × A) → List (List ℕ × A)
with_new name x scope = if has_name name scope then scope else scope ++ (name, x) ∷ []

-- The scopes with a name more in the innermost one.
abbrev pub with_local : List ℕ → Local → List Scope → List Scope
with_local name l [] = []
with_local name l (scope ∷ scopes) = with_new name l scope ∷ scopes

-- Behind a declaration.
abbrev pub declared : List ℕ → Kind → Scopes → Scopes
declared name kind scopes = record scopes {
  around = with_local name (record { kind = kind; number = scopes.count; level = scopes.level }) scopes.around;
  count = suc scopes.count;
}

-- In a scope of its own.
abbrev pub opened : Scopes → Scopes
opened scopes = record scopes { around = [] ∷ scopes.around }

-- In a body of `cilk_for`.
abbrev pub outlined : Scopes → Scopes
outlined scopes = record scopes { level = suc scopes.level }

-- Without the innermost scope.
abbrev pub closed : Scopes → Scopes
closed scopes = record scopes { around = drop 1 scopes.around }
