-- The rules that are broken in a file, each with its place.
use Rattle.std.specs.Prelude.{ℕ, suc, Bool, true, false, not, ◌||◌, if◌then◌else◌, List, [], ◌∷◌, ◌++◌, map, filter, take, drop, Option, Some, None, is_some, slice_get, codes}
use Rattle.std.specs.Map.{lookup}
use Rattle.std.specs.Str.{bytes_eq}
use Rattle.word_ops.specs.declared.place.Pos.{Pos}
use Rattle.data_layout.specs.Address.{address_at}
use Rattle.cilk_ast.specs.declared.fault.FaultKind.TheVariants as fault
use Rattle.cilk_ast.specs.declared.fault.TextFault.{TextFault}
use Rattle.cilk_ast.specs.declared.kind.Kind.{Kind}
use Rattle.cilk_ast.specs.declared.kind.Kind.TheVariants as sort
use Rattle.cilk_ast.specs.declared.tree.Param.{Param}
use Rattle.cilk_ast.specs.declared.tree.Tree.{Tree}
use Rattle.cilk_ast.specs.declared.tree.Item.{Item}
use Rattle.cilk_ast.specs.declared.tree.Item.TheVariants as item
use Rattle.cilk_model.specs.FirstFault.{broken, broken_if}
use Rattle.cilk_model.specs.Scopes.{Entity, global, function, Names, Scopes, is_twice, declared}
use Rattle.cilk_model.specs.Sorts.{same_kind}
use Rattle.cilk_model.specs.Locals.{locals_of, after_params}
use Rattle.cilk_model.specs.StatementBreaks.{faults_in_body}

-- ---- limits

-- The most functions that a file may write.
abbrev pub max_functions : ℕ
max_functions = 1000

-- The most parameters of a function.
abbrev pub max_params : ℕ
max_params = 8

-- The most locals of a function, those of its bodies of `cilk_for` included.
abbrev pub max_locals : ℕ
max_locals = 250

-- The place of the first that is over a limit, if there is one.
abbrev pub too_many : ℕ → List Pos → List TextFault
too_many limit places = beyond (slice_get places limit)
  where
    beyond : Option Pos → List TextFault
    beyond None = []
    beyond (Some at) = broken fault.TooMany at

-- ---- what a file knows

-- A global or a function by its name.
abbrev pub Entry : Type 0
Entry = List ℕ × Entity

-- The globals and functions of items, behind so many functions, plain globals and replicated globals. Plain
-- globals are the words of view 32 in order of declaration, replicated ones those of view 31.
abbrev pub entries_from : ℕ → ℕ → ℕ → List Item → List Entry
entries_from functions plain replicated [] = []
entries_from functions plain replicated (item.Global at name kind true ∷ items) =
    (name, global (record { kind = kind; replicated = true; address = address_at 31 replicated }))
    ∷ entries_from functions plain (suc replicated) items
entries_from functions plain replicated (item.Global at name kind false ∷ items) =
    (name, global (record { kind = kind; replicated = false; address = address_at 32 plain }))
    ∷ entries_from functions (suc plain) replicated items
entries_from functions plain replicated (item.Function at result name_at name params body ∷ items) =
    (name, function (record { result = result; params = map (λ p. p.kind) params; index = functions }))
    ∷ entries_from (suc functions) plain replicated items

-- An entry is a function, and no global.
abbrev pub is_function : Entry → Bool
is_function (name, global g) = false
is_function _ = true

-- What names stand for in the item behind so many others: the first in text order of what stands before it and
-- of the functions of the whole file.
abbrev pub known_at : List Entry → ℕ → Names
known_at entries k name = lookup (bytes_eq name) (take k entries ++ filter is_function (drop k entries))

-- ---- functions

-- A name is main's.
abbrev pub is_main : List ℕ → Bool
is_main name = bytes_eq name (codes "main")

-- There is a parameter.
abbrev pub has_params : List Param → Bool
has_params [] = false
has_params (param ∷ params) = true

-- The rules that are broken in the head of a function: main has a word as its result and no parameters, and no
-- other function is `int`.
abbrev pub head_faults : Pos → Kind → Pos → List ℕ → List Param → List TextFault
head_faults at result name_at name params =
    if is_main name
    then broken_if (same_kind sort.Void result || same_kind sort.Ptr result) fault.WrongType at ++ broken_if (has_params params) fault.WrongCount name_at
    else broken_if (same_kind sort.Int result) fault.WrongType at

-- Parameters have different names.
abbrev pub param_faults : List Param → Scopes → List TextFault
param_faults [] scopes = []
param_faults (param ∷ params) scopes =
    broken_if (is_twice param.name scopes.around) fault.Twice param.pos ++ param_faults params (declared param.name param.kind scopes)

-- At the head of a function, in a file that knows these names.
abbrev pub at_head : Names → Scopes
at_head file = record { file = file; around = [] ∷ []; count = 0; level = 0 }

-- The rules that are broken in an item, in a file that knows these names.
abbrev pub item_faults : Names → Item → List TextFault
item_faults file (item.Global at name kind replicated) = []
item_faults file (item.Function at result name_at name params body) =
    head_faults at result name_at name params ++ param_faults params (at_head file) ++ too_many max_params (map (λ p. p.pos) params)
    ++ faults_in_body result body (after_params params (at_head file)) ++ too_many max_locals (locals_of body)

-- ---- files

-- The name of an item, and its place.
abbrev pub item_name : Item → List ℕ
item_name (item.Global at name kind replicated) = name
item_name (item.Function at result name_at name params body) = name

abbrev pub item_place : Item → Pos
item_place (item.Global at name kind replicated) = at
item_place (item.Function at result name_at name params body) = name_at

-- The rules that are broken in items behind so many others.
abbrev pub faults_from : List Entry → ℕ → List Item → List TextFault
faults_from entries k [] = []
faults_from entries k (first ∷ items) =
    broken_if (is_some (lookup (bytes_eq (item_name first)) (take k entries))) fault.Twice (item_place first)
    ++ item_faults (known_at entries k) first ++ faults_from entries (suc k) items

-- The functions of items, by their places and names.
abbrev pub functions_of : List Item → List (Pos × List ℕ)
functions_of [] = []
functions_of (item.Global at name kind replicated ∷ items) = functions_of items
functions_of (item.Function at result name_at name params body ∷ items) = (name_at, name) ∷ functions_of items

-- One of the functions is main.
abbrev pub has_main : List (Pos × List ℕ) → Bool
has_main [] = false
has_main (f ∷ functions) = is_main f.1 || has_main functions

-- Every rule that is broken in a tree.
abbrev pub faults_of_tree : Tree → List TextFault
faults_of_tree tree =
    faults_from (entries_from 0 0 0 tree.items) 0 tree.items ++ too_many max_functions (map (λ f. f.0) (functions_of tree.items))
    ++ broken_if (not (has_main (functions_of tree.items))) fault.NoMain tree.end
