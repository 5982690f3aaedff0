-- The rules that are broken in an expression, each with its place. A rule of kinds over several parts is broken
-- only where each of them has a kind.
use Rattle.std.specs.Prelude.{◌==◌, Bool, false, ◌&&◌, not, List, [], ◌∷◌, ◌++◌, length, Option, Some, None, is_none, is_some, if◌then◌else◌, map}
use Rattle.word_ops.specs.declared.place.Pos.{Pos}
use Rattle.word_ops.specs.declared.format.Part.{Part}
use Rattle.cilk_ast.specs.declared.fault.FaultKind.TheVariants as fault
use Rattle.cilk_ast.specs.declared.fault.TextFault.{TextFault}
use Rattle.cilk_ast.specs.declared.kind.Kind.{Kind}
use Rattle.cilk_ast.specs.declared.kind.Kind.TheVariants as sort
use Rattle.cilk_ast.specs.declared.tree.TSpawn.{TSpawn}
use Rattle.cilk_ast.specs.declared.tree.TExpr.{TExpr, Number, Var, Call', Builtin', Print', Row_of-TExpr as Args, end_of-TExpr as no_args, more_of-TExpr as more_args}
use Rattle.cilk_ast.specs.TreeExpression.{Paren, Un, Deref, Cast, Index, Bin, Both, Either, InitAt}
use Rattle.cilk_model.specs.FirstFault.{broken, broken_if}
use Rattle.cilk_model.specs.Scopes.{Entity, function, Names, local, global}
use Rattle.cilk_model.specs.Formats.{format_of}
use Rattle.cilk_model.specs.Sorts.{is_word, is_value, is_zero, fits, binary_kind, takes_operand, is_replicated, wanted, Judged, counts, kind_of, judged, judged_row}

-- A part that has a kind other than a test wants it is at fault, at its first token.
abbrev pub misfit : (Kind → Bool) → Judged → List TextFault
misfit good part = at_fault (part.kind)
  where
    at_fault : Option Kind → List TextFault
    at_fault None = []
    at_fault (Some kind) = broken_if (not (good kind)) fault.WrongType part.at

-- A part that has a kind and does not fit is at fault.
abbrev pub unfit : Kind → Judged → List TextFault
unfit wanted part = misfit (fits wanted part.is_literal_0) part

-- Two kinds are there, and make nothing.
abbrev pub make_nothing : (Kind → Kind → Option Kind) → Option Kind → Option Kind → Bool
make_nothing makes (Some k) (Some l) = is_none (makes k l)
make_nothing makes _ _ = false

-- Two kinds are there, and one of them is no value.
abbrev pub lack_value : Option Kind → Option Kind → Bool
lack_value (Some k) (Some l) = not (is_value k && is_value l)
lack_value _ _ = false

-- What is wrong with the base and the index of `e[i]`, where both have a kind.
abbrev pub index_misfits : Judged → Judged → List TextFault
index_misfits base index = if is_some base.kind && is_some index.kind then unfit sort.Ptr base ++ misfit is_word index else []

-- A variable's name is declared, and is no function's.
abbrev pub variable_faults : Pos → Option Entity → List TextFault
variable_faults at None = broken fault.Unknown at
variable_faults at (Some (function f)) = broken fault.WrongType at
variable_faults at (Some (local _)) = []
variable_faults at (Some (global _)) = []

-- Each argument fits what is wanted in its place.
abbrev pub misfits : List Kind → List Judged → List TextFault
misfits (kind ∷ kinds) (arg ∷ args) = unfit kind arg ++ misfits kinds args
misfits _ _ = []

-- The arguments are as many as are wanted.
abbrev pub miscounts : Pos → List Kind → List Judged → List TextFault
miscounts at kinds args = broken_if (not (length kinds == length args)) fault.WrongCount at

-- A called name is a function's, and its arguments are as many as its parameters and fit.
abbrev pub call_faults : Pos → Option Entity → List Judged → List TextFault
call_faults at None args = broken fault.Unknown at
call_faults at (Some (function f)) args = miscounts at f.params args ++ misfits f.params args
call_faults at (Some (local _)) args = broken fault.WrongType at
call_faults at (Some (global _)) args = broken fault.WrongType at

-- Each argument is a word.
abbrev pub word_misfits : List Judged → List TextFault
word_misfits [] = []
word_misfits (arg ∷ args) = misfit is_word arg ++ word_misfits args

-- A `printf` has a format, with as many words as there are arguments.
abbrev pub format_faults : Pos → Pos → Option (List Part) → List Judged → List TextFault
format_faults at text_at None args = broken fault.BadFormat text_at
format_faults at text_at (Some format) args = broken_if (not (counts (Some format) (length args))) fault.WrongCount at

module _ (names : Names) where
  abbrev mutual
    pub faults_of : TExpr → List TextFault
    faults_of (Number at value) = []
    faults_of (Var at name) = variable_faults at (names name)
    faults_of (Paren at inner) = faults_of inner
    faults_of (Un at op inner) = faults_of inner ++ misfit (takes_operand op) (judged names inner)
    faults_of (Deref at inner) = faults_of inner ++ unfit sort.Ptr (judged names inner)
    faults_of (Cast at kind inner) = faults_of inner ++ misfit is_value (judged names inner)
    faults_of (Index at base index) =
        faults_of base ++ faults_of index ++ index_misfits (judged names base) (judged names index)
    faults_of (Bin at op left right) =
        faults_of left ++ faults_of right
        ++ broken_if (make_nothing (binary_kind op (is_zero left) (is_zero right)) (kind_of names left) (kind_of names right)) fault.WrongType at
    faults_of (Both at left right) =
        faults_of left ++ faults_of right ++ broken_if (lack_value (kind_of names left) (kind_of names right)) fault.WrongType at
    faults_of (Either at left right) =
        faults_of left ++ faults_of right ++ broken_if (lack_value (kind_of names left) (kind_of names right)) fault.WrongType at
    faults_of (Call' at name n args) = call_faults at (names name) (judged_row names args) ++ argument_faults args
    faults_of (Builtin' at which n args) =
        miscounts at (wanted which) (judged_row names args) ++ misfits (wanted which) (judged_row names args) ++ argument_faults args
    faults_of (Print' at text_at format n args) =
        format_faults at text_at (format_of format) (judged_row names args) ++ word_misfits (judged_row names args) ++ argument_faults args
    faults_of (InitAt at name_at name value) =
        broken_if (not (is_replicated (names name))) fault.Unknown name_at ++ faults_of value ++ misfit is_word (judged names value)

    -- The rules that are broken in arguments.
    pub argument_faults : {n : _} → Args n → List TextFault
    argument_faults no_args = []
    argument_faults (more_args arg rest) = faults_of arg ++ argument_faults rest

  -- The rules that are broken in the arguments of a list.
  abbrev pub list_faults : List TExpr → List TextFault
  list_faults [] = []
  list_faults (arg ∷ rest) = faults_of arg ++ list_faults rest

  -- The rules that are broken in a part for which a test says which kinds are good.
  abbrev pub part_faults : (Kind → Bool) → TExpr → List TextFault
  part_faults good e = faults_of e ++ misfit good (judged names e)

  -- A hint is an address.
  abbrev pub hint_faults : Option TExpr → List TextFault
  hint_faults None = []
  hint_faults (Some hint) = faults_of hint ++ unfit sort.Ptr (judged names hint)

  -- The rules that are broken in a spawn, whatever its function brings.
  abbrev pub spawn_faults : TSpawn → List TextFault
  spawn_faults spawn =
      hint_faults spawn.hint ++ call_faults spawn.name_pos (names spawn.name) (map (judged names) spawn.args) ++ list_faults spawn.args
