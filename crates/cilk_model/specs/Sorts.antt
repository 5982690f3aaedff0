-- The kinds of expressions. A kind is `long`, `long *` or `void`; an expression in which a rule is broken has none.
use Rattle.std.specs.Prelude.{ℕ, ◌==◌, Bool, true, false, ◌&&◌, ◌||◌, if◌then◌else◌, List, [], ◌∷◌, length, map, Option, Some, None, pos}
use Rattle.word_ops.specs.declared.place.Pos.{Pos}
use Rattle.word_ops.specs.declared.operators.BinaryOp.{BinaryOp}
use Rattle.word_ops.specs.declared.operators.BinaryOp.TheVariants as by
use Rattle.word_ops.specs.declared.operators.UnaryOp.{UnaryOp}
use Rattle.word_ops.specs.declared.operators.UnaryOp.TheVariants as unary
use Rattle.word_ops.specs.Operators.{same_word}
use Rattle.word_ops.specs.Formats.{words_in}
use Rattle.word_ops.specs.declared.format.Part.{Part}
use Rattle.cilk_ast.specs.declared.builtin.Builtin.{Builtin}
use Rattle.cilk_ast.specs.declared.builtin.Builtin.TheVariants as built
use Rattle.cilk_ast.specs.declared.kind.Kind.{Kind}
use Rattle.cilk_ast.specs.declared.kind.Kind.TheVariants as sort
use Rattle.cilk_ast.specs.declared.tree.TSpawn.{TSpawn}
use Rattle.cilk_ast.specs.declared.tree.TExpr.{TExpr, Number, Var, Call', Builtin', Print', Row_of-TExpr as Args, end_of-TExpr as no_args, more_of-TExpr as more_args, Bin', Both', Cast', Deref', Either', Index', InitAt', Paren', Un'}
use Rattle.cilk_ast.specs.TreeExpression.{Paren, Un, Deref, Cast, Index, Bin, Both, Either, InitAt}
use Rattle.cilk_model.specs.Scopes.{Entity, local, global, function, Names}
use Rattle.cilk_model.specs.Formats.{format_of}

-- ---- kinds

-- The result of main counts as a word.
abbrev pub counted : Kind → Kind
counted sort.Int = sort.Long
counted sort.Long = sort.Long
counted sort.Ptr = sort.Ptr
counted sort.Void = sort.Void

-- Two kinds are the same.
abbrev pub same_kind : Kind → Kind → Bool
same_kind sort.Long sort.Long = true
same_kind sort.Ptr sort.Ptr = true
same_kind sort.Void sort.Void = true
same_kind sort.Int sort.Int = true
same_kind _ _ = false

-- A word.
abbrev pub is_word : Kind → Bool
is_word kind = same_kind sort.Long kind

-- A word or an address, as conditions are.
abbrev pub is_value : Kind → Bool
is_value kind = same_kind sort.Long kind || same_kind sort.Ptr kind

-- A literal of value 0, brackets aside.
abbrev pub is_zero : TExpr → Bool
is_zero (Number at value) = same_word value (pos 0)
is_zero (Var _ _) = false
is_zero (Paren at inner) = is_zero inner
is_zero (Un' _ _ _ _) = false
is_zero (Deref' _ _ _) = false
is_zero (Cast' _ _ _ _) = false
is_zero (Index' _ _ _ _ _) = false
is_zero (Bin' _ _ _ _ _ _) = false
is_zero (Both' _ _ _ _ _) = false
is_zero (Either' _ _ _ _ _) = false
is_zero (Call' _ _ _ _) = false
is_zero (Builtin' _ _ _ _) = false
is_zero (Print' _ _ _ _ _) = false
is_zero (InitAt' _ _ _ _ _) = false

-- The first token of an expression.
abbrev pub begins_at : TExpr → Pos
begins_at (Number at value) = at
begins_at (Var at name) = at
begins_at (Paren at inner) = at
begins_at (Un at op inner) = at
begins_at (Deref at inner) = at
begins_at (Cast at kind inner) = at
begins_at (Index at base index) = begins_at base
begins_at (Bin at op left right) = begins_at left
begins_at (Both at left right) = begins_at left
begins_at (Either at left right) = begins_at left
begins_at (Call' at name n args) = at
begins_at (Builtin' at which n args) = at
begins_at (Print' at text_at format n args) = at
begins_at (InitAt at name_at name value) = at

-- What rules see of a part: its first token, whether it is a literal 0, and its kind, if it has one.
pub record Judged : Type 0 where
  pub at : Pos
  pub is_literal_0 : Bool
  pub kind : Option Kind

-- An expression of a kind, as a part.
abbrev pub as_part : TExpr → Option Kind → Judged
as_part e kind = record { at = begins_at e; is_literal_0 = is_zero e; kind = kind }

-- A part of a kind fits where a kind is wanted: a literal 0 also where an address is.
abbrev pub fits : Kind → Bool → Kind → Bool
fits wanted is_literal_0 kind = same_kind wanted kind || (same_kind sort.Ptr wanted && is_literal_0)

-- A part has a kind, and that is as a test wants it.
abbrev pub has : (Kind → Bool) → Judged → Bool
has good part = holds (part.kind)
  where
    holds : Option Kind → Bool
    holds None = false
    holds (Some kind) = good kind

-- A part has a kind, and fits where a kind is wanted.
abbrev pub suits : Kind → Judged → Bool
suits wanted part = has (fits wanted part.is_literal_0) part

-- ---- operators

-- What a sum makes: an address and a word give an address, in either order.
abbrev pub sum_kind : Kind → Kind → Option Kind
sum_kind sort.Long sort.Long = Some sort.Long
sum_kind sort.Ptr sort.Long = Some sort.Ptr
sum_kind sort.Long sort.Ptr = Some sort.Ptr
sum_kind _ _ = None

-- What a difference makes: of two addresses a word.
abbrev pub difference_kind : Kind → Kind → Option Kind
difference_kind sort.Long sort.Long = Some sort.Long
difference_kind sort.Ptr sort.Long = Some sort.Ptr
difference_kind sort.Ptr sort.Ptr = Some sort.Long
difference_kind _ _ = None

-- A word, where a test holds.
abbrev pub word_if : Bool → Option Kind
word_if true = Some sort.Long
word_if false = None

-- Two operands, which may be a literal 0 and have these kinds, can be compared: two words, or two addresses.
abbrev pub are_alike : Bool → Bool → Kind → Kind → Bool
are_alike left right k l = is_value k && is_value l && (fits k right l || fits l left k)

-- The kind that an operator makes of two operands, which may be a literal 0 and have these kinds.
abbrev pub binary_kind : BinaryOp → Bool → Bool → Kind → Kind → Option Kind
binary_kind by.Add left right k l = sum_kind k l
binary_kind by.Sub left right k l = difference_kind k l
binary_kind by.Mul left right k l = word_if (is_word k && is_word l)
binary_kind by.Div left right k l = word_if (is_word k && is_word l)
binary_kind by.Rem left right k l = word_if (is_word k && is_word l)
binary_kind by.Shl left right k l = word_if (is_word k && is_word l)
binary_kind by.Shr left right k l = word_if (is_word k && is_word l)
binary_kind by.Lt left right k l = word_if (are_alike left right k l)
binary_kind by.Le left right k l = word_if (are_alike left right k l)
binary_kind by.Gt left right k l = word_if (are_alike left right k l)
binary_kind by.Ge left right k l = word_if (are_alike left right k l)
binary_kind by.Eq left right k l = word_if (are_alike left right k l)
binary_kind by.Ne left right k l = word_if (are_alike left right k l)
binary_kind by.And left right k l = word_if (is_word k && is_word l)
binary_kind by.Xor left right k l = word_if (is_word k && is_word l)
binary_kind by.Or left right k l = word_if (is_word k && is_word l)

-- An operator takes an operand of this kind.
abbrev pub takes_operand : UnaryOp → Kind → Bool
takes_operand unary.Neg kind = is_word kind
takes_operand unary.Not kind = is_value kind
takes_operand unary.Flip kind = is_word kind

-- ---- names, calls and built-ins

-- The kind of a variable.
abbrev pub variable_kind : Option Entity → Option Kind
variable_kind None = None
variable_kind (Some (local l)) = Some l.kind
variable_kind (Some (global g)) = Some g.kind
variable_kind (Some (function _)) = None

-- A name is that of a replicated global.
abbrev pub is_replicated : Option Entity → Bool
is_replicated None = false
is_replicated (Some (local _)) = false
is_replicated (Some (global g)) = g.replicated
is_replicated (Some (function _)) = false

-- What a built-in takes: an address first, where it takes one, and words.
abbrev pub wanted : Builtin → List Kind
wanted built.MwMalloc1dlong = sort.Long ∷ []
wanted built.MwMalloc2dlong = sort.Long ∷ sort.Long ∷ []
wanted built.MwLocalmalloc = sort.Long ∷ sort.Ptr ∷ []
wanted built.MwMallocrepl = sort.Long ∷ []
wanted built.MwReplicatedInit = sort.Ptr ∷ sort.Long ∷ []
wanted built.RemoteAdd = sort.Ptr ∷ sort.Long ∷ []
wanted built.RemoteAnd = sort.Ptr ∷ sort.Long ∷ []
wanted built.RemoteOr = sort.Ptr ∷ sort.Long ∷ []
wanted built.RemoteXor = sort.Ptr ∷ sort.Long ∷ []
wanted built.RemoteMin = sort.Ptr ∷ sort.Long ∷ []
wanted built.RemoteMax = sort.Ptr ∷ sort.Long ∷ []
wanted built.AtomicAddms = sort.Ptr ∷ sort.Long ∷ []
wanted built.AtomicSwap = sort.Ptr ∷ sort.Long ∷ []
wanted built.AtomicCas = sort.Ptr ∷ sort.Long ∷ sort.Long ∷ []
wanted built.Fence = []
wanted built.Migrate = sort.Ptr ∷ []
wanted built.NodeId = []

-- What a built-in gives.
abbrev pub given : Builtin → Kind
given built.MwMalloc1dlong = sort.Ptr
given built.MwMalloc2dlong = sort.Ptr
given built.MwLocalmalloc = sort.Ptr
given built.MwMallocrepl = sort.Ptr
given built.MwReplicatedInit = sort.Void
given built.RemoteAdd = sort.Void
given built.RemoteAnd = sort.Void
given built.RemoteOr = sort.Void
given built.RemoteXor = sort.Void
given built.RemoteMin = sort.Void
given built.RemoteMax = sort.Void
given built.AtomicAddms = sort.Long
given built.AtomicSwap = sort.Long
given built.AtomicCas = sort.Long
given built.Fence = sort.Void
given built.Migrate = sort.Void
given built.NodeId = sort.Long

-- The arguments are as many as the kinds that are wanted, and each has a kind and fits.
abbrev pub all_fit : List Kind → List Judged → Bool
all_fit [] [] = true
all_fit (kind ∷ kinds) (arg ∷ args) = suits kind arg && all_fit kinds args
all_fit _ _ = false

-- All arguments are words.
abbrev pub all_words : List Judged → Bool
all_words [] = true
all_words (arg ∷ args) = has is_word arg && all_words args

-- A kind, where a test holds.
abbrev pub kind_if : Bool → Kind → Option Kind
kind_if true kind = Some kind
kind_if false kind = None

-- The kind of a call of what a name stands for.
abbrev pub call_kind : Option Entity → List Judged → Option Kind
call_kind None args = None
call_kind (Some (local _)) args = None
call_kind (Some (global _)) args = None
call_kind (Some (function f)) args = kind_if (all_fit f.params args) (counted f.result)

-- A format has as many words as there are arguments.
abbrev pub counts : Option (List Part) → ℕ → Bool
counts None n = false
counts (Some format) n = words_in format == n

-- What two kinds make, where both are there.
abbrev pub of_both : (Kind → Kind → Option Kind) → Option Kind → Option Kind → Option Kind
of_both makes (Some k) (Some l) = makes k l
of_both makes _ _ = None

-- ---- the kind of an expression

module _ (names : Names) where
  abbrev mutual
    pub kind_of : TExpr → Option Kind
    kind_of (Number at value) = Some sort.Long
    kind_of (Var at name) = variable_kind (names name)
    kind_of (Paren at inner) = kind_of inner
    kind_of (Un at op inner) = kind_if (has (takes_operand op) (as_part inner (kind_of inner))) sort.Long
    kind_of (Deref at inner) = kind_if (suits sort.Ptr (as_part inner (kind_of inner))) sort.Long
    kind_of (Cast at kind inner) = kind_if (has is_value (as_part inner (kind_of inner))) kind
    kind_of (Index at base index) = kind_if (suits sort.Ptr (as_part base (kind_of base)) && has is_word (as_part index (kind_of index))) sort.Long
    kind_of (Bin at op left right) = of_both (binary_kind op (is_zero left) (is_zero right)) (kind_of left) (kind_of right)
    kind_of (Both at left right) = kind_if (has is_value (as_part left (kind_of left)) && has is_value (as_part right (kind_of right))) sort.Long
    kind_of (Either at left right) = kind_if (has is_value (as_part left (kind_of left)) && has is_value (as_part right (kind_of right))) sort.Long
    kind_of (Call' at name n args) = call_kind (names name) (judged_row args)
    kind_of (Builtin' at which n args) = kind_if (all_fit (wanted which) (judged_row args)) (given which)
    kind_of (Print' at text_at format n args) = kind_if (counts (format_of format) (length (judged_row args)) && all_words (judged_row args)) sort.Void
    kind_of (InitAt at name_at name value) = kind_if (is_replicated (names name) && has is_word (as_part value (kind_of value))) sort.Void

    pub judged_row : {n : _} → Args n → List Judged
    judged_row no_args = []
    judged_row (more_args arg rest) = as_part arg (kind_of arg) ∷ judged_row rest

  -- An expression as a part.
  abbrev pub judged : TExpr → Judged
  judged e = as_part e (kind_of e)

  -- A hint, if there is one, is an address.
  abbrev pub is_hint : Option TExpr → Bool
  is_hint None = true
  is_hint (Some hint) = suits sort.Ptr (judged hint)

  -- The kind of what a spawn brings: the result of its function.
  abbrev pub spawn_kind : TSpawn → Option Kind
  spawn_kind spawn = if is_hint spawn.hint then call_kind (names spawn.name) (map judged spawn.args) else None
