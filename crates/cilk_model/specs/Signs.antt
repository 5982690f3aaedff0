-- The tokens that the grammar writes out: reserved words and marks by their spelling; operators and built-ins.
use Rattle.std.specs.Prelude.{ℕ, Bool, true, false, codes}
use Prim.Native.String.{String}
use Rattle.word_ops.specs.declared.place.Pos.{Pos}
use Rattle.word_ops.specs.declared.operators.BinaryOp.{BinaryOp}
use Rattle.word_ops.specs.declared.operators.BinaryOp.TheVariants as op
use Rattle.word_ops.specs.declared.operators.UnaryOp.TheVariants as single
use Rattle.cilk_ast.specs.declared.builtin.Builtin.{Builtin}
use Rattle.cilk_ast.specs.declared.builtin.Builtin.TheVariants as built
use Rattle.cilk_ast.specs.declared.tree.TExpr.{TExpr, Un, Deref, Bin, Both, Either}
use Rattle.cilk_model.specs.Lexemes as lexeme
use Rattle.cilk_model.specs.Lexemes.{Lexeme}

-- A reserved word, and a mark, at a place.
abbrev pub word : String → Pos → Lexeme
word spelling at = lexeme.word at (codes spelling)

abbrev pub mark : String → Pos → Lexeme
mark spelling at = lexeme.mark at (codes spelling)

-- ---- Operators before an operand

pub data Prefix : Type 0 where
  minus : Prefix
  opposite : Prefix
  complement : Prefix
  contents : Prefix

abbrev pub prefix_spelling : Prefix → String
prefix_spelling minus = "-"
prefix_spelling opposite = "!"
prefix_spelling complement = "~"
prefix_spelling contents = "*"

-- The operator at a place, on its operand.
abbrev pub prefixed : Prefix → Pos → TExpr → TExpr
prefixed minus at x = Un at single.Neg x
prefixed opposite at x = Un at single.Not x
prefixed complement at x = Un at single.Flip x
prefixed contents at x = Deref at x

-- ---- Operators between two operands

pub data Infix : Type 0 where
  either : Infix
  both : Infix
  binary : BinaryOp → Infix

-- How loosely an operator binds: `*` binds tightest, `||` most loosely.
abbrev pub looseness : Infix → ℕ
looseness either = 9
looseness both = 8
looseness (binary op.Or) = 7
looseness (binary op.Xor) = 6
looseness (binary op.And) = 5
looseness (binary op.Eq) = 4
looseness (binary op.Ne) = 4
looseness (binary op.Lt) = 3
looseness (binary op.Le) = 3
looseness (binary op.Gt) = 3
looseness (binary op.Ge) = 3
looseness (binary op.Shl) = 2
looseness (binary op.Shr) = 2
looseness (binary op.Add) = 1
looseness (binary op.Sub) = 1
looseness (binary op.Mul) = 0
looseness (binary op.Div) = 0
looseness (binary op.Rem) = 0

abbrev pub infix_spelling : Infix → String
infix_spelling either = "||"
infix_spelling both = "&&"
infix_spelling (binary op.Or) = "|"
infix_spelling (binary op.Xor) = "^"
infix_spelling (binary op.And) = "&"
infix_spelling (binary op.Eq) = "=="
infix_spelling (binary op.Ne) = "!="
infix_spelling (binary op.Lt) = "<"
infix_spelling (binary op.Le) = "<="
infix_spelling (binary op.Gt) = ">"
infix_spelling (binary op.Ge) = ">="
infix_spelling (binary op.Shl) = "<<"
infix_spelling (binary op.Shr) = ">>"
infix_spelling (binary op.Add) = "+"
infix_spelling (binary op.Sub) = "-"
infix_spelling (binary op.Mul) = "*"
infix_spelling (binary op.Div) = "/"
infix_spelling (binary op.Rem) = "%"

-- The operator at a place, between its operands.
abbrev pub joined : Infix → Pos → TExpr → TExpr → TExpr
joined either at x y = Either at x y
joined both at x y = Both at x y
joined (binary o) at x y = Bin at o x y

-- ---- Built-ins

abbrev pub builtin_spelling : Builtin → String
builtin_spelling built.MwMalloc1dlong = "mw_malloc1dlong"
builtin_spelling built.MwMalloc2dlong = "mw_malloc2dlong"
builtin_spelling built.MwLocalmalloc = "mw_localmalloc"
builtin_spelling built.MwMallocrepl = "mw_mallocrepl"
builtin_spelling built.MwReplicatedInit = "mw_replicated_init"
builtin_spelling built.RemoteAdd = "REMOTE_ADD"
builtin_spelling built.RemoteAnd = "REMOTE_AND"
builtin_spelling built.RemoteOr = "REMOTE_OR"
builtin_spelling built.RemoteXor = "REMOTE_XOR"
builtin_spelling built.RemoteMin = "REMOTE_MIN"
builtin_spelling built.RemoteMax = "REMOTE_MAX"
builtin_spelling built.AtomicAddms = "ATOMIC_ADDMS"
builtin_spelling built.AtomicSwap = "ATOMIC_SWAP"
builtin_spelling built.AtomicCas = "ATOMIC_CAS"
builtin_spelling built.Fence = "FENCE"
builtin_spelling built.Migrate = "MIGRATE"
builtin_spelling built.NodeId = "NODE_ID"

-- The built-in that may have the name of a replicated global for its address.
abbrev pub is_replicated_init : Builtin → Bool
is_replicated_init built.MwReplicatedInit = true
is_replicated_init _ = false
