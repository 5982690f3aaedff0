-- How operators, operations and allocations are named.
use Rattle.std.specs.Prelude.{ℕ, Bool, true, false, List, codes}
use Rattle.word_ops.specs.declared.operators.UnaryOp.{UnaryOp}
use Rattle.word_ops.specs.declared.operators.UnaryOp.TheVariants.{Neg, Not, Flip}
use Rattle.word_ops.specs.declared.operators.BinaryOp.{BinaryOp}
use Rattle.word_ops.specs.declared.operators.BinaryOp.TheVariants as two
use Rattle.mem_atomics.specs.declared.op.Op.{Op}
use Rattle.mem_atomics.specs.declared.op.Op.TheVariants as op
use Rattle.threadlet_code.specs.declared.instr.AllocCode.{AllocCode}
use Rattle.threadlet_code.specs.declared.instr.AllocCode.TheVariants.{Striped, Blocked, Local, Replicated}

-- an operator that takes one word
abbrev pub unary_name : UnaryOp → List ℕ
unary_name Neg = codes "neg"
unary_name Not = codes "not"
unary_name Flip = codes "flip"

-- an operator that takes two words
abbrev pub binary_name : BinaryOp → List ℕ
binary_name two.Add = codes "add"
binary_name two.Sub = codes "sub"
binary_name two.Mul = codes "mul"
binary_name two.Div = codes "div"
binary_name two.Rem = codes "rem"
binary_name two.Shl = codes "shl"
binary_name two.Shr = codes "shr"
binary_name two.Lt = codes "lt"
binary_name two.Le = codes "le"
binary_name two.Gt = codes "gt"
binary_name two.Ge = codes "ge"
binary_name two.Eq = codes "eq"
binary_name two.Ne = codes "ne"
binary_name two.And = codes "and"
binary_name two.Xor = codes "xor"
binary_name two.Or = codes "or"

-- an operation
abbrev pub op_name : Op → List ℕ
op_name op.Store = codes "store"
op_name op.Add = codes "add"
op_name op.And = codes "and"
op_name op.Or = codes "or"
op_name op.Xor = codes "xor"
op_name op.Min = codes "min"
op_name op.Max = codes "max"

-- an allocation
abbrev pub alloc_name : AllocCode → List ℕ
alloc_name Striped = codes "striped"
alloc_name Blocked = codes "blocked"
alloc_name Local = codes "local"
alloc_name Replicated = codes "replicated"

-- a truth, as a number
abbrev pub flag_text : Bool → List ℕ
flag_text true = codes "1"
flag_text false = codes "0"
