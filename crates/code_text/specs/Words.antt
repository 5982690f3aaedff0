-- What the words of a line may be.
use Rattle.std.specs.Prelude.{ℕ, ◌-◌, ◌^◌, ◌==◌, ℤ, pos, negsuc, List, [], ◌∷◌, codes, Option, Some, None, if◌then◌else◌, option_and_then, option_map}
use Rattle.std.specs.List.{find}
use Rattle.std.specs.Str.{bytes_eq}
use Rattle.word_ops.specs.Numbers.{count_in}
use Rattle.word_ops.specs.declared.operators.UnaryOp.{UnaryOp}
use Rattle.word_ops.specs.declared.operators.UnaryOp.TheVariants.{Neg, Not, Flip}
use Rattle.word_ops.specs.declared.operators.BinaryOp.{BinaryOp}
use Rattle.word_ops.specs.declared.operators.BinaryOp.TheVariants as two
use Rattle.mem_atomics.specs.declared.op.Op.{Op}
use Rattle.mem_atomics.specs.declared.op.Op.TheVariants as op
use Rattle.threadlet_code.specs.declared.instr.AllocCode.{AllocCode}
use Rattle.threadlet_code.specs.declared.instr.AllocCode.TheVariants.{Striped, Blocked, Local, Replicated}
use Rattle.threadlet_code.specs.declared.instr.Instr.{Instr}
use Rattle.threadlet_code.specs.declared.instr.Instr.TheVariants as instr
use Rattle.code_text.specs.Names.{unary_name, binary_name, op_name, alloc_name}
use Rattle.code_text.specs.Lines.{instr_text}

-- what stands before the first of a byte, and what behind it
abbrev pub cut : ℕ → List ℕ → Option (List ℕ × List ℕ)
cut b [] = None
cut b (x ∷ xs) = if x == b then Some ([], xs) else option_map (λ y. (x ∷ y.0, y.1)) (cut b xs)

-- a number of 32 bits
abbrev pub index_in : List ℕ → Option ℕ
index_in text = count_in text 0 (2 ^ 32 - 1)

-- a word of 64 bits, with or without a minus
abbrev pub word_in : List ℕ → Option ℤ
word_in [] = None
word_in (b ∷ bs) = if b == 45 then option_map (λ n. negsuc (n - 1)) (count_in bs 1 (2 ^ 63)) else option_map pos (count_in (b ∷ bs) 0 (2 ^ 63 - 1))

-- an operator that takes one word
abbrev pub unary_in : List ℕ → Option UnaryOp
unary_in name = find (λ op. bytes_eq name (unary_name op)) (Neg ∷ Not ∷ Flip ∷ [])

-- an operator that takes two words
abbrev pub binary_in : List ℕ → Option BinaryOp
binary_in name =
    find (λ op. bytes_eq name (binary_name op))
    (two.Add ∷ two.Sub ∷ two.Mul ∷ two.Div ∷ two.Rem ∷ two.Shl ∷ two.Shr ∷ two.Lt ∷ two.Le ∷ two.Gt ∷ two.Ge ∷ two.Eq ∷ two.Ne ∷ two.And ∷ two.Xor ∷ two.Or ∷ [])

-- an operation
abbrev pub op_in : List ℕ → Option Op
op_in name = find (λ op. bytes_eq name (op_name op)) (op.Store ∷ op.Add ∷ op.And ∷ op.Or ∷ op.Xor ∷ op.Min ∷ op.Max ∷ [])

-- an allocation
abbrev pub alloc_in : List ℕ → Option AllocCode
alloc_in name = find (λ code. bytes_eq name (alloc_name code)) (Striped ∷ Blocked ∷ Local ∷ Replicated ∷ [])

-- an instruction of one word
abbrev pub bare_in : List ℕ → Option Instr
bare_in word =
    find (λ i. bytes_eq word (instr_text i))
    (instr.Pop ∷ instr.Dup ∷ instr.Return ∷ instr.Turn ∷ instr.Load ∷ instr.FetchAdd ∷ instr.FetchSwap ∷ instr.FetchCas ∷ instr.Init ∷ instr.Fence ∷ instr.Move ∷ instr.Where ∷ instr.Sync ∷ [])

-- an instruction of a word and a number of 32 bits
abbrev pub numbered_in : List ℕ → ℕ → Option Instr
numbered_in word n =
    if bytes_eq word (codes "get") then Some (instr.Get n) else (if bytes_eq word (codes "set") then Some (instr.Set n)
    else (if bytes_eq word (codes "jump") then Some (instr.Jump n) else (if bytes_eq word (codes "jumpzero") then Some (instr.JumpZero n)
    else (if bytes_eq word (codes "call") then Some (instr.Call n) else (if bytes_eq word (codes "print") then Some (instr.Print n) else None)))))

-- the slot for the result of a child
abbrev pub target_in : List ℕ → Option (Option ℕ)
target_in text = if bytes_eq text (codes "none") then Some None else option_map (λ slot. Some slot) (index_in text)

-- the operands of a spawn
abbrev pub spawn_in : List ℕ → Option Instr
spawn_in rest =
    option_and_then (λ f. option_and_then (λ t. option_and_then (λ function.
    option_map (λ target. instr.Spawn function target (bytes_eq t.1 (codes "hinted"))) (target_in t.0)) (index_in f.0)) (cut 32 f.1)) (cut 32 rest)

-- an instruction of a word and what stands behind it
abbrev pub operand_in : List ℕ → List ℕ → Option Instr
operand_in word rest =
    if bytes_eq word (codes "push") then option_map (λ w. instr.Push w) (word_in rest) else (if bytes_eq word (codes "un") then option_map (λ op. instr.Un op) (unary_in rest)
    else (if bytes_eq word (codes "bin") then option_map (λ op. instr.Bin op) (binary_in rest) else (if bytes_eq word (codes "post") then option_map (λ op. instr.Post op) (op_in rest)
    else (if bytes_eq word (codes "alloc") then option_map (λ code. instr.Alloc code) (alloc_in rest) else (if bytes_eq word (codes "spawn") then spawn_in rest
    else option_and_then (λ n. numbered_in word n) (index_in rest))))))

-- an instruction of one word, or of a word and what stands behind it
abbrev pub instr_or : List ℕ → Option (List ℕ × List ℕ) → Option Instr
instr_or text None = bare_in text
instr_or text (Some x) = operand_in x.0 x.1

-- an instruction
abbrev pub instr_in : List ℕ → Option Instr
instr_in text = instr_or text (cut 32 text)
