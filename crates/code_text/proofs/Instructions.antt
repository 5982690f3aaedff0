-- Instructions are read from their texts.
use Rattle.std.proofs.Common.{◌≡◌, ◌<◌, ◌^◌, ℕ, true, false, List, [], ◌∷◌, ◌++◌, codes, Option, Some, None, refl, ap, ◌∙◌, arith}
use Rattle.std.specs.Prelude.{Bool}
use Rattle.std.specs.Option.{option_and_then, option_map}
use Rattle.std.specs.Fmt.{decimal}
use Rattle.std.specs.Str.{bytes_eq}
use Rattle.word_ops.specs.declared.operators.UnaryOp.{UnaryOp}
use Rattle.word_ops.specs.declared.operators.UnaryOp.TheVariants.{Neg, Not, Flip}
use Rattle.word_ops.specs.declared.operators.BinaryOp.{BinaryOp}
use Rattle.word_ops.specs.declared.operators.BinaryOp.TheVariants as two
use Rattle.mem_atomics.specs.declared.op.Op.{Op}
use Rattle.mem_atomics.specs.declared.op.Op.TheVariants as op
use Rattle.threadlet_code.specs.declared.instr.AllocCode.{AllocCode}
use Rattle.threadlet_code.specs.declared.instr.AllocCode.TheVariants.{Striped, Blocked, Local, Replicated}
use Rattle.threadlet_code.specs.declared.instr.Instr.{Instr}
use Rattle.threadlet_code.specs.declared.instr.Instr.TheVariants as instr
use Rattle.code_text.specs.Names.{unary_name, binary_name, op_name, alloc_name}
use Rattle.code_text.specs.Lines.{target_text, hint_text, instr_text}
use Rattle.code_text.specs.Words.{cut, index_in, unary_in, binary_in, op_in, alloc_in, numbered_in, target_in, spawn_in, instr_in}
use Rattle.code_text.specs.Codes.{IsInstr}
use Rattle.code_text.proofs.Cuts.{Lacks, cut_finds}
use Rattle.code_text.proofs.Numerals.{lacks_decimal, index_finds, word_finds}

unary_finds : (o : UnaryOp) → unary_in (unary_name o) ≡ Some o
unary_finds Neg = refl
unary_finds Not = refl
unary_finds Flip = refl

binary_finds : (o : BinaryOp) → binary_in (binary_name o) ≡ Some o
binary_finds two.Add = refl
binary_finds two.Sub = refl
binary_finds two.Mul = refl
binary_finds two.Div = refl
binary_finds two.Rem = refl
binary_finds two.Shl = refl
binary_finds two.Shr = refl
binary_finds two.Lt = refl
binary_finds two.Le = refl
binary_finds two.Gt = refl
binary_finds two.Ge = refl
binary_finds two.Eq = refl
binary_finds two.Ne = refl
binary_finds two.And = refl
binary_finds two.Xor = refl
binary_finds two.Or = refl

op_finds : (o : Op) → op_in (op_name o) ≡ Some o
op_finds op.Store = refl
op_finds op.Add = refl
op_finds op.And = refl
op_finds op.Or = refl
op_finds op.Xor = refl
op_finds op.Min = refl
op_finds op.Max = refl

alloc_finds : (code : AllocCode) → alloc_in (alloc_name code) ≡ Some code
alloc_finds Striped = refl
alloc_finds Blocked = refl
alloc_finds Local = refl
alloc_finds Replicated = refl

-- the slot for the result of a child
target_finds : (target : Option ℕ) (f : ℕ) (hinted : Bool) → IsInstr (instr.Spawn f target hinted) → target_in (target_text target) ≡ Some target
target_finds None f hinted is = refl
target_finds (Some slot) f hinted is = number_target (decimal slot) slot (index_finds slot is.1) (lacks_decimal 110 slot refl (omega (arith, is.1)))
  where
    number_target : (text : List ℕ) (slot : ℕ) → index_in text ≡ Some slot → Lacks 110 text → target_in text ≡ Some (Some slot)
    number_target [] slot e lacks = absurd (grind (arith, e))
    number_target (c ∷ cs) slot e lacks = grind (arith, e, lacks.0)

pub lacks_target : (target : Option ℕ) (f : ℕ) (hinted : Bool) → IsInstr (instr.Spawn f target hinted) → Lacks 32 (target_text target) × Lacks 10 (target_text target)
lacks_target None f hinted is = ((refl, (refl, (refl, (refl, tt)))), (refl, (refl, (refl, (refl, tt)))))
lacks_target (Some slot) f hinted is = (lacks_decimal 32 slot refl (omega (arith, is.1)), lacks_decimal 10 slot refl (omega (arith, is.1)))

hint_finds : (hinted : Bool) → bytes_eq (hint_text hinted) (codes "hinted") ≡ hinted
hint_finds true = refl
hint_finds false = refl

pub function_small : (f : ℕ) (target : Option ℕ) (hinted : Bool) → IsInstr (instr.Spawn f target hinted) → f < 2 ^ 32
function_small f None hinted is = is
function_small f (Some slot) hinted is = is.0

-- a spawn is found
spawn_finds : (f : ℕ) (target : Option ℕ) (hinted : Bool) → IsInstr (instr.Spawn f target hinted) →
    spawn_in (decimal f ++ (32 ∷ (target_text target ++ (32 ∷ hint_text hinted)))) ≡ Some (instr.Spawn f target hinted)
spawn_finds f target hinted is =
    let small = function_small f target hinted is in
    let more = target_text target ++ (32 ∷ hint_text hinted) in
    ap (λ o. option_and_then (λ (x : List ℕ × List ℕ). option_and_then (λ (t : List ℕ × List ℕ). option_and_then (λ function. option_map (λ target. instr.Spawn function target (bytes_eq t.1 (codes "hinted"))) (target_in t.0)) (index_in x.0)) (cut 32 x.1)) o)
    (cut_finds 32 (decimal f) more (lacks_decimal 32 f refl (omega (arith, small))))
    ∙ ap (λ o. option_and_then (λ (t : List ℕ × List ℕ). option_and_then (λ function. option_map (λ target. instr.Spawn function target (bytes_eq t.1 (codes "hinted"))) (target_in t.0)) (index_in (decimal f))) o)
    (cut_finds 32 (target_text target) (hint_text hinted) (lacks_target target f hinted is).0)
    ∙ ap (λ o. option_and_then (λ function. option_map (λ target. instr.Spawn function target (bytes_eq (hint_text hinted) (codes "hinted"))) (target_in (target_text target))) o) (index_finds f small)
    ∙ ap (λ o. option_map (λ target. instr.Spawn f target (bytes_eq (hint_text hinted) (codes "hinted"))) o) (target_finds target f hinted is)
    ∙ ap (λ b. Some (instr.Spawn f target b)) (hint_finds hinted)

-- an instruction is found
pub instr_finds : (i : Instr) → IsInstr i → instr_in (instr_text i) ≡ Some i
instr_finds (instr.Push w) is = ap (option_map (λ w. instr.Push w)) (word_finds w is)
instr_finds (instr.Get n) is = ap (option_and_then (numbered_in (codes "get"))) (index_finds n is)
instr_finds (instr.Set n) is = ap (option_and_then (numbered_in (codes "set"))) (index_finds n is)
instr_finds instr.Pop is = refl
instr_finds instr.Dup is = refl
instr_finds (instr.Un o) is = ap (option_map (λ o. instr.Un o)) (unary_finds o)
instr_finds (instr.Bin o) is = ap (option_map (λ o. instr.Bin o)) (binary_finds o)
instr_finds (instr.Jump n) is = ap (option_and_then (numbered_in (codes "jump"))) (index_finds n is)
instr_finds (instr.JumpZero n) is = ap (option_and_then (numbered_in (codes "jumpzero"))) (index_finds n is)
instr_finds (instr.Call n) is = ap (option_and_then (numbered_in (codes "call"))) (index_finds n is)
instr_finds instr.Return is = refl
instr_finds instr.Turn is = refl
instr_finds instr.Load is = refl
instr_finds (instr.Post o) is = ap (option_map (λ o. instr.Post o)) (op_finds o)
instr_finds instr.FetchAdd is = refl
instr_finds instr.FetchSwap is = refl
instr_finds instr.FetchCas is = refl
instr_finds instr.Init is = refl
instr_finds instr.Fence is = refl
instr_finds instr.Move is = refl
instr_finds instr.Where is = refl
instr_finds (instr.Print n) is = ap (option_and_then (numbered_in (codes "print"))) (index_finds n is)
instr_finds (instr.Alloc code) is = ap (option_map (λ code. instr.Alloc code)) (alloc_finds code)
instr_finds (instr.Spawn f target hinted) is = spawn_finds f target hinted is
instr_finds instr.Sync is = refl
