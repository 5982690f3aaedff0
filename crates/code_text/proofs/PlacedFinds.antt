-- Instructions behind their places are read from their lines.
use Rattle.std.proofs.Common.{◌≡◌, ◌<◌, ◌^◌, ℕ, true, false, List, ◌∷◌, ◌++◌, codes, Some, refl, ap, ◌∙◌, append_assoc, arith}
use Rattle.std.specs.Prelude.{Bool}
use Rattle.std.specs.Option.{option_map}
use Rattle.std.specs.Fmt.{decimal, signed_decimal}
use Rattle.word_ops.specs.Ending.{place_text}
use Rattle.word_ops.specs.declared.place.Pos.{Pos}
use Rattle.word_ops.specs.declared.operators.UnaryOp.{UnaryOp}
use Rattle.word_ops.specs.declared.operators.UnaryOp.TheVariants.{Neg, Not, Flip}
use Rattle.word_ops.specs.declared.operators.BinaryOp.{BinaryOp}
use Rattle.word_ops.specs.declared.operators.BinaryOp.TheVariants as two
use Rattle.mem_atomics.specs.declared.op.Op.{Op}
use Rattle.mem_atomics.specs.declared.op.Op.TheVariants as op
use Rattle.threadlet_code.specs.declared.instr.AllocCode.{AllocCode}
use Rattle.threadlet_code.specs.declared.instr.AllocCode.TheVariants.{Striped, Blocked, Local, Replicated}
use Rattle.threadlet_code.specs.declared.instr.Instr.{Instr}
use Rattle.threadlet_code.specs.declared.instr.Instr.TheVariants as instr
use Rattle.code_text.specs.Names.{unary_name, binary_name, op_name, alloc_name}
use Rattle.code_text.specs.Lines.{target_text, hint_text, instr_text, placed_text}
use Rattle.code_text.specs.Words.{cut, index_in}
use Rattle.code_text.specs.Reading.{placed_like, placed_in}
use Rattle.code_text.specs.Codes.{IsInstr, IsPos}
use Rattle.code_text.proofs.Cuts.{Lacks, lacks_both, cut_finds}
use Rattle.code_text.proofs.Numerals.{lacks_decimal, index_finds, lacks_word}
use Rattle.code_text.proofs.Instructions.{instr_finds, lacks_target, function_small}
use Rattle.code_text.proofs.LineFinds.{kept_finds, lacks_known}
use Rattle.code_text.proofs.HeaderFinds.{on_some}

-- an instruction's line, joined from the end
placed_spread : (p : Pos) (i : Instr) → placed_text p i ≡ decimal p.line ++ (58 ∷ (decimal p.column ++ (32 ∷ instr_text i)))
placed_spread p i = append_assoc (decimal p.line) (58 ∷ decimal p.column) (32 ∷ instr_text i)

placed_like_finds : (p : Pos) (i : Instr) → IsPos p → IsInstr i → placed_like (decimal p.line ++ (58 ∷ (decimal p.column ++ (32 ∷ instr_text i)))) ≡ Some (p, i)
placed_like_finds p i is_pos is =
    let t = decimal p.column ++ (32 ∷ instr_text i) in
    on_some _ (cut 58 (decimal p.line ++ (58 ∷ t))) (decimal p.line, t) (cut_finds 58 (decimal p.line) t (lacks_decimal 58 p.line refl (omega (arith, is_pos.0))))
    ∙ on_some _ (cut 32 t) (decimal p.column, instr_text i) (cut_finds 32 (decimal p.column) (instr_text i) (lacks_decimal 32 p.column refl (omega (arith, is_pos.1))))
    ∙ on_some _ (index_in (decimal p.line)) p.line (index_finds p.line is_pos.0) ∙ on_some _ (index_in (decimal p.column)) p.column (index_finds p.column is_pos.1)
    ∙ ap (option_map (λ i. (record { line = p.line; column = p.column }, i))) (instr_finds i is)

-- an instruction is found
pub placed_finds : (p : Pos) (i : Instr) → IsPos p → IsInstr i → placed_in (placed_text p i) ≡ Some (p, i)
placed_finds p i is_pos is =
    kept_finds (λ (x : Pos × Instr). placed_text x.0 x.1) (p, i) (placed_like (placed_text p i)) (ap placed_like (placed_spread p i) ∙ placed_like_finds p i is_pos is)

unary_lacks : (o : UnaryOp) → Lacks 10 (unary_name o)
unary_lacks Neg = lacks_known 10 (codes "neg") refl
unary_lacks Not = lacks_known 10 (codes "not") refl
unary_lacks Flip = lacks_known 10 (codes "flip") refl

binary_lacks : (o : BinaryOp) → Lacks 10 (binary_name o)
binary_lacks two.Add = lacks_known 10 (codes "add") refl
binary_lacks two.Sub = lacks_known 10 (codes "sub") refl
binary_lacks two.Mul = lacks_known 10 (codes "mul") refl
binary_lacks two.Div = lacks_known 10 (codes "div") refl
binary_lacks two.Rem = lacks_known 10 (codes "rem") refl
binary_lacks two.Shl = lacks_known 10 (codes "shl") refl
binary_lacks two.Shr = lacks_known 10 (codes "shr") refl
binary_lacks two.Lt = lacks_known 10 (codes "lt") refl
binary_lacks two.Le = lacks_known 10 (codes "le") refl
binary_lacks two.Gt = lacks_known 10 (codes "gt") refl
binary_lacks two.Ge = lacks_known 10 (codes "ge") refl
binary_lacks two.Eq = lacks_known 10 (codes "eq") refl
binary_lacks two.Ne = lacks_known 10 (codes "ne") refl
binary_lacks two.And = lacks_known 10 (codes "and") refl
binary_lacks two.Xor = lacks_known 10 (codes "xor") refl
binary_lacks two.Or = lacks_known 10 (codes "or") refl

op_lacks : (o : Op) → Lacks 10 (op_name o)
op_lacks op.Store = lacks_known 10 (codes "store") refl
op_lacks op.Add = lacks_known 10 (codes "add") refl
op_lacks op.And = lacks_known 10 (codes "and") refl
op_lacks op.Or = lacks_known 10 (codes "or") refl
op_lacks op.Xor = lacks_known 10 (codes "xor") refl
op_lacks op.Min = lacks_known 10 (codes "min") refl
op_lacks op.Max = lacks_known 10 (codes "max") refl

alloc_lacks : (code : AllocCode) → Lacks 10 (alloc_name code)
alloc_lacks Striped = lacks_known 10 (codes "striped") refl
alloc_lacks Blocked = lacks_known 10 (codes "blocked") refl
alloc_lacks Local = lacks_known 10 (codes "local") refl
alloc_lacks Replicated = lacks_known 10 (codes "replicated") refl

hint_lacks : (hinted : Bool) → Lacks 10 (hint_text hinted)
hint_lacks true = lacks_known 10 (codes "hinted") refl
hint_lacks false = lacks_known 10 (codes "plain") refl

-- a word and a number have no newline
numbered_lacks : (word : List ℕ) (n : ℕ) → Lacks 10 word → n < 2 ^ 32 → Lacks 10 (word ++ decimal n)
numbered_lacks word n lacks small = lacks_both 10 word (decimal n) lacks (lacks_decimal 10 n refl (omega (arith, small)))

-- nor has an instruction
instr_lacks : (i : Instr) → IsInstr i → Lacks 10 (instr_text i)
instr_lacks (instr.Push w) is = lacks_both 10 (codes "push ") (signed_decimal w) (lacks_known 10 (codes "push ") refl) (lacks_word w is)
instr_lacks (instr.Get n) is = numbered_lacks (codes "get ") n (lacks_known 10 (codes "get ") refl) is
instr_lacks (instr.Set n) is = numbered_lacks (codes "set ") n (lacks_known 10 (codes "set ") refl) is
instr_lacks instr.Pop is = lacks_known 10 (codes "pop") refl
instr_lacks instr.Dup is = lacks_known 10 (codes "dup") refl
instr_lacks (instr.Un o) is = lacks_both 10 (codes "un ") (unary_name o) (lacks_known 10 (codes "un ") refl) (unary_lacks o)
instr_lacks (instr.Bin o) is = lacks_both 10 (codes "bin ") (binary_name o) (lacks_known 10 (codes "bin ") refl) (binary_lacks o)
instr_lacks (instr.Jump n) is = numbered_lacks (codes "jump ") n (lacks_known 10 (codes "jump ") refl) is
instr_lacks (instr.JumpZero n) is = numbered_lacks (codes "jumpzero ") n (lacks_known 10 (codes "jumpzero ") refl) is
instr_lacks (instr.Call n) is = numbered_lacks (codes "call ") n (lacks_known 10 (codes "call ") refl) is
instr_lacks instr.Return is = lacks_known 10 (codes "return") refl
instr_lacks instr.Turn is = lacks_known 10 (codes "turn") refl
instr_lacks instr.Load is = lacks_known 10 (codes "load") refl
instr_lacks (instr.Post o) is = lacks_both 10 (codes "post ") (op_name o) (lacks_known 10 (codes "post ") refl) (op_lacks o)
instr_lacks instr.FetchAdd is = lacks_known 10 (codes "fetchadd") refl
instr_lacks instr.FetchSwap is = lacks_known 10 (codes "fetchswap") refl
instr_lacks instr.FetchCas is = lacks_known 10 (codes "fetchcas") refl
instr_lacks instr.Init is = lacks_known 10 (codes "init") refl
instr_lacks instr.Fence is = lacks_known 10 (codes "fence") refl
instr_lacks instr.Move is = lacks_known 10 (codes "move") refl
instr_lacks instr.Where is = lacks_known 10 (codes "where") refl
instr_lacks (instr.Print n) is = numbered_lacks (codes "print ") n (lacks_known 10 (codes "print ") refl) is
instr_lacks (instr.Alloc code) is = lacks_both 10 (codes "alloc ") (alloc_name code) (lacks_known 10 (codes "alloc ") refl) (alloc_lacks code)
instr_lacks (instr.Spawn f target hinted) is =
    lacks_both 10 (codes "spawn ") (decimal f ++ (32 ∷ (target_text target ++ (32 ∷ hint_text hinted)))) (lacks_known 10 (codes "spawn ") refl)
    (lacks_both 10 (decimal f) (32 ∷ (target_text target ++ (32 ∷ hint_text hinted))) (lacks_decimal 10 f refl (omega (arith, function_small f target hinted is)))
    (refl, lacks_both 10 (target_text target) (32 ∷ hint_text hinted) (lacks_target target f hinted is).1 (refl, hint_lacks hinted)))
instr_lacks instr.Sync is = lacks_known 10 (codes "sync") refl

-- nor has an instruction behind its place
pub lacks_placed : (p : Pos) (i : Instr) → IsPos p → IsInstr i → Lacks 10 (placed_text p i)
lacks_placed p i is_pos is =
    lacks_both 10 (place_text p) (32 ∷ instr_text i)
    (lacks_both 10 (decimal p.line) (58 ∷ decimal p.column) (lacks_decimal 10 p.line refl (omega (arith, is_pos.0))) (refl, lacks_decimal 10 p.column refl (omega (arith, is_pos.1))))
    (refl, instr_lacks i is)
