-- The lines of instructions, one by one.
use Rattle.std.proofs.Common.{◌≡◌, ◌<◌, ◌+◌, ℕ, zero, suc, List, [], ◌∷◌, ◌++◌, length, take, get_or, min, Some, ap, sym, ◌∙◌, append_assoc, arith}
use Rattle.std.specs.Prelude.{slice_get}
use Rattle.std.specs.List.{flat_map}
use Rattle.std.proofs.lemmas.Grind.{common_steps}
use Rattle.std.proofs.lemmas.List.{append-nil}
use Rattle.word_ops.specs.Ending.{line}
use Rattle.word_ops.specs.declared.place.Pos.{Pos}
use Rattle.threadlet_code.specs.declared.instr.Instr.{Instr}
use Rattle.code_text.specs.Lines.{placed_text}
use Rattle.code_text.specs.CodeText.{body_text}

-- a line more
pub body_step : (ps : List Pos) (is : List Instr) (k : ℕ) (p : Pos) (i : Instr) → slice_get ps k ≡ Some p → slice_get is k ≡ Some i →
    body_text (take (k + 1) ps) (take (k + 1) is) ≡ body_text (take k ps) (take k is) ++ line (placed_text p i)
body_step [] is k p i ps_k is_k = absurd (grind (arith, common_steps, ps_k))
body_step (q ∷ ps) [] k p i ps_k is_k = absurd (grind (arith, common_steps, is_k))
body_step (q ∷ ps) (j ∷ is) zero p i ps_k is_k =
    let same : q ≡ p = grind (arith, common_steps, ps_k) in
    let also : j ≡ i = grind (arith, common_steps, is_k) in
    append-nil (line (placed_text q j)) ∙ ap (λ x. line (placed_text x j)) same ∙ ap (λ x. line (placed_text p x)) also
body_step (q ∷ ps) (j ∷ is) (suc k) p i ps_k is_k =
    let next : suc k + 1 ≡ suc (k + 1) = omega arith in
    let rest = body_step ps is k p i (grind (arith, common_steps, ps_k)) (grind (arith, common_steps, is_k)) in
    ap (λ n. body_text (take n (q ∷ ps)) (take n (j ∷ is))) next ∙ ap (λ t. line (placed_text q j) ++ t) rest ∙ sym (append_assoc (line (placed_text q j)) (body_text (take k ps) (take k is)) (line (placed_text p i)))

-- the same, behind what was written before
pub line_more : (ps : List Pos) (is : List Instr) (k : ℕ) (p : Pos) (i : Instr) (new mid old : List ℕ) → slice_get ps k ≡ Some p → slice_get is k ≡ Some i →
    mid ≡ old ++ body_text (take k ps) (take k is) → new ≡ mid ++ line (placed_text p i) → new ≡ old ++ body_text (take (k + 1) ps) (take (k + 1) is)
line_more ps is k p i new mid old ps_k is_k before now =
    now ∙ ap (λ t. t ++ line (placed_text p i)) before ∙ append_assoc old (body_text (take k ps) (take k is)) (line (placed_text p i))
    ∙ ap (λ t. old ++ t) (sym (body_step ps is k p i ps_k is_k))

-- the text of one item more
pub one_more : {A : Type 0} (f : A → List ℕ) (xs items : List A) (i : ℕ) (x : A) (new mid old : List ℕ) → items ≡ xs → x ≡ get_or items i x → i < length items →
    mid ≡ old ++ flat_map f (take i xs) → new ≡ mid ++ f x → new ≡ old ++ flat_map f (take (i + 1) xs)
one_more f xs items i x new mid old same is below before now = grind (arith, common_steps, append_assoc, same, is, before, now)

-- all lines
pub body_all : (ps : List Pos) (is : List Instr) → (n : ℕ) → n ≡ min (length ps) (length is) → body_text (take n ps) (take n is) ≡ body_text ps is
body_all [] is n e = grind (arith, common_steps)
body_all (p ∷ ps) [] n e = grind (arith, common_steps)
body_all (p ∷ ps) (i ∷ is) zero e = absurd (omega (arith, e))
body_all (p ∷ ps) (i ∷ is) (suc n) e = ap (λ t. line (placed_text p i) ++ t) (body_all ps is n (omega (arith, e)))
