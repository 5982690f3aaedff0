-- Texts over the numbers under n.
use Rattle.std.proofs.Common.{◌≡◌, ℕ, ◌+◌, suc, List, ◌++◌, flat_map, ap, sym, ◌∙◌, arith}
use Rattle.std.proofs.lemmas.List.{flat_map_more}
use Rattle.word_ops.specs.Report.{below}

-- what the next number gives stands behind what the numbers under it give
pub flat_map_below_more : (f : ℕ → List ℕ) (before : List ℕ) (n : ℕ) → before ++ flat_map f (below (n + 1)) ≡ (before ++ flat_map f (below n)) ++ f n
flat_map_below_more f before n =
    let next : n + 1 ≡ suc n = omega arith in
    ap (λ k. before ++ flat_map f (below k)) next ∙ sym (flat_map_more f before (below n) n)

-- a text that has what the numbers under n give has, with what n gives behind it, that of one number more
pub below_grows : (f : ℕ → List ℕ) (before : List ℕ) (n : ℕ) {text more : List ℕ} → text ≡ before ++ flat_map f (below n) → more ≡ f n → text ++ more ≡ before ++ flat_map f (below (n + 1))
below_grows f before n {text} {more} is_text is_more = ap (λ t. t ++ more) is_text ∙ ap (λ m. (before ++ flat_map f (below n)) ++ m) is_more ∙ sym (flat_map_below_more f before n)
