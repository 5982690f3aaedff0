-- The end of a comment, byte by byte.
use Rattle.std.proofs.Common.{◌≡◌, ℕ, zero, suc, ◌+◌, ◌<◌, List, [], ◌∷◌, length, drop, cond, Some, None, Option, option_map, refl, ap, arith, codes}
use native.Mathlib.Numerals.{unary_clauses}
use Rattle.cilk_model.specs.Pieces.{begins, comment_end}

pub comment_end_at : (text : List ℕ) (i : ℕ) → i < length text →
    comment_end (drop i text) ≡ cond (begins (codes "*/") (drop i text)) (Some 2) (option_map suc (comment_end (drop (i + 1) text)))
comment_end_at [] i below = absurd (omega arith)
comment_end_at (b ∷ bs) zero below = refl
comment_end_at (b ∷ bs) (suc i) below = simp unary_clauses (simp unary_clauses at (comment_end_at bs i (omega arith)))

-- one byte more before an end
pub one_more : (i : ℕ) (n : Option ℕ) → option_map (λ k. k + i) (option_map suc n) ≡ option_map (λ k. k + (i + 1)) n
one_more i (Some n) = let e : suc n + i ≡ n + (i + 1) = omega arith in ap Some e
one_more i None = refl
