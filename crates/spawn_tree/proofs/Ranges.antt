-- Tests of all numbers under a count.
use Rattle.std.proofs.Common.{◌≡◌, ℕ, ◌<◌, ◌↔◌, Bool, true, false, IsTrue, length, get_or, arith, refl, subst}
use Rattle.std.specs.Bool.{MatchBool}
use Rattle.std.specs.List.{range_with_len, AllWithin, HoldsAt}
use Rattle.std.proofs.lemmas.List.FromFn.{length-range_with_len, get_or-range_with_len}

-- number k of the numbers under n is k
at : (n k : ℕ) → k < n → get_or (range_with_len 0 n) k 0 ≡ k
at n k lt = omega (arith, get_or-range_with_len 0 n k 0 lt)

-- what a walk over the numbers found out: all pass the test, or one does not
pub passes_where_all : (r : Bool) (P No : ℕ → Type 0) (n : ℕ) → ((k : ℕ) → No k → P k → ⊥)
    → MatchBool r (AllWithin P (range_with_len 0 n) 0 (length (range_with_len 0 n))) ((k : ℕ) × (k < length (range_with_len 0 n)) × HoldsAt No (range_with_len 0 n) k)
    → IsTrue r ↔ ((k : ℕ) → k < n → P k)
passes_where_all true P No n not_both all =
    (λ _ k lt. subst P (at n k lt) (all k 0 (omega arith) (omega (arith, length-range_with_len 0 n, lt))), λ _. refl)
passes_where_all false P No n not_both (k, lt, fails) =
    let under : k < n = omega (arith, length-range_with_len 0 n, lt) in
    (λ e. absurd (let z : false ≡ true = e in cc), λ all. absurd (not_both k (subst No (at n k under) (fails 0)) (all k under)))
