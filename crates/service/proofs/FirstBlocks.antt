-- The first number that passes a test.
use Rattle.std.proofs.Common.{◌≡◌, ℕ, zero, suc, ◌<◌, ◌≤◌, ◌^◌, [], ◌∷◌, Bool, true, false, cond, Option, Some, None, ℤ, pos, refl, sym, ap, ◌∙◌, subst, inl, inr, arith}
use Rattle.std.specs.List.{find}
use Rattle.std.specs.Option.{MatchOption, option_or}
use Rattle.std.proofs.lemmas.Bool.{cases_lt}
use Rattle.std.proofs.lemmas.List.Folds.{find-append}
use Rattle.word_ops.specs.Operators.{same_word}
use Rattle.word_ops.specs.Report.{below}
use Rattle.world_model.specs.Allocation.{block_view}

-- where none under n passes, none is found
find_below-none : (test : ℕ → Bool) (n : ℕ) → ((k : ℕ) → k < n → test k ≡ false) → find test (below n) ≡ None
find_below-none test zero none = refl
find_below-none test (suc n) none =
    find-append test (below n) (n ∷ [])
    ∙ ap (λ first. option_or first (find test (n ∷ []))) (find_below-none test n (λ k under. none k (omega arith)))
    ∙ ap (λ passes. cond passes (Some n) None) (none n (omega arith))

-- where i passes and none before it does, it is found
find_below-first :
    (test : ℕ → Bool) (n i : ℕ) → i < n → test i ≡ true → ((k : ℕ) → k < i → test k ≡ false) → find test (below n) ≡ Some i
find_below-first test zero i within passes none = absurd (omega arith)
find_below-first test (suc n) i within passes none =
    elim (cases_lt i n) [
      | inl earlier ↦
          find-append test (below n) (n ∷ [])
          ∙ ap (λ first. option_or first (find test (n ∷ []))) (find_below-first test n i earlier passes none)
      | inr last ↦
          let is_last : i ≡ n = omega arith in
          let here : test n ≡ true = subst (λ k. test k ≡ true) is_last passes in
          find-append test (below n) (n ∷ [])
          ∙ ap (λ first. option_or first (find test (n ∷ []))) (find_below-none test n (λ k under. none k (omega arith)))
          ∙ ap (λ passes'. cond passes' (Some n) None) here ∙ ap Some (sym is_last)
    ]

-- the first of the views whose blocks have so many words, or none
pub first_is_block_view :
    (words : ℤ) (first : Option ℕ) →
    MatchOption first ((k : ℕ) → 0 ≤ k → k < 21 → same_word words (pos (2 ^ k)) ≡ false)
    (λ i. (0 ≤ i) × (i < 21) × (same_word words (pos (2 ^ i)) ≡ true) × ((k : ℕ) → 0 ≤ k → k < i → same_word words (pos (2 ^ k)) ≡ false)) →
    first ≡ block_view words
first_is_block_view words None none = sym (find_below-none (λ view. same_word words (pos (2 ^ view))) 21 (λ k under. none k (omega arith) under))
first_is_block_view words (Some i) is_first =
    sym (find_below-first (λ view. same_word words (pos (2 ^ view))) 21 i is_first.1 is_first.2 (λ k under. is_first.3 k (omega arith) under))

-- which has blocks
pub first_has_blocks : (first : Option ℕ) (none : Type 0) (passes : ℕ → Type 0) (rest : ℕ → Type 0) →
    MatchOption first none (λ i. (0 ≤ i) × (i < 21) × passes i × rest i) → (i : ℕ) → first ≡ Some i → i ≤ 20
first_has_blocks None none passes rest is i e = absurd (cc)
first_has_blocks (Some j) none passes rest is i e = let within : j < 21 = is.1 in let same : j ≡ i = cc in omega arith
