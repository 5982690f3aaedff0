-- The earliest of the traps that nodelets keep.
use Rattle.std.proofs.Common.{◌≡◌, ℕ, zero, suc, ◌<◌, ◌≤◌, ◌⊎◌, inl, inr, List, [], ◌∷◌, ◌++◌, Option, Some, None, refl, sym, ap, ◌∙◌, arith, Bool, true, false, filter_map}
use Rattle.std.specs.Prelude.{cond, ◌==◌}
use Rattle.std.specs.Option.{option_map_or}
use Rattle.std.proofs.lemmas.Bool.{eqb-true}
use Rattle.std.proofs.lemmas.Bool.Decides.{nat_tests, eqb_tells}
use Rattle.std.proofs.lemmas.List.{append-nil}
use Rattle.std.proofs.lemmas.List.Sums.{fold-append}
use Rattle.word_ops.specs.Report.{below}
use Rattle.merge_law.proofs.Somes.{some_is}
use Rattle.core_model.specs.declared.trapped.Trapped.{Trapped}
use Rattle.core_model.specs.CoreEnd.{is_earlier, earliest}
use Rattle.core_model.proofs.Invariant.Links.{with_first}
use Rattle.core_model.proofs.Ends.FirstBelow.{last-below}

abbrev the_earlier : Trapped → Option Trapped → Trapped
the_earlier t o = option_map_or (λ b. cond (is_earlier t b) t b) o t

earliest-push : (ts : List Trapped) (t : Trapped) → earliest (ts ++ t ∷ []) ≡ Some (the_earlier t (earliest ts))
earliest-push [] t = refl
earliest-push (x ∷ ts) t = ap (λ (y : Trapped). Some y) (fold-append (λ (b y : Trapped). cond (is_earlier y b) y b) x ts (t ∷ []))

-- a trap of nodelet j is later than this one of nodelet k
abbrev pub IsLater : ℕ → Trapped → ℕ → Trapped → Type 0
IsLater k t j s = (t.stamp < s.stamp) ⊎ ((t.stamp ≡ s.stamp) × (k ≤ j))

module _ (kept : ℕ → Option Trapped) where
  abbrev found_by : ℕ → Option Trapped
  found_by n = earliest (filter_map kept (below n))

  one_more : (n : ℕ) → found_by (suc n) ≡ earliest (filter_map kept (below n) ++ with_first (kept n) [])
  one_more n = ap earliest (last-below kept n)

  none_more : (n : ℕ) → kept n ≡ None → found_by (suc n) ≡ found_by n
  none_more n e = one_more n ∙ ap (λ o. earliest (filter_map kept (below n) ++ with_first o [])) e ∙ ap earliest (append-nil (filter_map kept (below n)))

  some_more : (n : ℕ) (t : Trapped) → kept n ≡ Some t → found_by (suc n) ≡ Some (the_earlier t (found_by n))
  some_more n t e = one_more n ∙ ap (λ o. earliest (filter_map kept (below n) ++ with_first o [])) e ∙ earliest-push (filter_map kept (below n)) t

  -- the one that is found is kept somewhere
  from : (n : ℕ) (b : Trapped) → found_by n ≡ Some b → (j : ℕ) × (j < n) × (kept j ≡ Some b)
  from zero b e = absurd cc
  from (suc n) b e = go (kept n) refl (λ f. from n b f)
    where
      up : (j : ℕ) × (j < n) × (kept j ≡ Some b) → (j : ℕ) × (j < suc n) × (kept j ≡ Some b)
      up r = (r.0, (let z = r.1 in omega arith), r.2)

      go : (o : Option Trapped) → kept n ≡ o → (found_by n ≡ Some b → (j : ℕ) × (j < n) × (kept j ≡ Some b)) → (j : ℕ) × (j < suc n) × (kept j ≡ Some b)
      go None f ih = up (ih (sym (none_more n f) ∙ e))
      go (Some t) f ih = at (found_by n) refl (sym (some_more n t f) ∙ e)
        where
          here : t ≡ b → (j : ℕ) × (j < suc n) × (kept j ≡ Some b)
          here is = (n, omega arith, f ∙ ap (λ (y : Trapped). Some y) is)

          at : (o : Option Trapped) → found_by n ≡ o → Some (the_earlier t o) ≡ Some b → (j : ℕ) × (j < suc n) × (kept j ≡ Some b)
          at None g h = here (some_is _ _ h)
          at (Some x) g h = which (is_earlier t x) h
            where
              which : (c : Bool) → Some (cond c t x) ≡ Some b → (j : ℕ) × (j < suc n) × (kept j ≡ Some b)
              which true i = here (some_is _ _ i)
              which false i = up (ih (g ∙ i))

  module _ (k : ℕ) (t : Trapped) (is : kept k ≡ Some t) (later : (j : ℕ) (s : Trapped) → kept j ≡ Some s → (j ≡ k) ⊎ IsLater k t j s) where
    before : (j : ℕ) (s : Trapped) → j < k → (j ≡ k) ⊎ IsLater k t j s → is_earlier t s ≡ true
    before j s less (inl e) = absurd (omega arith)
    before j s less (inr (inl e)) = grind (arith, nat_tests)
    before j s less (inr (inr e)) = absurd (let z = e.1 in omega arith)

    behind : (j : ℕ) (s : Trapped) → k < j → (j ≡ k) ⊎ IsLater k t j s → is_earlier s t ≡ false
    behind j s less (inl e) = absurd (omega arith)
    behind j s less (inr (inl e)) = grind (arith, nat_tests)
    behind j s less (inr (inr e)) = let z = e.0 in grind (arith, nat_tests)

    -- this one is found where its nodelet is among the first n
    pub least : (n : ℕ) → k < n → found_by n ≡ Some t
    least zero less = absurd (omega arith)
    least (suc n) less = go (k == n) refl (λ h. least n h)
      where
        go : (b : Bool) → (k == n) ≡ b → (k < n → found_by n ≡ Some t) → found_by (suc n) ≡ Some t
        go true e ih = some_more n t (ap kept (sym same) ∙ is) ∙ at (found_by n) refl
          where
            same : k ≡ n
            same = eqb-true _ _ e

            at : (o : Option Trapped) → found_by n ≡ o → Some (the_earlier t o) ≡ Some t
            at None f = refl
            at (Some b) f = let r = from n b f in
                ap (λ c. Some (cond c t b)) (before r.0 b (let z = r.1 in let y = same in omega arith) (later r.0 b r.2))
        go false e ih = at (kept n) refl
          where
            under : k < n
            under = grind (arith, eqb_tells)

            at : (o : Option Trapped) → kept n ≡ o → found_by (suc n) ≡ Some t
            at None f = none_more n f ∙ ih under
            at (Some s) f = some_more n s f ∙ ap (λ o. Some (the_earlier s o)) (ih under) ∙ ap (λ c. Some (cond c s t)) (behind n s under (later n s f))
