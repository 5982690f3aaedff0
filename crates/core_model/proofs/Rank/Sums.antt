-- Sums over nodelets, over packets and over contexts in the order of their names.
use Rattle.std.proofs.Common.{◌≡◌, ℕ, zero, suc, ◌+◌, ◌*◌, ◌<◌, ◌≤◌, List, [], ◌∷◌, Some, refl, sym, ap, ◌∙◌, arith, Bool, true, false, ⊎_elim}
use Rattle.std.specs.Prelude.{sum_by, if◌then◌else◌, ◌==◌}
use Rattle.std.proofs.Math.Nat.{suc-mul}
use Rattle.std.proofs.lemmas.Bool.{eqb-true, cases_lt}
use Rattle.std.proofs.lemmas.Bool.Decides.{eqb_tells, nat_tests}
use Rattle.std.proofs.lemmas.List.Sums.{sum_by-append, sum_by-cons}
use Rattle.word_ops.specs.Report.{below}
use Rattle.word_ops.specs.declared.name.Name.{Name}
use Rattle.word_ops.specs.Naming.{same_name}
use Rattle.merge_law.proofs.Pairs.{Each}
use Rattle.world_model.proofs.Names.{same_name_is}
use Rattle.core_model.specs.Contexts.{Context, precedes, with_context, without_context, context_of}
use Rattle.core_model.proofs.Invariant.Sums.{total, total-same, total-zero}
use Rattle.core_model.proofs.Invariant.ContextsByName.{context_of-with, context_of-with_other}
use Rattle.core_model.proofs.Census.ContextOrder.{Comes, Ascending, ascending-with}

-- ---- nodelets

pub sum-below : (f : ℕ → ℕ) (n : ℕ) → sum_by f (below n) ≡ total n f
sum-below f zero = refl
sum-below f (suc n) =
    let ih = sum-below f n in
    let last : sum_by f (n ∷ []) ≡ f n = omega arith in
    let e : sum_by f (below (suc n)) ≡ sum_by f (below n) + sum_by f (n ∷ []) = sum_by-append f (below n) (n ∷ []) in omega arith

pub total-below : (n : ℕ) (f g : ℕ → ℕ) → ((b : ℕ) → b < n → f b ≤ g b) → total n f ≤ total n g
total-below zero f g le = omega arith
total-below (suc n) f g le = let ih = total-below n f g (λ b less. le b (omega arith)) in let here = le n (omega arith) in omega arith

-- no more than so many each
pub total-each : (n m : ℕ) (f : ℕ → ℕ) → ((b : ℕ) → f b ≤ m) → total n f ≤ n * m
total-each zero m f le = omega arith
total-each (suc n) m f le = let ih = total-each n m f le in let here = le n in let more = suc-mul n m in omega arith

-- one of them changes, and no other rises
pub total-one_most : (n : ℕ) (f g : ℕ → ℕ) (j : ℕ) → j < n → ((b : ℕ) → (b == j) ≡ false → g b ≤ f b) → total n g + f j ≤ total n f + g j
total-one_most zero f g j l e = absurd (omega arith)
total-one_most (suc n) f g j l e = ⊎_elim
    (λ lt. let ih = total-one_most n f g j lt e in let h = e n (grind (arith, eqb_tells)) in omega arith)
    (λ le. let is : j ≡ n = omega arith in let t = total-below n g f (λ b m. e b (grind (arith, eqb_tells))) in
    let h : f n ≡ f j = ap f (sym is) in let h' : g n ≡ g j = ap g (sym is) in omega arith)
    (cases_lt j n)

-- nothing but at one
pub total-alone : (n to : ℕ) (f : ℕ → ℕ) → ((b : ℕ) → (b == to) ≡ false → f b ≡ 0) → total n f ≤ f to
total-alone zero to f none = omega arith
total-alone (suc n) to f none = go (total-alone n to f none) (n == to) refl
  where
    go : total n f ≤ f to → (t : Bool) → (n == to) ≡ t → f n + total n f ≤ f to
    go ih false e = let z = none n e in omega arith
    go ih true e =
        let here : f n ≡ f to = ap f (eqb-true _ _ e) in
        let before = total-same n (λ b. 0) f (λ b less. none b (let is : n ≡ to = eqb-true _ _ e in grind (arith, eqb_tells))) in
        let nothing = total-zero n (λ b. 0) (λ b. refl) in omega arith

-- ---- contexts

not_both_ways : (p q : Name) → precedes p q ≡ true → precedes q p ≡ false
not_both_ways p q e = grind (arith, nat_tests, eqb_tells)

module _ (f : Context → ℕ) where
  -- one context more counts once, or takes the place of another
  pub sum-with : (x : Context) (l : List Context) → sum_by f (with_context x l) ≤ f x + sum_by f l
  sum-with x [] = let e = sum_by-cons f x [] in omega arith
  sum-with x (y ∷ l) = go (sum-with x l) (same_name x.name y.name) (precedes x.name y.name)
    where
      go : sum_by f (with_context x l) ≤ f x + sum_by f l → (same first : Bool) →
          sum_by f (if same then x ∷ l else (if first then x ∷ y ∷ l else y ∷ with_context x l)) ≤ f x + sum_by f (y ∷ l)
      go ih true first = let e = sum_by-cons f x l in let d = sum_by-cons f y l in omega arith
      go ih false true = let e = sum_by-cons f x (y ∷ l) in omega arith
      go ih false false = let e = sum_by-cons f y (with_context x l) in let d = sum_by-cons f y l in omega arith

  pub sum-without_most : (q : Name) (l : List Context) → sum_by f (without_context q l) ≤ sum_by f l
  sum-without_most q [] = omega arith
  sum-without_most q (y ∷ l) = go (sum-without_most q l) (same_name q y.name)
    where
      go : sum_by f (without_context q l) ≤ sum_by f l → (same : Bool) → sum_by f (if same then without_context q l else y ∷ without_context q l) ≤ sum_by f (y ∷ l)
      go ih true = let d = sum_by-cons f y l in omega arith
      go ih false = let e = sum_by-cons f y (without_context q l) in let d = sum_by-cons f y l in omega arith

  -- a context that goes no longer counts
  pub sum-without : (q : Name) (l : List Context) (x : Context) → context_of q l ≡ Some x → sum_by f (without_context q l) + f x ≤ sum_by f l
  sum-without q [] x found = absurd cc
  sum-without q (y ∷ l) x found = go (sum-without q l x) (same_name q y.name) found
    where
      go : (context_of q l ≡ Some x → sum_by f (without_context q l) + f x ≤ sum_by f l) → (same : Bool) → (if same then Some y else context_of q l) ≡ Some x →
          sum_by f (if same then without_context q l else y ∷ without_context q l) + f x ≤ sum_by f (y ∷ l)
      go ih true e = let is : y ≡ x = cc in let fx : f y ≡ f x = ap f is in let most = sum-without_most q l in let d = sum_by-cons f y l in omega arith
      go ih false e = let less = ih e in let d = sum_by-cons f y l in let d' = sum_by-cons f y (without_context q l) in omega arith

  -- a context in order takes the place of that of its name
  pub sum-in_place : (x : Context) (l : List Context) (y : Context) → Ascending l → context_of x.name l ≡ Some y → sum_by f (with_context x l) + f y ≡ f x + sum_by f l
  sum-in_place x [] y up found = absurd cc
  sum-in_place x (z ∷ l) y up found = go (sum-in_place x l y up.1) (same_name x.name z.name) refl found
    where
      -- the name of a context that is found comes after one that comes before all
      after_first : (l : List Context) → Each (Comes z) l → context_of x.name l ≡ Some y → precedes z.name x.name ≡ true
      after_first [] above e = absurd cc
      after_first (w ∷ l) above e = by (after_first l above.1) (same_name x.name w.name) refl e
        where
          by : (context_of x.name l ≡ Some y → precedes z.name x.name ≡ true) → (same : Bool) → same_name x.name w.name ≡ same → (if same then Some w else context_of x.name l) ≡ Some y → precedes z.name x.name ≡ true
          by ih true s e = ap (precedes z.name) (same_name_is _ _ s) ∙ above.0
          by ih false s e = ih e

      go : (context_of x.name l ≡ Some y → sum_by f (with_context x l) + f y ≡ f x + sum_by f l) → (same : Bool) → same_name x.name z.name ≡ same → (if same then Some z else context_of x.name l) ≡ Some y →
          sum_by f (if same then x ∷ l else (if precedes x.name z.name then x ∷ z ∷ l else z ∷ with_context x l)) + f y ≡ f x + sum_by f (z ∷ l)
      go ih true s e = let is : z ≡ y = cc in let fy : f z ≡ f y = ap f is in let d = sum_by-cons f z l in let d' = sum_by-cons f x l in omega arith
      go ih false s e =
          let later : precedes x.name z.name ≡ false = not_both_ways z.name x.name (after_first l up.0 e) in
          let same = ih e in let d = sum_by-cons f z l in let d' = sum_by-cons f z (with_context x l) in
          rw later (omega arith)

  -- and with another context put in before
  pub sum-both : (x z : Context) (l : List Context) (y : Context) → Ascending l → context_of x.name l ≡ Some y → sum_by f (with_context x (with_context z l)) + f y ≤ f x + f z + sum_by f l
  sum-both x z l y up found = go (same_name x.name z.name) refl
    where
      more : Ascending (with_context z l)
      more = ascending-with z l up

      go : (t : Bool) → same_name x.name z.name ≡ t → sum_by f (with_context x (with_context z l)) + f y ≤ f x + f z + sum_by f l
      go true e =
          let is : x.name ≡ z.name = same_name_is _ _ e in
          let first = sum-in_place z l y up (ap (λ n. context_of n l) (sym is) ∙ found) in
          let second = sum-in_place x (with_context z l) z more (ap (λ n. context_of n (with_context z l)) is ∙ context_of-with z l) in omega arith
      go false e =
          let first = sum-with z l in
          let second = sum-in_place x (with_context z l) y more (context_of-with_other x.name z l e ∙ found) in omega arith
