-- What passes a test is found.
use Rattle.std.proofs.Common.{◌≡◌, ℕ, zero, suc, ◌+◌, ◌<◌, List, [], ◌∷◌, map, length, refl, sym, ap, ◌∙◌, arith, Bool, true, false, not, nat_lt, IsSome, Some, None}
use Rattle.std.specs.Prelude.{cond, ◌==◌, ◌||◌, find, position}
use Rattle.std.specs.List.{list_any, position_or_len}
use Rattle.std.proofs.Math.Bool.{or-true}
use Rattle.std.proofs.lemmas.Bool.{eqb-true}
use Rattle.std.proofs.lemmas.Bool.Decides.{eqb_tells, nat_tests}
use Rattle.std.proofs.lemmas.List.Folds.{list_any-append}
use Rattle.word_ops.specs.Report.{below}

-- ---- numbers under n

-- the test holds at a number under n
pub any_below : (test : ℕ → Bool) (n k : ℕ) → k < n → test k ≡ true → list_any test (below n) ≡ true
any_below test zero k less holds = absurd (omega arith)
any_below test (suc n) k less holds = list_any-append test (below n) (n ∷ []) ∙ go (λ h. any_below test n k h holds) (k == n) refl
  where
    go : (k < n → list_any test (below n) ≡ true) → (t : Bool) → (k == n) ≡ t → (list_any test (below n) || (test n || false)) ≡ true
    go ih true e = ap (λ t. list_any test (below n) || (t || false)) (sym (ap test (eqb-true k n e)) ∙ holds) ∙ or-true (list_any test (below n))
    go ih false e = ap (λ t. t || (test n || false)) (ih (grind (arith, eqb_tells)))

-- ---- lists

pub any_mapped : {A B : Type 0} (f : A → B) (test : B → Bool) (xs : List A) → list_any test (map f xs) ≡ list_any (λ x. test (f x)) xs
any_mapped f test [] = refl
any_mapped f test (x ∷ xs) = ap (λ t. test (f x) || t) (any_mapped f test xs)

pub found : {A : Type 0} (test : A → Bool) (xs : List A) → list_any test xs ≡ true → IsSome (find test xs)
found test [] any = absurd cc
found {A} test (x ∷ xs) any = go (λ h. found test xs h) (test x) any
  where
    go : (list_any test xs ≡ true → IsSome (find test xs)) → (t : Bool) → (t || list_any test xs) ≡ true → IsSome (cond t (Some x) (find test xs))
    go ih true h = refl
    go ih false h = ih h

first_under : {A : Type 0} (test : A → Bool) (xs : List A) → list_any test xs ≡ true → position_or_len test xs < length xs
first_under test [] any = absurd cc
first_under {A} test (x ∷ xs) any = go (λ h. first_under test xs h) (test x) any
  where
    go : (list_any test xs ≡ true → position_or_len test xs < length xs) → (t : Bool) → (t || list_any test xs) ≡ true → cond (not t) (1 + position_or_len test xs) 0 < suc (length xs)
    go ih true h = omega arith
    go ih false h = let under = ih h in omega arith

pub placed : {A : Type 0} (test : A → Bool) (xs : List A) → list_any test xs ≡ true → IsSome (position test xs)
placed {A} test xs any = go (position_or_len test xs) (length xs) (first_under test xs any)
  where
    go : (i n : ℕ) → i < n → IsSome (cond (nat_lt i n) (Some i) None)
    go i n less = let under : nat_lt i n ≡ true = grind (arith, nat_tests) in rw under refl
