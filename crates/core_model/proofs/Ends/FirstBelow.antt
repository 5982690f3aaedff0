-- The first of what nodelets keep.
use Rattle.std.proofs.Common.{◌≡◌, ℕ, zero, suc, ◌+◌, ◌<◌, List, [], ◌∷◌, ◌++◌, map, length, Option, Some, None, refl, sym, ap, ◌∙◌, arith, Bool, true, false, not, filter_map, nat_lt, length-append}
use Rattle.std.specs.Prelude.{cond, slice_get, find, position, ◌==◌}
use Rattle.std.specs.List.{position_or_len}
use Rattle.std.specs.Option.{option_or}
use Rattle.std.proofs.lemmas.Bool.{eqb-true}
use Rattle.std.proofs.lemmas.Bool.Decides.{nat_tests, eqb_tells}
use Rattle.std.proofs.lemmas.List.Elements.{filter_map-append}
use Rattle.std.proofs.lemmas.List.Folds.{find_at, find-append}
use Rattle.word_ops.specs.Report.{below}
use Rattle.core_model.proofs.Invariant.Links.{with_first}

-- ---- the first that there is

-- one of the first n has something, and the first of the list is such a thing; or none has
pub data FirstOf {A : Type 0} (f : ℕ → Option A) (n : ℕ) : Type 0 where
  There : (k : ℕ) (x : A) → k < n → f k ≡ Some x → slice_get (filter_map f (below n)) 0 ≡ Some x → FirstOf f n
  Nowhere : ((k : ℕ) → k < n → f k ≡ None) → filter_map f (below n) ≡ [] → FirstOf f n

pub last-below : {A : Type 0} (f : ℕ → Option A) (n : ℕ) → filter_map f (below (suc n)) ≡ filter_map f (below n) ++ with_first (f n) []
last-below {A} f n = filter_map-append f (below n) (n ∷ []) ∙ ap (λ l. filter_map f (below n) ++ l) (go (f n) refl)
  where
    go : (o : Option A) → f n ≡ o → filter_map f (n ∷ []) ≡ with_first (f n) []
    go o e = refl

first-append : {A : Type 0} (xs ys : List A) (x : A) → slice_get xs 0 ≡ Some x → slice_get (xs ++ ys) 0 ≡ Some x
first-append [] ys x e = absurd cc
first-append (y ∷ xs) ys x e = e

pub first_of : {A : Type 0} (f : ℕ → Option A) (n : ℕ) → FirstOf f n
first_of f zero = Nowhere (λ k less. absurd (omega arith)) refl
first_of {A} f (suc n) = by (first_of f n)
  where
    by : FirstOf f n → FirstOf f (suc n)
    by (There k x less e first) = There k x (omega arith) e (ap (λ l. slice_get l 0) (last-below f n) ∙ first-append _ _ x first)
    by (Nowhere none empty) = go (f n) refl
      where
        go : (o : Option A) → f n ≡ o → FirstOf f (suc n)
        go None e = Nowhere (λ k less. at k less (k == n) refl) (last-below f n ∙ ap (λ l. l ++ with_first (f n) []) empty ∙ ap (λ o. with_first o []) e)
          where
            at : (k : ℕ) → k < suc n → (t : Bool) → (k == n) ≡ t → f k ≡ None
            at k less true g = ap f (eqb-true _ _ g) ∙ e
            at k less false g = none k (grind (arith, eqb_tells))
        go (Some x) e = There n x (omega arith) e (ap (λ l. slice_get l 0) (last-below f n ∙ ap (λ l. l ++ with_first (f n) []) empty ∙ ap (λ o. with_first o []) e))

-- ---- the least number that passes a test

pub find-same : (p q : ℕ → Bool) (n : ℕ) → ((k : ℕ) → k < n → p k ≡ q k) → find p (below n) ≡ find q (below n)
find-same p q zero same = refl
find-same p q (suc n) same =
    find-append p (below n) (n ∷ []) ∙ ap (λ o. option_or o (find p (n ∷ []))) (find-same p q n (λ k less. same k (omega arith)))
    ∙ ap (λ t. option_or (find q (below n)) (cond t (Some n) None)) (same n (omega arith)) ∙ sym (find-append q (below n) (n ∷ []))

length-below : (n : ℕ) → length (below n) ≡ n
length-below zero = refl
length-below (suc n) = let h = length-below n in length-append (below n) (n ∷ []) ∙ omega arith

mapped-length : {A B : Type 0} (f : A → B) (xs : List A) → length (map f xs) ≡ length xs
mapped-length f [] = refl
mapped-length f (x ∷ xs) = ap suc (mapped-length f xs)

mapped-position : {A B : Type 0} (f : A → B) (p : B → Bool) (xs : List A) → position_or_len p (map f xs) ≡ position_or_len (λ x. p (f x)) xs
mapped-position f p [] = refl
mapped-position f p (x ∷ xs) = ap (λ i. cond (not (p (f x))) (1 + i) 0) (mapped-position f p xs)

get-append : {A : Type 0} (xs : List A) (x : A) (i : ℕ) → slice_get (xs ++ x ∷ []) i ≡ cond (i == length xs) (Some x) (slice_get xs i)
get-append [] x zero = refl
get-append [] x (suc i) = let far : (suc i == 0) ≡ false = grind (arith, eqb_tells) in ap (λ t. cond t (Some x) None) (sym far)
get-append (y ∷ xs) x zero = let near : (0 == suc (length xs)) ≡ false = grind (arith, eqb_tells) in ap (λ t. cond t (Some x) (Some y)) (sym near)
get-append (y ∷ xs) x (suc i) = get-append xs x i ∙ ap (λ t. cond t (Some x) (slice_get xs i)) same
  where
    same : (i == length xs) ≡ (suc i == suc (length xs))
    same = grind (arith, eqb_tells)

get-below : (n i : ℕ) → slice_get (below n) i ≡ cond (nat_lt i n) (Some i) None
get-below zero i = let far : nat_lt i 0 ≡ false = grind (arith, nat_tests) in ap (λ t. cond t (Some i) None) (sym far)
get-below (suc n) i = get-append (below n) n i ∙ ap (λ m. cond (i == m) (Some n) (slice_get (below n) i)) (length-below n) ∙ go (i == n) refl (get-below n i)
  where
    tests : (a : Bool) → nat_lt i n ≡ a → (b : Bool) → nat_lt i (suc n) ≡ b → (i == n) ≡ false → nat_lt i n ≡ nat_lt i (suc n)
    tests true f true g e = f ∙ sym g
    tests false f false g e = f ∙ sym g
    tests true f false g e = absurd (grind (arith, nat_tests))
    tests false f true g e = absurd (grind (arith, nat_tests, eqb_tells))

    go : (t : Bool) → (i == n) ≡ t → slice_get (below n) i ≡ cond (nat_lt i n) (Some i) None → cond t (Some n) (slice_get (below n) i) ≡ cond (nat_lt i (suc n)) (Some i) None
    go true e ih = let under : nat_lt i (suc n) ≡ true = grind (arith, nat_tests, eqb_tells) in ap Some (sym (eqb-true _ _ e)) ∙ ap (λ t. cond t (Some i) None) (sym under)
    go false e ih = let same : nat_lt i n ≡ nat_lt i (suc n) = tests (nat_lt i n) refl (nat_lt i (suc n)) refl e in ih ∙ ap (λ t. cond t (Some i) None) same

-- the place in a list of what numbers stand for is the number
pub position-find : {A : Type 0} (f : ℕ → A) (p : A → Bool) (n : ℕ) → position p (map f (below n)) ≡ find (λ k. p (f k)) (below n)
position-find f p n =
    ap (λ i. cond (nat_lt i (length (map f (below n)))) (Some i) None) (mapped-position f p (below n))
    ∙ ap (λ m. cond (nat_lt (position_or_len (λ k. p (f k)) (below n)) m) (Some (position_or_len (λ k. p (f k)) (below n))) None) (mapped-length f (below n) ∙ length-below n)
    ∙ sym (get-below n (position_or_len (λ k. p (f k)) (below n)))
    ∙ sym (find_at (λ k. p (f k)) (below n))
