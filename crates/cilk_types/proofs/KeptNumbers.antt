-- Numbers that are in a list.
use Rattle.std.proofs.Common.{◌≡◌, ◌∙◌, ap, sym, ℕ, suc, ◌+◌, ◌<◌, ◌≤◌, Bool, true, false, cond, not, ◌||◌, ◌==◌, List, [], ◌∷◌, ◌++◌, length, filter, ⊎_elim, refl, arith, eq-eqb, eqb-true}
use Rattle.std.specs.List.{list_any, position_or_len}
use Rattle.std.proofs.lemmas.Bool.{or_left, or_right, or_cases}
use Rattle.std.proofs.lemmas.List.Folds.{list_any-append}

-- a number is in a list
abbrev pub is_in : ℕ → List ℕ → Bool
is_in n xs = list_any (λ other. other == n) xs

-- every number of a list is in another
pub record Within (xs ys : List ℕ) : Type 0 where
  pub each : (n : ℕ) → is_in n xs ≡ true → is_in n ys ≡ true

pub in_left : (n : ℕ) (xs ys : List ℕ) → is_in n xs ≡ true → is_in n (xs ++ ys) ≡ true
in_left n xs ys h = list_any-append (λ other. other == n) xs ys ∙ or_left (is_in n xs) (is_in n ys) h

pub in_right : (n : ℕ) (xs ys : List ℕ) → is_in n ys ≡ true → is_in n (xs ++ ys) ≡ true
in_right n xs ys h = list_any-append (λ other. other == n) xs ys ∙ or_right (is_in n xs) (is_in n ys) h

pub in_first : (n : ℕ) (xs : List ℕ) → is_in n (n ∷ xs) ≡ true
in_first n xs = or_left (n == n) (is_in n xs) (eq-eqb n n refl)

pub in_rest : (n m : ℕ) (xs : List ℕ) → is_in n xs ≡ true → is_in n (m ∷ xs) ≡ true
in_rest n m xs h = or_right (m == n) (is_in n xs) h

pub within_left : (xs ys zs : List ℕ) → Within (xs ++ ys) zs → Within xs zs
within_left xs ys zs w = record { each = λ n h. w.each n (in_left n xs ys h) }

pub within_right : (xs ys zs : List ℕ) → Within (xs ++ ys) zs → Within ys zs
within_right xs ys zs w = record { each = λ n h. w.each n (in_right n xs ys h) }

-- each of three lists is in another
pub record AllWithin (xs ys zs all : List ℕ) : Type 0 where
  pub first : Within xs all
  pub second : Within ys all
  pub third : Within zs all

pub three_within : (xs ys zs all : List ℕ) → Within (xs ++ ys ++ zs) all → AllWithin xs ys zs all
three_within xs ys zs all w = record {
  first = within_left xs ys all (within_left (xs ++ ys) zs all w);
  second = within_right xs ys all (within_left (xs ++ ys) zs all w);
  third = within_right (xs ++ ys) zs all w;
}

pub within_all : (xs : List ℕ) → Within xs xs
within_all xs = record { each = λ n h. h }

-- what is in a list, and passes a test, is in what the test keeps
filter_first : (test : ℕ → Bool) (n x : ℕ) (xs : List ℕ) → test n ≡ true → x ≡ n → is_in n (filter test (x ∷ xs)) ≡ true
filter_first test n x xs p same =
    ap (λ b. is_in n (cond b (x ∷ filter test xs) (filter test xs))) (ap test same ∙ p)
    ∙ or_left (x == n) (is_in n (filter test xs)) (eq-eqb x n same)

filter_rest : (test : ℕ → Bool) (n x : ℕ) (xs : List ℕ) (b : Bool) → test x ≡ b → is_in n (filter test xs) ≡ true →
    is_in n (filter test (x ∷ xs)) ≡ true
filter_rest test n x xs true e h =
    ap (λ b. is_in n (cond b (x ∷ filter test xs) (filter test xs))) e ∙ or_right (x == n) (is_in n (filter test xs)) h
filter_rest test n x xs false e h = ap (λ b. is_in n (cond b (x ∷ filter test xs) (filter test xs))) e ∙ h

pub in_filter : (test : ℕ → Bool) (n : ℕ) (xs : List ℕ) → test n ≡ true → is_in n xs ≡ true → is_in n (filter test xs) ≡ true
in_filter test n [] p h = cc
in_filter test n (x ∷ xs) p h =
    ⊎_elim (λ e. filter_first test n x xs p (eqb-true x n e)) (λ e. filter_rest test n x xs (test x) refl (in_filter test n xs p e))
    (or_cases (x == n) (is_in n xs) h)

-- what a test keeps was there
drop_first : (test : ℕ → Bool) (n x : ℕ) (xs : List ℕ) (b : Bool) → (is_in n (filter test xs) ≡ true → is_in n xs ≡ true) →
    is_in n (cond b (x ∷ filter test xs) (filter test xs)) ≡ true → is_in n (x ∷ xs) ≡ true
drop_first test n x xs true rest h =
    ⊎_elim (λ e. or_left (x == n) (is_in n xs) e) (λ e. or_right (x == n) (is_in n xs) (rest e)) (or_cases (x == n) (is_in n (filter test xs)) h)
drop_first test n x xs false rest h = or_right (x == n) (is_in n xs) (rest h)

from_filter : (test : ℕ → Bool) (n : ℕ) (xs : List ℕ) → is_in n (filter test xs) ≡ true → is_in n xs ≡ true
from_filter test n [] h = h
from_filter test n (x ∷ xs) h = drop_first test n x xs (test x) (from_filter test n xs) h

pub within_filter : (test : ℕ → Bool) (xs : List ℕ) → Within (filter test xs) xs
within_filter test xs = record { each = λ n h. from_filter test n xs h }

shorter_step : (test : ℕ → Bool) (x : ℕ) (xs : List ℕ) (b : Bool) → test x ≡ b → length (filter test xs) ≤ length xs →
    length (filter test (x ∷ xs)) ≤ suc (length xs)
shorter_step test x xs true e h = rw (ap (λ b. length (cond b (x ∷ filter test xs) (filter test xs))) e) (omega arith)
shorter_step test x xs false e h = rw (ap (λ b. length (cond b (x ∷ filter test xs) (filter test xs))) e) (omega arith)

pub filter_shorter : (test : ℕ → Bool) (xs : List ℕ) → length (filter test xs) ≤ length xs
filter_shorter test [] = omega arith
filter_shorter test (x ∷ xs) = shorter_step test x xs (test x) refl (filter_shorter test xs)

-- a number that is in a list is found under its length
found_step : (test : ℕ → Bool) (x : ℕ) (xs : List ℕ) (b : Bool) → test x ≡ b → list_any test (x ∷ xs) ≡ true →
    (list_any test xs ≡ true → position_or_len test xs < length xs) → position_or_len test (x ∷ xs) < suc (length xs)
found_step test x xs true e h rest = rw (ap (λ b. cond (not b) (1 + position_or_len test xs) 0) e) (omega arith)
found_step test x xs false e h rest =
    let under = rest (sym (ap (λ b. b || list_any test xs) e) ∙ h) in
    rw (ap (λ b. cond (not b) (1 + position_or_len test xs) 0) e) (omega arith)

pub found_under : (test : ℕ → Bool) (xs : List ℕ) → list_any test xs ≡ true → position_or_len test xs < length xs
found_under test [] h = cc
found_under test (x ∷ xs) h = found_step test x xs (test x) refl h (found_under test xs)
