-- Lists in which no fault is, and lists whose items pass a test.
use Rattle.std.proofs.Common.{◌≡◌, ℕ, zero, suc, ◌≤◌, Bool, true, false, cond, not, if◌then◌else◌, List, [], ◌∷◌, ◌++◌, length, filter, take, drop, Option, Some, None, refl, arith}
use Rattle.std.specs.List.{list_all}
use Rattle.std.proofs.lemmas.Bool.{and_parts, and_from}
use Rattle.word_ops.specs.declared.place.Pos.{Pos}
use Rattle.cilk_ast.specs.declared.fault.FaultKind.{FaultKind}
use Rattle.cilk_ast.specs.declared.fault.TextFault.{TextFault}
use Rattle.cilk_model.specs.Breaks.{too_many}
use Rattle.cilk_model.specs.FirstFault.{broken_if, comes_first, earlier, first_fault}

-- ---- no faults

pub no_left : {A : Type 0} (xs ys : List A) → xs ++ ys ≡ [] → xs ≡ []
no_left [] ys h = refl
no_left (x ∷ xs) ys h = cc

pub no_right : {A : Type 0} (xs ys : List A) → xs ++ ys ≡ [] → ys ≡ []
no_right [] ys h = h
no_right (x ∷ xs) ys h = cc

pub not_broken : (b : Bool) (kind : FaultKind) (at : Pos) → broken_if (not b) kind at ≡ [] → b ≡ true
not_broken true kind at h = refl
not_broken false kind at h = cc

pub is_unbroken : (b : Bool) (kind : FaultKind) (at : Pos) → broken_if b kind at ≡ [] → b ≡ false
is_unbroken true kind at h = cc
is_unbroken false kind at h = refl

-- no fault in any of three parts
pub record Unbroken {A : Type 0} (xs ys zs : List A) : Type 0 where
  pub first : xs ≡ []
  pub second : ys ≡ []
  pub third : zs ≡ []

pub three_unbroken : {A : Type 0} (xs ys zs : List A) → xs ++ ys ++ zs ≡ [] → Unbroken xs ys zs
three_unbroken xs ys zs h = record {
  first = no_left xs ys (no_left (xs ++ ys) zs h);
  second = no_right xs ys (no_left (xs ++ ys) zs h);
  third = no_right (xs ++ ys) zs h;
}

-- no fault in any of four parts
pub record AllUnbroken {A : Type 0} (ws xs ys zs : List A) : Type 0 where
  pub first : ws ≡ []
  pub second : xs ≡ []
  pub third : ys ≡ []
  pub fourth : zs ≡ []

pub four_unbroken : {A : Type 0} (ws xs ys zs : List A) → ws ++ xs ++ ys ++ zs ≡ [] → AllUnbroken ws xs ys zs
four_unbroken ws xs ys zs h =
    let before = three_unbroken ws xs ys (no_left (ws ++ xs ++ ys) zs h) in
    record { first = before.first; second = before.second; third = before.third; fourth = no_right (ws ++ xs ++ ys) zs h }

some_fault : (f g : TextFault) (b : Bool) → (if b then Some f else Some g) ≡ None → ⊥
some_fault f g true h = cc
some_fault f g false h = cc

earlier_some : (f : TextFault) (o : Option TextFault) → earlier (Some f) o ≡ None → ⊥
earlier_some f None h = cc
earlier_some f (Some g) h = some_fault f g (comes_first f g) h

pub no_fault : (faults : List TextFault) → first_fault faults ≡ None → faults ≡ []
no_fault [] h = refl
no_fault (f ∷ faults) h = absurd (earlier_some f (first_fault faults) h)

pub few_enough : (limit : ℕ) (places : List Pos) → too_many limit places ≡ [] → length places ≤ limit
few_enough limit [] h = omega arith
few_enough zero (p ∷ places) h = cc
few_enough (suc limit) (p ∷ places) h = let rest = few_enough limit places h in omega arith

-- ---- items that pass a test

pub all_imply : {A : Type 0} (p q : A → Bool) → ((x : A) → p x ≡ true → q x ≡ true) → (xs : List A) → list_all p xs ≡ true → list_all q xs ≡ true
all_imply p q h [] m = refl
all_imply p q h (x ∷ xs) m =
    let parts = and_parts (p x) (list_all p xs) m in and_from (q x) (list_all q xs) (h x (parts.0)) (all_imply p q h xs (parts.1))

pub all_take : {A : Type 0} (p : A → Bool) (n : ℕ) (xs : List A) → list_all p xs ≡ true → list_all p (take n xs) ≡ true
all_take p zero xs h = refl
all_take p (suc n) [] h = refl
all_take p (suc n) (x ∷ xs) h = let parts = and_parts (p x) (list_all p xs) h in and_from _ _ (parts.0) (all_take p n xs (parts.1))

pub all_drop : {A : Type 0} (p : A → Bool) (n : ℕ) (xs : List A) → list_all p xs ≡ true → list_all p (drop n xs) ≡ true
all_drop p zero xs h = h
all_drop p (suc n) [] h = refl
all_drop p (suc n) (x ∷ xs) h = all_drop p n xs ((and_parts (p x) (list_all p xs) h).1)

filter_step : {A : Type 0} (p : A → Bool) (b : Bool) (x : A) (xs : List A) → p x ≡ true → list_all p xs ≡ true → list_all p (cond b (x ∷ xs) xs) ≡ true
filter_step p true x xs h k = and_from _ _ h k
filter_step p false x xs h k = k

pub all_filter : {A : Type 0} (p test : A → Bool) (xs : List A) → list_all p xs ≡ true → list_all p (filter test xs) ≡ true
all_filter p test [] h = refl
all_filter p test (x ∷ xs) h =
    let parts = and_parts (p x) (list_all p xs) h in filter_step p (test x) x (filter test xs) (parts.0) (all_filter p test xs (parts.1))
