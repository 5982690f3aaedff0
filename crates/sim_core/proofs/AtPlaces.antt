-- Lists by the items at their places.
use Rattle.std.proofs.Common.{◌≡◌, ℕ, zero, suc, ◌+◌, ◌<◌, List, [], ◌∷◌, ◌++◌, length, Option, Some, None, refl, sym, ap, ◌∙◌, subst, append_assoc, get_or, take, option_to_list}
use Rattle.std.specs.Prelude.{Bool, true, slice_get, flat_map, filter_map}
use Rattle.std.specs.List.{list_all, cons_option}
use Rattle.std.proofs.lemmas.Grind.{flat_map-append}
use Rattle.std.proofs.lemmas.List.{take_more}
use Rattle.std.proofs.lemmas.List.Elements.{filter_map-append}
use Rattle.word_ops.specs.Report.{below}
use Rattle.core_model.proofs.Actions.Sights.{both_true}

-- ---- what holds of all items

-- What holds of all items by their places holds of them and one more.
pub at_one_more : {A : Type 0} (Holds : ℕ → A → Type 0) (xs : List A) (x : A)
    → ((k : ℕ) (y : A) → slice_get xs k ≡ Some y → Holds k y) → Holds (length xs) x
    → (k : ℕ) (y : A) → slice_get (xs ++ x ∷ []) k ≡ Some y → Holds k y
at_one_more Holds [] x all last zero y e = subst (Holds 0) (same e) last
  where
    same : Some x ≡ Some y → x ≡ y
    same e = cc
at_one_more Holds [] x all last (suc k) y e = absurd (none k e)
  where
    none : (k : ℕ) → slice_get [] k ≡ Some y → ⊥
    none k e = cc
at_one_more Holds (z ∷ xs) x all last zero y e = all 0 y e
at_one_more Holds (z ∷ xs) x all last (suc k) y e =
    at_one_more (λ i. Holds (suc i)) xs x (λ i w h. all (suc i) w h) last k y e

-- A test that holds at each place holds of all.
pub list_all_by_place : {A : Type 0} (p : A → Bool) (xs : List A) → ((k : ℕ) (x : A) → slice_get xs k ≡ Some x → p x ≡ true) → list_all p xs ≡ true
list_all_by_place p [] all = refl
list_all_by_place p (x ∷ xs) all = rw (all 0 x refl, list_all_by_place p xs (λ k y e. all (suc k) y e)) refl

-- A test that holds of all holds at each place.
pub list_all_at_place : {A : Type 0} (p : A → Bool) (xs : List A) (k : ℕ) (x : A) → list_all p xs ≡ true → slice_get xs k ≡ Some x → p x ≡ true
list_all_at_place p [] k x all e = absurd (none e)
  where
    none : None ≡ Some x → ⊥
    none e = cc
list_all_at_place p (y ∷ xs) zero x all e = ap p (sym same) ∙ (both_true (p y) (list_all p xs) all).0
  where
    same : y ≡ x
    same = let h : Some y ≡ Some x = e in cc
list_all_at_place p (y ∷ xs) (suc k) x all e = list_all_at_place p xs k x (both_true (p y) (list_all p xs) all).1 e

-- A test that holds wherever another does.
pub list_all_follows : {A : Type 0} (p q : A → Bool) (xs : List A) → ((x : A) → p x ≡ true → q x ≡ true) → list_all p xs ≡ true → list_all q xs ≡ true
list_all_follows p q [] step all = refl
list_all_follows p q (x ∷ xs) step all =
    rw (step x ((both_true (p x) (list_all p xs) all).0), list_all_follows p q xs step (both_true (p x) (list_all p xs) all).1) refl

-- ---- parts by number

-- The numbers under n + 1 are 0 and those that follow the ones under n.
pub flat_map_shifted : {B : Type 0} (h : ℕ → List B) (n : ℕ) → flat_map h (below (suc n)) ≡ h 0 ++ flat_map (λ k. h (suc k)) (below n)
flat_map_shifted h zero = refl
flat_map_shifted h (suc n) =
    flat_map-append h (below (suc n)) (suc n ∷ [])
    ∙ ap (λ xs. xs ++ flat_map h (suc n ∷ [])) (flat_map_shifted h n)
    ∙ append_assoc (h 0) (flat_map (λ k. h (suc k)) (below n)) (flat_map h (suc n ∷ []))
    ∙ ap (λ xs. h 0 ++ xs) (sym (flat_map-append (λ k. h (suc k)) (below n) (n ∷ [])))

-- Parts for the numbers under the length of a list, each of which is that of the item there.
pub flat_map_by_place : {A B : Type 0} (h : ℕ → List B) (g : A → List B) (xs : List A)
    → ((k : ℕ) (x : A) → slice_get xs k ≡ Some x → h k ≡ g x) → flat_map h (below (length xs)) ≡ flat_map g xs
flat_map_by_place h g [] each = refl
flat_map_by_place h g (x ∷ xs) each =
    flat_map_shifted h (length xs)
    ∙ ap (λ ys. ys ++ flat_map (λ k. h (suc k)) (below (length xs))) (each 0 x refl)
    ∙ ap (λ ys. g x ++ ys) (flat_map_by_place (λ k. h (suc k)) g xs (λ k y e. each (suc k) y e))

-- ---- one item more

-- What a list gives by one item more.
pub filter_map_more : {A B : Type 0} (h : A → Option B) (xs : List A) (i : ℕ) (x : A) → i < length xs → x ≡ get_or xs i x → filter_map h (take (i + 1) xs) ≡ filter_map h (take i xs) ++ option_to_list (h x)
filter_map_more {B = B} h xs i x within e =
    ap (filter_map h) (take_more xs i x within)
    ∙ ap (λ y. filter_map h (take i xs ++ y ∷ [])) (sym e)
    ∙ filter_map-append h (take i xs) (x ∷ [])
    ∙ ap (λ ys. filter_map h (take i xs) ++ ys) (one (h x))
  where
    one : (o : Option B) → cons_option o [] ≡ option_to_list o
    one None = refl
    one (Some y) = refl
