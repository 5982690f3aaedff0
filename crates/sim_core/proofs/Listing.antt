-- Lists of what passes a test, by one more.
use Rattle.std.proofs.Common.{◌≡◌, ℕ, ◌+◌, List, [], ◌∷◌, ◌++◌, Some, sym, ap, ◌∙◌, Bool, true, false, add-one, append_assoc, take, map}
use Rattle.std.specs.Prelude.{filter, flat_map, if◌then◌else◌, slice_get}
use Rattle.std.proofs.lemmas.List.{map-append, take_more, append-nil}
use Rattle.std.proofs.lemmas.List.Elements.{filter-append}
use Rattle.std.proofs.lemmas.Grind.{flat_map-append}
use Rattle.std.proofs.lemmas.Option.{slice_get_within, get_or_from_slice_get}
use Rattle.word_ops.specs.Report.{below}

module _ {A B : Type 0} (p : B → Bool) (f : A → B) where
  one_listed : (xs : List A) (x : A) → filter p (map f (xs ++ x ∷ [])) ≡ filter p (map f xs) ++ (if p (f x) then f x ∷ [] else [])
  one_listed xs x = ap (filter p) (map-append f xs (x ∷ [])) ∙ filter-append p (map f xs) (f x ∷ [])

  -- The items up to one more place.
  pub listed_to : (xs : List A) (i : ℕ) (x : A) → slice_get xs i ≡ Some x → filter p (map f (take (i + 1) xs)) ≡ filter p (map f (take i xs)) ++ (if p (f x) then f x ∷ [] else [])
  listed_to xs i x e =
      ap (λ ys. filter p (map f ys)) (take_more xs i x (slice_get_within xs i x e) ∙ ap (λ y. take i xs ++ y ∷ []) (get_or_from_slice_get xs i x x e))
      ∙ one_listed (take i xs) x

-- One number more.
pub listed_below : {B : Type 0} (p : B → Bool) (f : ℕ → B) (n : ℕ) → filter p (map f (below (n + 1))) ≡ filter p (map f (below n)) ++ (if p (f n) then f n ∷ [] else [])
listed_below p f n = ap (λ i. filter p (map f (below i))) (add-one n) ∙ one_listed p f (below n) n

pub parts_below : {B : Type 0} (f : ℕ → List B) (n : ℕ) → flat_map f (below (n + 1)) ≡ flat_map f (below n) ++ f n
parts_below f n =
    ap (λ i. flat_map f (below i)) (add-one n)
    ∙ flat_map-append f (below n) (n ∷ [])
    ∙ ap (λ xs. flat_map f (below n) ++ xs) (append-nil (f n))

-- What is listed goes on by one that passes, and stays where it does not.
pub listed_on : {B : Type 0} (before all more events after_it : List B) (t : Bool) (x : B) → events ≡ before ++ all → more ≡ all ++ (if t then x ∷ [] else []) →
    after_it ≡ events ++ (if t then x ∷ [] else []) → after_it ≡ before ++ more
listed_on before all more events after_it t x is one_more then_is =
    then_is
    ∙ ap (λ xs. xs ++ (if t then x ∷ [] else [])) is
    ∙ append_assoc before all (if t then x ∷ [] else [])
    ∙ ap (λ xs. before ++ xs) (sym one_more)

pub passed : {B : Type 0} (events after_it : List B) (t : Bool) (x : B) → t ≡ true → after_it ≡ events ++ x ∷ [] → after_it ≡ events ++ (if t then x ∷ [] else [])
passed events after_it t x e is = is ∙ ap (λ b. events ++ (if b then x ∷ [] else [])) (sym e)

pub left_out : {B : Type 0} (events after_it : List B) (t : Bool) (x : B) → t ≡ false → after_it ≡ events → after_it ≡ events ++ (if t then x ∷ [] else [])
left_out events after_it t x e is = is ∙ sym (append-nil events) ∙ ap (λ b. events ++ (if b then x ∷ [] else [])) (sym e)
