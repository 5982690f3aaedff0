-- Where an option that is some came from, and equal lists.
use Rattle.std.proofs.Common.{◌≡◌, ℕ, Bool, true, false, List, ◌∷◌, Option, Some, None, refl, arith}
use Rattle.std.specs.Prelude.{if◌then◌else◌, ◌==◌, option_map, option_and_then}
use Rattle.std.proofs.lemmas.Bool.Decides.{eqb_tells}

pub some_is : {A : Type 0} (x y : A) → Some x ≡ Some y → x ≡ y
some_is x y e = cc

pub head_is : {A : Type 0} (x y : A) (xs ys : List A) → x ∷ xs ≡ y ∷ ys → x ≡ y
head_is x y xs ys e = cc

pub tail_is : {A : Type 0} (x y : A) (xs ys : List A) → x ∷ xs ≡ y ∷ ys → xs ≡ ys
tail_is x y xs ys e = cc

pub same_number : (i : ℕ) → (i == i) ≡ true
same_number i = grind (arith, eqb_tells)

pub swapped : (i k : ℕ) → (k == i) ≡ false → (i == k) ≡ false
swapped i k e = grind (arith, eqb_tells)

-- a choice that is some took its first side
pub record FromIf {A : Type 0} (t : Bool) (o : Option A) (a : A) : Type 0 where
  pub test : t ≡ true
  pub was : o ≡ Some a

pub from_if : {A : Type 0} (t : Bool) (o : Option A) (a : A) → (if t then o else None) ≡ Some a → FromIf t o a
from_if true o a e = record { test = refl; was = e }
from_if false o a e = absurd (cc)

pub record FromMap {A B : Type 0} (f : A → B) (o : Option A) (b : B) : Type 0 where
  pub value : A
  pub was : o ≡ Some value
  pub is : f value ≡ b

pub from_map : {A B : Type 0} (f : A → B) (o : Option A) (b : B) → option_map f o ≡ Some b → FromMap f o b
from_map f None b e = absurd (cc)
from_map f (Some a) b e = record { value = a; was = refl; is = some_is _ _ e }

pub record FromThen {A B : Type 0} (f : A → Option B) (o : Option A) (b : B) : Type 0 where
  pub value : A
  pub was : o ≡ Some value
  pub next : f value ≡ Some b

pub from_then : {A B : Type 0} (f : A → Option B) (o : Option A) (b : B) → option_and_then f o ≡ Some b → FromThen f o b
from_then f None b e = absurd (cc)
from_then f (Some a) b e = record { value = a; was = refl; next = e }
