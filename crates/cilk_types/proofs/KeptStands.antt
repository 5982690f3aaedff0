-- Functions in their places among all functions.
use Rattle.std.proofs.Common.{◌≡◌, ◌∙◌, ap, ℕ, suc, ◌+◌, true, List, [], ◌∷◌, ◌++◌, length, slice_get, Some, refl, arith, eq-eqb, zero}
use Rattle.cilk_ast.specs.Kept.{takes}
use Rattle.cilk_ast.specs.declared.program.Function.{Function}

-- these functions stand among all functions, from an index on
pub record Stands (functions : List Function) (next : ℕ) (these : List Function) : Type 0 where
  pub at : (i : ℕ) (f : Function) → slice_get these i ≡ Some f → slice_get functions (next + i) ≡ Some f

pub get_left : {A : Type 0} (xs ys : List A) (i : ℕ) (x : A) → slice_get xs i ≡ Some x → slice_get (xs ++ ys) i ≡ Some x
get_left [] ys i x h = cc
get_left (y ∷ xs) ys zero x h = h
get_left (y ∷ xs) ys (suc i) x h = get_left xs ys i x h

pub get_right : {A : Type 0} (xs ys : List A) (i : ℕ) → slice_get (xs ++ ys) (length xs + i) ≡ slice_get ys i
get_right [] ys i = ap (slice_get ys) (omega arith)
get_right (y ∷ xs) ys i =
    let e : suc (length xs) + i ≡ suc (length xs + i) = omega arith in
    ap (slice_get (y ∷ xs ++ ys)) e ∙ get_right xs ys i

pub stands_left : (functions : List Function) (next : ℕ) (xs ys : List Function) → Stands functions next (xs ++ ys) → Stands functions next xs
stands_left functions next xs ys s = record { at = λ i f h. s.at i f (get_left xs ys i f h) }

pub stands_behind : (functions : List Function) (next k : ℕ) (xs ys : List Function) → k ≡ next + length xs → Stands functions next (xs ++ ys) →
    Stands functions k ys
stands_behind functions next k xs ys e s = record {
  at = λ i f h.
      let place : k + i ≡ next + (length xs + i) = omega arith in
      ap (slice_get functions) place ∙ s.at (length xs + i) f (get_right xs ys i ∙ h);
}

pub stands_right : (functions : List Function) (next n : ℕ) (xs ys : List Function) → length xs ≡ n → Stands functions next (xs ++ ys) →
    Stands functions (next + n) ys
stands_right functions next n xs ys e s = stands_behind functions next (next + n) xs ys (omega arith) s

pub stands_rest : (functions : List Function) (next : ℕ) (f : Function) (fs : List Function) → Stands functions next (f ∷ fs) →
    Stands functions (suc next) fs
stands_rest functions next f fs s = record {
  at = λ i g h. let place : suc next + i ≡ next + suc i = omega arith in ap (slice_get functions) place ∙ s.at (suc i) g h;
}

pub stands_first : (functions : List Function) (next : ℕ) (f : Function) (fs : List Function) → Stands functions next (f ∷ fs) →
    slice_get functions next ≡ Some f
stands_first functions next f fs s = let place : next ≡ next + 0 = omega arith in ap (slice_get functions) place ∙ s.at 0 f refl

-- the function at an index takes as many arguments as it has parameters
pub takes_at : (functions : List Function) (k n : ℕ) (f : Function) → slice_get functions k ≡ Some f → f.params ≡ n → takes functions k n ≡ true
takes_at functions k n f e h = rw e (eq-eqb f.params n h)
