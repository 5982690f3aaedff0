-- The last of a list.
use Rattle.std.proofs.Common.{◌≡◌, ◌-◌, List, [], ◌∷◌, ◌++◌, length, take, suc, Some, None, refl, sym, ap, ◌∙◌, arith}
use Rattle.world_model.specs.Step.{last_of}

-- the last of a list is what was appended to it
pub last_of-append : {A : Type 0} (xs : List A) (x : A) → last_of (xs ++ x ∷ []) ≡ Some x
last_of-append [] x = refl
last_of-append (y ∷ []) x = refl
last_of-append (y ∷ z ∷ xs) x = last_of-append (z ∷ xs) x

-- a packet that was just taken is the last one taken
pub last_taken : {A : Type 0} (xs ys : List A) (x : A) → ys ≡ xs ++ x ∷ [] → last_of ys ≡ Some x
last_taken xs ys x e = ap last_of e ∙ last_of-append xs x

-- a list is all but its last, and its last
pub last_of-split : {A : Type 0} (xs : List A) (x : A) → last_of xs ≡ Some x → take (length xs - 1) xs ++ x ∷ [] ≡ xs
last_of-split [] x last = absurd (let no : None ≡ Some x = last in cc)
last_of-split (y ∷ []) x last = let same : y ≡ x = cc in ap (λ w. w ∷ []) (sym same)
last_of-split (y ∷ z ∷ xs) x last =
    let count : suc (length (z ∷ xs)) - 1 ≡ suc (length (z ∷ xs) - 1) = omega arith in
    rw count (ap (λ ws. y ∷ ws) (last_of-split (z ∷ xs) x last))
