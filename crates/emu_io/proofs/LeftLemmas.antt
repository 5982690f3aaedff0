-- What a source gave in several calls.
use Rattle.std.proofs.Common.{◌≡◌, ◌∙◌, ap, refl, sym, ℕ, zero, ◌<◌, ◌↔◌, List, [], ◌++◌, append_assoc, append-nil, length, Option, Some, None, IfSome, arith, length-append}
use Rattle.std.specs.Io.KnownBytes.{Consumes}
use Rattle.emu_io.specs.Left.{GaveAll}

pub Consumes-none : (left : Option (List ℕ)) → Consumes left left []
Consumes-none None = tt
Consumes-none (Some bytes) = refl

pub Consumes-append : (a b c : Option (List ℕ)) (xs ys : List ℕ)
    → Consumes a b xs → Consumes b c ys → Consumes a c (xs ++ ys)
Consumes-append None b c xs ys first second = tt
Consumes-append (Some old) None c xs ys first second = absurd first
Consumes-append (Some old) (Some mid) None xs ys first second = absurd second
Consumes-append (Some old) (Some mid) (Some new) xs ys first second =
    first ∙ ap (λ bytes. xs ++ bytes) second ∙ sym (append_assoc xs ys new)

-- the source gave xs, and then no byte, since none was left
pub GaveAll-end : (a b c : Option (List ℕ)) (xs : List ℕ) → Consumes a b xs → Consumes b c []
    → IfSome b (λ left. (zero ≡ zero) ↔ (left ≡ [])) → GaveAll a c xs
GaveAll-end None b c xs gave last end = tt
GaveAll-end (Some old) None c xs gave last end = absurd gave
GaveAll-end (Some old) (Some mid) None xs gave last end = absurd last
GaveAll-end (Some old) (Some mid) (Some new) xs gave last end =
    let none : mid ≡ [] = end.0 refl in
    (sym (append-nil xs) ∙ ap (λ bytes. xs ++ bytes) (sym none) ∙ sym gave, ap Some (sym last ∙ none))

-- more than limit bytes were left where as many came
pub IfSome-longer : (a c : Option (List ℕ)) (xs : List ℕ) (limit : ℕ) → Consumes a c xs → limit < length xs
    → IfSome a (λ left. limit < length left)
IfSome-longer None c xs limit gave longer = tt
IfSome-longer (Some old) None xs limit gave longer = absurd gave
IfSome-longer (Some old) (Some new) xs limit gave longer = rw (gave, length-append) (omega arith)
