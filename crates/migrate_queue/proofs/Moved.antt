-- What was moved from one list to the end of another.
use Rattle.std.proofs.Common.{◌≡◌, ℕ, ◌+◌, List, ◌++◌, length, take, drop, sym, ap, ◌∙◌}
use Rattle.std.proofs.Math.Seq.{take-append_seam, take-append-add, drop-append_seam, drop-append-add}

-- where the two lists together stay, the longer front has gained the first of the back
pub front_gained : {A : Type 0} (front back front' back' : List A) (n : ℕ) → front' ++ back' ≡ front ++ back → length front' ≡ length front + n → front' ≡ front ++ take n back
front_gained front back front' back' n whole count =
    sym (take-append_seam front' back') ∙ ap (λ k. take k (front' ++ back')) count ∙ ap (λ xs. take (length front + n) xs) whole ∙ take-append-add front back n

-- and the back has lost them
pub back_lost : {A : Type 0} (front back front' back' : List A) (n : ℕ) → front' ++ back' ≡ front ++ back → length front' ≡ length front + n → back' ≡ drop n back
back_lost front back front' back' n whole count =
    sym (drop-append_seam front' back') ∙ ap (λ k. drop k (front' ++ back')) count ∙ ap (λ xs. drop (length front + n) xs) whole ∙ drop-append-add front back n
