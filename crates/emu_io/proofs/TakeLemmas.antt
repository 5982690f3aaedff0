-- The first items of two lists that are joined.
use Rattle.std.proofs.Common.{◌≡◌, ◌∙◌, ap, sym, ℕ, ◌+◌, ◌-◌, ◌≤◌, List, ◌++◌, length, take, min, arith}
use Rattle.std.proofs.Math.Seq.{take-append-add}
use Rattle.std.proofs.lemmas.List.{take_min}

-- where the first list fits, the second is cut to the room behind it
pub take-append_room : (xs ys : List ℕ) (room : ℕ) → length xs ≤ room
    → take room (xs ++ ys) ≡ xs ++ take (min (room - length xs) (length ys)) ys
take-append_room xs ys room fits =
    let all : room ≡ length xs + (room - length xs) = omega arith in
    ap (λ n. take n (xs ++ ys)) all ∙ take-append-add xs ys (room - length xs)
    ∙ ap (λ zs. xs ++ zs) (sym (take_min (room - length xs) ys))
