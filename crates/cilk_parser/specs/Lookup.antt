-- Tables of spellings, each with its class and what it means.
use Rattle.std.specs.Prelude.{ℕ, Bool, false, ◌||◌, List, [], ◌∷◌, Option, Some, None, cond, ◌&&◌, ◌==◌, bytes_eq}

-- What the first entry of this class and spelling means.
abbrev pub meaning_of : {T : Type 0} → ℕ → List ℕ → List (ℕ × List ℕ × T) → Option T
meaning_of class spelling [] = None
meaning_of class spelling (entry ∷ table) =
    cond (entry.0 == class && bytes_eq spelling (entry.1)) (Some (entry.2)) (meaning_of class spelling table)

-- An entry has this spelling.
abbrev pub is_spelled_in : {T : Type 0} → List ℕ → List (ℕ × List ℕ × T) → Bool
is_spelled_in spelling [] = false
is_spelled_in spelling (entry ∷ table) = bytes_eq spelling (entry.1) || is_spelled_in spelling table
