-- A list in the order of a key.
use Rattle.std.specs.Prelude.{ℕ, if◌then◌else◌, nat_le, List, [], ◌∷◌}

module _ {X : Type 0} (key : X → ℕ) where
  -- x comes before the first of these with its key or a greater one
  abbrev pub put_by : X → List X → List X
  put_by x [] = x ∷ []
  put_by x (y ∷ ys) = if nat_le (key x) (key y) then x ∷ y ∷ ys else y ∷ put_by x ys

  -- The list by the key; items of one key keep their order.
  abbrev pub by_key : List X → List X
  by_key [] = []
  by_key (x ∷ xs) = put_by x (by_key xs)
