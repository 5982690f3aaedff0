-- What becomes of the bytes that a source has left, where it tells them.
use Rattle.std.specs.Prelude.{◌≡◌, ℕ, List, [], Option, Some, IfSome}
use Rattle.std.specs.Io.KnownBytes.{Consumes}

-- the bytes left are all that were left before, and none is left now
abbrev pub GaveAll : Option (List ℕ) → Option (List ℕ) → List ℕ → Type 0
GaveAll old new bytes = IfSome old (λ left. (bytes ≡ left) × (new ≡ Some []))

-- what is left is what was left behind the first bytes
abbrev pub GaveSome : Option (List ℕ) → Option (List ℕ) → Type 0
GaveSome old new = (bytes : List ℕ) × Consumes old new bytes
