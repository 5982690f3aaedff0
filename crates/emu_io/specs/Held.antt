-- The bytes that a sink tells, and what becomes of them.
use Rattle.std.specs.Prelude.{◌≡◌, ℕ, Bool, List, ◌++◌, Option, Some, None, ⊤, if◌then◌else◌}

-- bytes told afterwards were told before, and bs was put behind them
abbrev pub Grew : Option (List ℕ) → Option (List ℕ) → List ℕ → Type 0
Grew old None bs = ⊤
Grew None (Some new) bs = ⊥
Grew (Some old) (Some new) bs = new ≡ old ++ bs

-- a sink in memory tells its bytes as long as they are the whole that it took
abbrev pub told_bytes : Bool → List ℕ → Option (List ℕ)
told_bytes whole bytes = if whole then Some bytes else None
