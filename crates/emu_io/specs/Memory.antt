-- Sources and sinks in memory whose calls fail as they are told to.
use Rattle.std.specs.Prelude.{◌≡◌, ℕ, ◌⊎◌, Bool, false, List, ◌++◌, if◌then◌else◌, length, drop, min}
use Rattle.emu_io.specs.Schedule.{calls_behind, is_failing}
use Rattle.emu_io.specs.declared.calls.Calls.{Calls}

-- a source: the bytes to come, the most that a call gives, and its calls
pub record Supply : Type 0 where
  pub left : List ℕ
  pub step : ℕ
  pub calls : Calls

-- how many bytes the next call gives to a buffer for `room` bytes
abbrev pub given_count : Supply → ℕ → ℕ
given_count supply room =
    if is_failing supply.calls then 0 else min supply.step (min room (length supply.left))

-- the source behind a call that gave the first n bytes
abbrev pub supply_behind : Supply → ℕ → Supply
supply_behind supply n = record supply { left = drop n supply.left; calls = calls_behind supply.calls }

-- a sink: the bytes that it kept, whether they are all that it took, the most that a call takes, and its calls
pub record Store : Type 0 where
  pub bytes : List ℕ
  pub whole : Bool
  pub step : ℕ
  pub calls : Calls

-- the call kept bs, or found no memory and dropped them
abbrev pub KeptOrDropped : Store → Store → List ℕ → Type 0
KeptOrDropped old new bs =
    (new ≡ record old { bytes = old.bytes ++ bs; calls = calls_behind old.calls })
    ⊎ (new ≡ record old { whole = false; calls = calls_behind old.calls })
