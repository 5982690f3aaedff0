-- A count of faults, and when it rose.
use Rattle.std.specs.Prelude.{◌≡◌, ℕ, ◌+◌, ◌-◌, ◌^◌, ◌<◌, ◌⊎◌, if◌then◌else◌, ◌==◌}

-- the count is greater than it was, or stands at its last value
abbrev pub Rose : ℕ → ℕ → Type 0
Rose old new = (old < new) ⊎ (new ≡ 2 ^ 64 - 1)

-- the count with one fault more; at its last value it stays
abbrev pub faults_behind : ℕ → ℕ
faults_behind faults = if faults == 2 ^ 64 - 1 then faults else faults + 1
