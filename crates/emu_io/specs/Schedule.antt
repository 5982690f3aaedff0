-- Which calls of a source or a sink in memory fail, by their numbers.
use Rattle.std.specs.Prelude.{ℕ, ◌+◌, ◌-◌, ◌^◌, Bool, false, List, Option, Some, None, if◌then◌else◌, ◌==◌, nat_eq, option_and_then}
use Rattle.std.specs.List.{list_any}
use Rattle.emu_io.specs.Faults.{faults_behind}
use Rattle.emu_io.specs.declared.calls.Calls.{Calls}

-- the number behind k; none behind the last that 64 bits hold
abbrev pub number_behind : ℕ → Option ℕ
number_behind k = if k == 2 ^ 64 - 1 then None else Some (k + 1)

-- the call with this number fails; one without a number never does
abbrev pub is_among : Option ℕ → List ℕ → Bool
is_among None failing = false
is_among (Some number) failing = list_any (λ k. nat_eq k number) failing

-- the next call fails
abbrev pub is_failing : Calls → Bool
is_failing calls = is_among calls.next calls.failing

-- the calls behind the next one
abbrev pub calls_behind : Calls → Calls
calls_behind calls = record calls {
  next = option_and_then number_behind calls.next;
  faults = if is_failing calls then faults_behind calls.faults else calls.faults;
}
