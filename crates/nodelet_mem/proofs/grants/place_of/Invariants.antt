use Rattle.std.proofs.Common.{ℕ, ◌≤◌, ◌<◌, ◌-◌, ◌≤ℤ◌, ◌<ℤ◌, length, get_or}
use Rattle.nodelet_mem.specs.declared.grants.Run.{Run}
use Rattle.nodelet_mem.proofs.grants.place_of.Given as goal

abbrev pub invariant-loop-low : goal.invariant-loop-low
invariant-loop-low l = record {
  in_order : l.low ≤ l.high;
  within : l.high ≤ length l.runs;
  before : (k : ℕ) (d : Run) → k < l.low → (get_or l.runs k d).first ≤ℤ l.address;
  behind : (k : ℕ) (d : Run) → l.high ≤ k → k < length l.runs → l.address <ℤ (get_or l.runs k d).first;
}

abbrev pub decreases-loop-low : goal.decreases-loop-low
decreases-loop-low l = l.high - l.low
