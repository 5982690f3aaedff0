use Rattle.std.proofs.Common.{◌≡◌, ◌-◌, ◌≤◌, ◌<◌, ◌==◌, ℕ, false, length, get_or}
use Rattle.code_text.proofs.words.cut.Given as goal

abbrev pub invariant-loop-len : goal.invariant-loop-len
invariant-loop-len l = (l.len ≤ length l.bytes) × ((k : ℕ) → k < l.len → (get_or l.bytes k 0 == l.byte) ≡ false)

abbrev pub decreases-loop-len : goal.decreases-loop-len
decreases-loop-len l = length l.bytes - l.len
