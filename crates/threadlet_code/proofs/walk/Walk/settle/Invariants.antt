use Rattle.std.proofs.Common.{◌≡◌, ℕ, ◌≤◌, ◌+◌, length}
use Rattle.threadlet_code.specs.Walking.{settle_many}
use Rattle.threadlet_code.proofs.walk.Walk.settle.Given as goal

abbrev pub invariant-loop-i : goal.invariant-loop-i
invariant-loop-i l = record {
  ways : l.self.ways ≡ l.initial.self.ways;
  reached : l.self.reached ≡ l.initial.self.reached;
  settled : l.self.settled ≡ l.initial.self.settled;
  size : length l.self.known ≡ length l.initial.self.known;
  above : l.initial.self.settled ≤ l.i;
  known : (n : ℕ) → l.initial.self.settled + n ≡ l.i →
      l.self.known ≡ settle_many n l.initial.self.ways l.initial.self.settled l.initial.self.reached l.initial.self.known;
}
