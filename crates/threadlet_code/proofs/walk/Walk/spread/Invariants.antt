use Rattle.std.proofs.Common.{◌≡◌, ℕ, ◌<◌, ◌≤◌, ◌+◌, length}
use Rattle.std.specs.Prelude.{slice_index}
use Rattle.threadlet_code.specs.Walking.{Wave, pass_many}
use Rattle.threadlet_code.proofs.walk.Walk.spread.Given as goal

abbrev pub invariant-loop-i : goal.invariant-loop-i
invariant-loop-i l = record {
  known : l.self.known ≡ l.initial.self.known;
  settled : l.self.settled ≡ l.initial.self.settled;
  longer : length l.initial.self.reached ≤ length l.self.reached;
  front : (k : ℕ) → k < length l.initial.self.reached → slice_index l.self.reached k ≡ slice_index l.initial.self.reached k;
  above : l.from ≤ l.i;
  wave : (n : ℕ) → l.from + n ≡ l.i →
      let before : Wave = record { ways = l.initial.self.ways; reached = l.initial.self.reached } in
      let now : Wave = record { ways = l.self.ways; reached = l.self.reached } in
      now ≡ pass_many n l.code l.function l.f l.initial.self.known l.from l.initial.self.reached before;
}
