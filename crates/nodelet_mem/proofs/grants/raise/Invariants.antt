use Rattle.std.proofs.Common.{◌≡◌, ℕ, ◌≤◌, ◌<◌, length, get_or}
use Rattle.nodelet_mem.specs.Grants.{run_up_to}
use Rattle.nodelet_mem.specs.declared.grants.Run.{Run}
use Rattle.nodelet_mem.proofs.grants.raise.Given as goal

abbrev pub invariant-loop-i : goal.invariant-loop-i
invariant-loop-i l = record {
  sizes : length l.runs.items ≡ length l.initial.runs.items;
  low : (k : ℕ) (d : Run) → k < l.from → get_or l.runs.items k d ≡ get_or l.initial.runs.items k d;
  high : (k : ℕ) (d : Run) → l.from ≤ k → k < l.i → get_or l.runs.items k d ≡ run_up_to (get_or l.initial.runs.items k d) l.end;
  rest : (k : ℕ) (d : Run) → l.i ≤ k → get_or l.runs.items k d ≡ get_or l.initial.runs.items k d;
}
