use Rattle.std.proofs.Common.{◌≡◌, ◌≤◌, ℕ, suc, length, slice_index}
use Rattle.word_ops.specs.Report.{below}
use Rattle.nodelet_core.specs.code.Counted.{with_all}
use Rattle.nodelet_core.proofs.counting.count_all.Given as goal

abbrev pub invariant-loop-k : goal.invariant-loop-k
invariant-loop-k l = record {
  size : length l.counts ≡ length l.fn.counts;
  all : slice_index l.counts ≡ with_all (below l.k) (slice_index l.fn.counts);
  rest : (i : ℕ) → l.k ≤ i → slice_index l.counts i ≡ slice_index l.fn.counts i;
  bound : (i : ℕ) → slice_index l.counts i ≤ suc (slice_index l.fn.counts i);
}
