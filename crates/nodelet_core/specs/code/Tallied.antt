-- What the lists of a tally count.
use Rattle.std.specs.Prelude.{◌≡◌, ◌≤◌, ℕ, length, slice_index}
use Rattle.word_ops.specs.declared.step.Counts3.{Counts3}
use Rattle.nodelet_core.specs.declared.tally.Tally.{Tally}
use Rattle.core_model.specs.Nodes.{Tallies}

-- Four lists have so many numbers each.
pub record HasSize (n : ℕ) (t : Tally) : Type 0 where
  pub moves : length t.moves ≡ n
  pub births : length t.births ≡ n
  pub posts : length t.posts ≡ n
  pub dones : length t.dones ≡ n

-- Of n nodelets nothing is counted.
pub record IsBlank (n : ℕ) (t : Tally) : Type 0 where
  pub size : HasSize n t
  pub moves : (k : ℕ) → slice_index t.moves k ≡ 0
  pub births : (k : ℕ) → slice_index t.births k ≡ 0
  pub posts : (k : ℕ) → slice_index t.posts k ≡ 0
  pub dones : (k : ℕ) → slice_index t.dones k ≡ 0

-- No event counts anything twice, so no count is over the stamp.
pub record IsBounded (stamp : ℕ) (t : Tally) : Type 0 where
  pub moves : (k : ℕ) → slice_index t.moves k ≤ stamp
  pub births : (k : ℕ) → slice_index t.births k ≤ stamp
  pub posts : (k : ℕ) → slice_index t.posts k ≤ stamp
  pub dones : (k : ℕ) → slice_index t.dones k ≤ stamp

-- What is counted, with the counts that are of no other nodelet.
abbrev pub tallies_of : Tally → Counts3 → Tallies
tallies_of t counts = record {
  moves = slice_index t.moves;
  births = slice_index t.births;
  posts = slice_index t.posts;
  dones = slice_index t.dones;
  applied = counts.applied;
  sent_contexts = counts.sent_contexts;
}
