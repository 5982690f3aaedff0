-- What an event counts.
use Rattle.std.specs.Prelude.{◌≡◌, ◌<◌, ◌≤◌, ◌+◌, ◌^◌, ◌==◌, ℕ, suc, List, [], ◌∷◌, length, slice_index, if◌then◌else◌, Bool, true, false, Option, Some, None}
use Rattle.word_ops.specs.Report.{below}
use Rattle.nodelet_core.specs.declared.counting.Counted.{Counted}
use Rattle.nodelet_core.specs.declared.counting.Posts.{Posts}
use Rattle.nodelet_core.specs.declared.counting.Posts.TheVariants as posts
use Rattle.nodelet_core.specs.declared.tally.Tally.{Tally}
use Rattle.core_model.specs.Nodes.{Node, one_more, with_turn, moved_from, bore_at, posted_to, ended_for, applied_here, sent_away}
use Rattle.core_model.specs.Effects.{for_each}

-- Something happens to a nodelet, or nothing does.
abbrev pub where_so : Bool → (Node → Node) → Node → Node
where_so true change v = change v
where_so false change v = v

-- Something is counted for a number, if there is one.
abbrev pub at_number : Option ℕ → (ℕ → Node → Node) → Node → Node
at_number None count v = v
at_number (Some k) count v = count k v

-- Operations are counted as posted.
abbrev pub with_posts : ℕ → Posts → Node → Node
with_posts n posts.Nowhere v = v
with_posts n (posts.To k) v = posted_to k v
with_posts n posts.ToAll v = for_each (below n) posted_to v

-- One more strand is spawned.
abbrev pub with_number : Node → Node
with_number v = record v { next_number = suc v.next_number }

-- All that an event counts at nodelet `here` of n.
abbrev pub counted : ℕ → ℕ → Counted → Node → Node
counted n here c v =
    at_number c.moved_from (moved_from here) (at_number c.ended_for ended_for (with_posts n c.posts (at_number c.bore_at bore_at
    (where_so c.spawned with_number (where_so c.sent_away sent_away (where_so c.applied applied_here (where_so c.turn with_turn v)))))))

-- A number, if there is one, is under n.
abbrev pub IsUnder : ℕ → Option ℕ → Type 0
IsUnder n k = (i : ℕ) → k ≡ Some i → i < n

abbrev pub are_posted : Posts → Option ℕ
are_posted posts.Nowhere = None
are_posted (posts.To k) = Some k
are_posted posts.ToAll = None

-- What is counted names nodelets among n.
pub record NamesAmong (n : ℕ) (c : Counted) : Type 0 where
  pub moved_from : IsUnder n c.moved_from
  pub ended_for : IsUnder n c.ended_for
  pub posts : IsUnder n (are_posted c.posts)
  pub bore_at : IsUnder n c.bore_at

-- ---- the same of numbers and of lists of them

abbrev pub one_more_where : Bool → ℕ → ℕ
one_more_where true count = suc count
one_more_where false count = count

-- Another nodelet that a strand came from.
abbrev pub elsewhere : ℕ → Option ℕ → Option ℕ
elsewhere here None = None
elsewhere here (Some k) = if k == here then None else Some k

-- One more at a number, if there is one.
abbrev pub with_one : Option ℕ → (ℕ → ℕ) → ℕ → ℕ
with_one None counts = counts
with_one (Some k) counts = one_more counts k

-- One more at each of some numbers.
abbrev pub with_all : List ℕ → (ℕ → ℕ) → ℕ → ℕ
with_all [] counts = counts
with_all (k ∷ ks) counts = with_all ks (one_more counts k)

abbrev pub with_posted : ℕ → Posts → (ℕ → ℕ) → ℕ → ℕ
with_posted n posts.Nowhere counts = counts
with_posted n (posts.To k) counts = one_more counts k
with_posted n posts.ToAll counts = with_all (below n) counts

-- No count is the last that there is.
abbrev pub HasRoom : List ℕ → Type 0
HasRoom counts = (i : ℕ) → slice_index counts i + 1 < 2 ^ 64

-- No count has grown by more than one.
pub record HasGrown (before after : List ℕ) : Type 0 where
  pub size : length after ≡ length before
  pub bound : (i : ℕ) → slice_index after i ≤ suc (slice_index before i)

-- A tally has counted an event at nodelet `here` of n.
pub record HasCounted (n here : ℕ) (c : Counted) (before after : Tally) : Type 0 where
  pub moves : slice_index after.moves ≡ with_one (elsewhere here c.moved_from) (slice_index before.moves)
  pub births : slice_index after.births ≡ with_one c.bore_at (slice_index before.births)
  pub posts : slice_index after.posts ≡ with_posted n c.posts (slice_index before.posts)
  pub dones : slice_index after.dones ≡ with_one c.ended_for (slice_index before.dones)
