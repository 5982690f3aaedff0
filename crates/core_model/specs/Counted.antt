-- The traffic that nodelets have counted.
use Rattle.std.specs.Prelude.{ℕ, List, map, flat_map}
use Rattle.word_ops.specs.declared.traffic.Traffic.{Traffic}
use Rattle.word_ops.specs.Report.{below}
use Rattle.core_model.specs.Nodes.{Setup}
use Rattle.core_model.specs.Core.{Core}

-- Counts by pairs of numbers under n, row by row.
abbrev pub by_pairs : ℕ → (ℕ → ℕ → ℕ) → List ℕ
by_pairs n count = flat_map (λ i. map (count i) (below n)) (below n)

-- The traffic of a core: the nodelet at which a strand comes to act counts the move from i to j, and nodelet i all
-- else.
abbrev pub traffic_in : Setup → Core → Traffic
traffic_in u c =
    let n = u.nodelets in
    record {
      n = n;
      moves = by_pairs n (λ i j. (c.nodes j).tallies.moves i);
      births = by_pairs n (λ i. (c.nodes i).tallies.births);
      posts = by_pairs n (λ i. (c.nodes i).tallies.posts);
      dones = by_pairs n (λ i. (c.nodes i).tallies.dones);
      turns = map (λ k. (c.nodes k).served) (below n);
      applied = map (λ k. (c.nodes k).tallies.applied) (below n);
    }
