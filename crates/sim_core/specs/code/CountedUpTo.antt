-- The traffic of the nodelets before one.
use Rattle.std.specs.Prelude.{◌≡◌, ℕ, map, flat_map}
use Rattle.word_ops.specs.declared.traffic.Traffic.{Traffic}
use Rattle.word_ops.specs.Report.{below}
use Rattle.core_model.specs.Core.{Core}

-- What each nodelet before a number has counted, but for moves.
pub record IsCountedUpTo (n : ℕ) (c : Core) (k : ℕ) (t : Traffic) : Type 0 where
  pub births : t.births ≡ flat_map (λ i. map (c.nodes i).tallies.births (below n)) (below k)
  pub posts : t.posts ≡ flat_map (λ i. map (c.nodes i).tallies.posts (below n)) (below k)
  pub dones : t.dones ≡ flat_map (λ i. map (c.nodes i).tallies.dones (below n)) (below k)
  pub turns : t.turns ≡ map (λ i. (c.nodes i).served) (below k)
  pub applied : t.applied ≡ map (λ i. (c.nodes i).tallies.applied) (below k)
