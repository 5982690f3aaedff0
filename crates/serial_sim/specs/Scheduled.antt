-- The serial run of a seed.
use Rattle.std.specs.Prelude.{◌≡◌, ℕ, List}
use Rattle.merge_law.specs.declared.event.Event.{Event}
use Rattle.merge_law.specs.Core.{Played}
use Rattle.merge_law.specs.Merge.{steps_of}
use Rattle.world_model.specs.Cells.{AreCells}
use Rattle.traffic_report.specs.declared.run.Ran.{Ran}
use Rattle.core_model.specs.Nodes.{Setup, Node}
use Rattle.core_model.specs.Machine.{Packet}
use Rattle.core_model.specs.Core.{start_core}
use Rattle.core_model.specs.CoreEnd.{end_in_core}
use Rattle.core_model.specs.Counted.{traffic_in}
use Rattle.core_model.specs.Laws.{IsPlayed, parts_of}
use Rattle.sim_core.specs.Shown.{cells_in}
use Rattle.serial_sim.specs.Schedule.{generator_of, IsPicked}

-- The events that the words of a seed pick happen, from the start to the end. The run has their steps, their entries
-- by nodelet, and the end, output, words and traffic of the core that they lead to.
pub record IsScheduled (u : Setup) (seed : ℕ) (ran : Ran) : Type 0 where
  pub events : List Event
  pub played : Played Node Packet
  pub picks : IsPicked u (generator_of seed) (start_core u) events
  pub plays : IsPlayed u events played
  pub told : ran.told ≡ steps_of played.told
  pub parts : ran.parts ≡ parts_of u.nodelets played.told
  pub end : ran.end ≡ end_in_core u played.core
  pub out : ran.out ≡ (played.core.nodes 0).pieces
  pub cells : AreCells (cells_in played.core) ran.cells
  pub traffic : ran.traffic ≡ traffic_in u played.core
