-- What a core shows of the run that has led to it.
use Rattle.std.specs.Prelude.{◌≡◌, ℕ, ℤ, List, map}
use Rattle.word_ops.specs.declared.step.Step.{Step}
use Rattle.word_ops.specs.declared.step.Entry.{Entry}
use Rattle.word_ops.specs.Report.{below}
use Rattle.world_model.specs.Cells.{AreCells}
use Rattle.traffic_report.specs.declared.run.Ran.{Ran}
use Rattle.core_model.specs.Nodes.{Setup}
use Rattle.core_model.specs.Core.{Core}
use Rattle.core_model.specs.Counted.{traffic_in}
use Rattle.core_model.specs.CoreEnd.{end_in_core}

-- The word of each nodelet at each address.
abbrev pub cells_in : Core → ℕ → ℤ → ℤ
cells_in c k = (c.nodes k).cells

-- The end that the core shows, its output, words and traffic, with the steps and entries that were told of.
pub record IsShown (u : Setup) (c : Core) (told : List Step) (entries : ℕ → List Entry) (ran : Ran) : Type 0 where
  pub end : ran.end ≡ end_in_core u c
  pub told_same : ran.told ≡ told
  pub parts : ran.parts ≡ map entries (below u.nodelets)
  pub out : ran.out ≡ (c.nodes 0).pieces
  pub cells : AreCells (cells_in c) ran.cells
  pub traffic : ran.traffic ≡ traffic_in u c
