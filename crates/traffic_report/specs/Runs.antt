-- What a record says of the run that it is of.
use Rattle.std.specs.Prelude.{◌≡◌, ◌≤◌, ◌⊎◌, ℕ, List, All, length, sum_by, Some, IsSome}
use Rattle.word_ops.specs.declared.step.Entry.{Entry}
use Rattle.world_model.specs.World.{Setting, World}
use Rattle.world_model.specs.Run.{run_of, end_of, first_trap, spent_stamps, Rest}
use Rattle.world_model.specs.Traffic.{traffic_of}
use Rattle.world_model.specs.Cells.{AreCells}
use Rattle.traffic_report.specs.declared.run.Ran.{Ran}

-- The recorded steps lead from the start to a world, of which the output and the words are recorded; the traffic and
-- the end are those of the steps.
pub record IsRun (on : Setting) (ran : Ran) : Type 0 where
  pub world : World
  pub leads_to : run_of on ran.told ≡ Some world
  pub out : ran.out ≡ world.pieces
  pub cells : AreCells world.cells ran.cells
  pub traffic : ran.traffic ≡ traffic_of on ran.told
  pub ends_so : end_of on ran.told ran.parts ≡ Some ran.end

-- A run that leads to a world is not cut short: a strand has trapped, a nodelet has spent its stamps, or no step is
-- possible any more.
abbrev pub IsNotCutShort : Setting → World → Ran → Type 0
IsNotCutShort on world ran = IsSome (first_trap on ran.told) ⊎ (IsSome (spent_stamps ran.parts) ⊎ Rest on world)

-- No stamp is more than the number of all entries.
abbrev pub StampsAreCounted : List (List Entry) → Type 0
StampsAreCounted parts = All (λ part. All (λ (entry : Entry). entry.stamp ≤ sum_by length parts) part) parts

-- A run that is not cut short is recorded, and no stamp is more than the number of all entries.
pub record IsWholeRun (on : Setting) (ran : Ran) : Type 0 where
  pub run : IsRun on ran
  pub whole : IsNotCutShort on run.world ran
  pub stamps : StampsAreCounted ran.parts
