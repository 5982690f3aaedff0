-- What holds of a program and of code that implements it.
use Rattle.std.specs.Prelude.{◌≡◌, ◌≢◌, ◌≤◌, ◌↔◌, List, true, Some, IsSome, Contains, AllPairs}
use Rattle.word_ops.specs.declared.name.Name.{Name}
use Rattle.word_ops.specs.declared.step.Step.{Step}
use Rattle.word_ops.specs.declared.step.Entry.{Entry}
use Rattle.merge_law.specs.declared.event.Event.{Event}
use Rattle.merge_law.specs.Core.{Played}
use Rattle.merge_law.specs.Merge.{steps_of}
use Rattle.cilk_ast.specs.declared.program.Program.{Program}
use Rattle.threadlet_code.specs.Breaches.{is_sound}
use Rattle.codegen_expr.specs.Implements.{Implements}
use Rattle.world_model.specs.World.{World}
use Rattle.world_model.specs.Run.{start, run_of, transitions, end_of}
use Rattle.world_model.specs.Traffic.{traffic_of}
use Rattle.traffic_report.specs.declared.run.Ran.{Ran}
use Rattle.traffic_report.specs.Runs.{IsWholeRun}
use Rattle.core_model.specs.Nodes.{Setup, Node}
use Rattle.core_model.specs.Machine.{Packet}
use Rattle.core_model.specs.Core.{setting_of, census}
use Rattle.core_model.specs.Agreement.{PendingTravels}
use Rattle.core_model.specs.Laws.{IsPlayed, IsRunOfEvents, IsLiveIn, TellsFirstTraps, CountsTraffic, IsStill, HasEnded, parts_of}
use Rattle.refine.specs.Programs.{program_on}

-- ---- runs of the code and of the program

-- The same steps are a run of both, to the same worlds, with the same end and the same traffic.
pub record AreAlike (u : Setup) (program : Program) (told : List Step) : Type 0 where
  pub worlds : run_of (setting_of u) told ≡ run_of (program_on u program) told
  pub transitions : transitions (setting_of u) (start (setting_of u)) told ≡ transitions (program_on u program) (start (program_on u program)) told
  pub ends : (parts : List (List Entry)) → end_of (setting_of u) told parts ≡ end_of (program_on u program) told parts
  pub traffic : traffic_of (setting_of u) told ≡ traffic_of (program_on u program) told

abbrev pub RunsAlike : Type 0
RunsAlike = (u : Setup) (program : Program) → is_sound u.code ≡ true → Implements u.code program → (told : List Step) → AreAlike u program told

-- ---- events

-- The steps of legal events are a run of the program, nodelets keep its first traps, and they have counted its traffic.
pub record IsRunOfProgram (u : Setup) (program : Program) (played : Played Node Packet) : Type 0 where
  pub run : IsRunOfEvents u (program_on u program) played
  pub traps : TellsFirstTraps (program_on u program) played
  pub traffic : CountsTraffic u (program_on u program) played

abbrev pub EventsAreRunOfProgram : Type 0
EventsAreRunOfProgram = (u : Setup) (program : Program) → is_sound u.code ≡ true → Implements u.code program → 1 ≤ u.nodelets → u.nodelets ≤ 64 →
    (events : List Event) (played : Played Node Packet) → IsPlayed u events played → IsRunOfProgram u program played

-- The census names exactly the strands that live in the program's run, none of them twice, and what a strand has pending
-- is what is on the link from its place.
pub record IsCensus (u : Setup) (program : Program) (played : Played Node Packet) : Type 0 where
  pub world : World
  pub leads_to : run_of (program_on u program) (steps_of played.told) ≡ Some world
  pub lives : (name : Name) → Contains (census u played.core) name ↔ IsLiveIn world name
  pub once : AllPairs (λ p q. p ≢ q) (census u played.core)
  pub pending : PendingTravels played.core world

abbrev pub CensusIsOfProgram : Type 0
CensusIsOfProgram = (u : Setup) (program : Program) → is_sound u.code ≡ true → Implements u.code program → 1 ≤ u.nodelets → u.nodelets ≤ 64 →
    (events : List Event) (played : Played Node Packet) → IsPlayed u events played → IsCensus u program played

-- A core in which no event is legal has come to an end of the program's run.
abbrev pub ProgramNeverStuck : Type 0
ProgramNeverStuck = (u : Setup) (program : Program) → is_sound u.code ≡ true → Implements u.code program → 1 ≤ u.nodelets →
    (events : List Event) (played : Played Node Packet) → IsPlayed u events played → IsStill u played.core → HasEnded u (program_on u program) played

-- Then the program's run has an ending.
abbrev pub ProgramRunsEnd : Type 0
ProgramRunsEnd = (u : Setup) (program : Program) → is_sound u.code ≡ true → Implements u.code program → 1 ≤ u.nodelets →
    (events : List Event) (played : Played Node Packet) → IsPlayed u events played → IsStill u played.core →
    IsSome (end_of (program_on u program) (steps_of played.told) (parts_of u.nodelets played.told))

-- ---- records

-- What is recorded of a run of the code is recorded of the same run of the program.
abbrev pub RecordsAlike : Type 0
RecordsAlike = (u : Setup) (program : Program) → is_sound u.code ≡ true → Implements u.code program → (ran : Ran) →
    IsWholeRun (setting_of u) ran → IsWholeRun (program_on u program) ran
