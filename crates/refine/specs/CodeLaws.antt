-- What holds of verified code by itself, and of a run that is written again.
use Rattle.std.specs.Prelude.{◌≡◌, ◌≤◌, List, true}
use Rattle.word_ops.specs.declared.step.Step.{Step}
use Rattle.merge_law.specs.declared.event.Event.{Event}
use Rattle.merge_law.specs.Core.{Played}
use Rattle.cilk_ast.specs.declared.program.Program.{Program}
use Rattle.threadlet_code.specs.Breaches.{is_sound}
use Rattle.codegen_expr.specs.Implements.{Implements}
use Rattle.world_model.specs.Upgrade.{upgraded}
use Rattle.core_model.specs.Nodes.{Setup, Node}
use Rattle.core_model.specs.Machine.{Packet}
use Rattle.core_model.specs.Core.{setting_of}
use Rattle.core_model.specs.Laws.{IsPlayed, IsRunOfEvents, TellsFirstTraps, CountsTraffic, IsStill, HasEnded}
use Rattle.core_model.specs.Strands.{NothingIsMissing}
use Rattle.refine.specs.Programs.{program_on}

-- ---- code without a program

-- The steps of legal events are a run of the code's own meaning, nodelets keep its first traps and have counted its
-- traffic, and no event meets an instruction, an operand, a slot or a target that is missing.
pub record IsRunOfCode (u : Setup) (played : Played Node Packet) : Type 0 where
  pub run : IsRunOfEvents u (setting_of u) played
  pub traps : TellsFirstTraps (setting_of u) played
  pub traffic : CountsTraffic u (setting_of u) played
  pub nothing_missing : NothingIsMissing u played.core

abbrev pub EventsAreRunOfCode : Type 0
EventsAreRunOfCode = (u : Setup) → is_sound u.code ≡ true → 1 ≤ u.nodelets → u.nodelets ≤ 64 →
    (events : List Event) (played : Played Node Packet) → IsPlayed u events played → IsRunOfCode u played

-- A core in which no event is legal has come to an end of the code's run.
abbrev pub CodeNeverStuck : Type 0
CodeNeverStuck = (u : Setup) → is_sound u.code ≡ true → 1 ≤ u.nodelets →
    (events : List Event) (played : Played Node Packet) → IsPlayed u events played → IsStill u played.core → HasEnded u (setting_of u) played

-- ---- runs that are written again

-- Code and the program that it implements have the same runs written again, or change at the same step.
abbrev pub UpgradesAlike : Type 0
UpgradesAlike = (u : Setup) (program : Program) → is_sound u.code ≡ true → Implements u.code program → (told : List Step) →
    upgraded (setting_of u) told ≡ upgraded (program_on u program) told
