-- How far a serial run has come.
use Rattle.std.specs.Prelude.{◌≡◌, ◌⊎◌, ℕ, List, [], ◌++◌, Option, Some, None, true, false, option_to_list}
use Rattle.rand_pcg.specs.Lcg.{Lcg}
use Rattle.rand_pcg.specs.Pcg.{pcg32}
use Rattle.word_ops.specs.declared.step.Step.{Step}
use Rattle.merge_law.specs.declared.event.Event.{Event}
use Rattle.merge_law.specs.Core.{Played}
use Rattle.merge_law.specs.Merge.{steps_of, entries_of}
use Rattle.threadlet_code.specs.declared.code.Code.{Code}
use Rattle.core_model.specs.Nodes.{Setup, Node}
use Rattle.core_model.specs.Machine.{Packet}
use Rattle.sim_core.specs.declared.machine.Core.{Core as Kept}
use Rattle.core_model.specs.Core.{Core, start_core, legal_events}
use Rattle.sim_core.specs.Kept.{setup_in, core_in}
use Rattle.core_model.specs.Laws.{IsPlayed}
use Rattle.sim_core.specs.Advanced.{HasAdvanced, entries_at}
use Rattle.serial_sim.specs.Schedule.{generator_of, picked, has_trapped, IsPicked}

-- No further event is to happen.
abbrev pub IsOver : Setup → Core → Type 0
IsOver u c = (has_trapped u c ≡ true) ⊎ (legal_events u c ≡ [])

-- What a choice answers: the event that the next word picks, which is drawn, or none where no further one is to happen.
abbrev pub IsChosen : Setup → Core → Lcg → Lcg → Option Event → Type 0
IsChosen u c before after None = IsOver u c
IsChosen u c before after (Some event) = (has_trapped u c ≡ false) × (picked u c (pcg32 before).0 ≡ Some event) × (after ≡ (pcg32 before).1)

-- A legal event has happened, and its step, if it has one, is told behind the others.
pub record HasHappened (code : Code) (before after : Kept) (event : Event) (earlier later : List Step) : Type 0 where
  pub advanced : HasAdvanced code before after event
  pub told : later ≡ earlier ++ option_to_list advanced.left.entry.entry.step

-- A core to which the schedule of a seed has led, with the steps told of and the generator for what follows.
pub record IsGoing (code : Code) (seed : ℕ) (u : Setup) (kept : Kept) (generator : Lcg) (told : List Step) : Type 0 where
  pub setup : setup_in code kept ≡ u
  pub events : List Event
  pub played : Played Node Packet
  pub plays : IsPlayed u events played
  pub core : core_in code kept ≡ played.core
  pub steps : told ≡ steps_of played.told
  pub entries : (k : ℕ) → entries_at kept k ≡ entries_of k played.told
  pub goes_on : (rest : List Event) → IsPicked u generator played.core rest → IsPicked u (generator_of seed) (start_core u) (events ++ rest)

-- It has come to its end.
pub record HasGone (code : Code) (seed : ℕ) (u : Setup) (kept : Kept) (told : List Step) : Type 0 where
  pub generator : Lcg
  pub going : IsGoing code seed u kept generator told
  pub over : IsOver u (core_in code kept)
