-- What holds of every list of events that is legal from the start.
use Rattle.std.specs.Prelude.{◌≡◌, ◌≢◌, ◌≤◌, ◌<◌, ◌↔◌, ◌⊎◌, ℕ, List, ◌∷◌, map, true, Some, None, IsSome, Contains, AllPairs}
use Rattle.word_ops.specs.declared.name.Name.{Name}
use Rattle.word_ops.specs.declared.step.Entry.{Entry}
use Rattle.word_ops.specs.Report.{below}
use Rattle.merge_law.specs.declared.event.Event.{Event}
use Rattle.merge_law.specs.Machine.{last_stamp}
use Rattle.merge_law.specs.Events.{Placed}
use Rattle.merge_law.specs.Core.{After, Played, after, play}
use Rattle.merge_law.specs.Merge.{steps_of, entries_of}
use Rattle.threadlet_code.specs.Breaches.{is_sound}
use Rattle.world_model.specs.World.{Setting, Live, Strand, World, strand_of, value_of, main_name}
use Rattle.world_model.specs.Run.{start, run_of, end_of, first_trap, lacks_turn, Rest}
use Rattle.world_model.specs.Traffic.{traffic_of}
use Rattle.core_model.specs.Nodes.{Setup, Node}
use Rattle.core_model.specs.Takes.{can_come}
use Rattle.core_model.specs.Machine.{Packet, machine_of}
use Rattle.core_model.specs.Core.{Core, start_core, setting_of, census}
use Rattle.core_model.specs.Agreement.{SharesAll, ContextsAreOf, PendingTravels}
use Rattle.core_model.specs.Reached.{reached, first_trapped}
use Rattle.core_model.specs.Counted.{traffic_in}
use Rattle.core_model.specs.Rank.{rank}

-- Events are legal one after the other from the start, and lead to this.
abbrev pub IsPlayed : Setup → List Event → Played Node Packet → Type 0
IsPlayed u events played = play (machine_of u) events (start_core u) ≡ Some played

-- ---- runs

-- Main has ended exactly where a nodelet keeps its value, and with that value.
abbrev pub KeepsMainValue : Setup → Core → World → Type 0
KeepsMainValue u c w =
    ((k : ℕ) (value : _) → (c.nodes k).main_value ≡ Some value → value_of w main_name ≡ Some value)
    × ((value : _) → value_of w main_name ≡ Some value → (k : ℕ) × (k < u.nodelets) × ((c.nodes k).main_value ≡ Some value))

-- The steps of legal events are a run of a meaning, to a world that shares with the core what they have in common.
pub record IsRunOfEvents (u : Setup) (on : Setting) (played : Played Node Packet) : Type 0 where
  pub world : World
  pub leads_to : run_of on (steps_of played.told) ≡ Some world
  pub shares : SharesAll u played.core world
  pub contexts : ContextsAreOf u on played.core world
  pub pending : PendingTravels played.core world
  pub main_value : KeepsMainValue u played.core world

-- They are one of the code's meaning.
abbrev pub EventsAreRun : Type 0
EventsAreRun = (u : Setup) → is_sound u.code ≡ true → 1 ≤ u.nodelets → u.nodelets ≤ 64 → (events : List Event) (played : Played Node Packet) →
    IsPlayed u events played → IsRunOfEvents u (setting_of u) played

-- ---- the census

-- A name is that of a strand that lives.
abbrev pub IsLiveIn : World → Name → Type 0
IsLiveIn w name = (s : Strand) × (strand_of w name ≡ Some s) × (s.status ≡ Live)

-- The census names exactly the strands that live in the world that legal events lead to.
abbrev pub CensusIsLive : Type 0
CensusIsLive = (u : Setup) → is_sound u.code ≡ true → 1 ≤ u.nodelets → (events : List Event) (played : Played Node Packet) → IsPlayed u events played →
    (w : World) × (run_of (setting_of u) (steps_of played.told) ≡ Some w) × ((name : Name) → Contains (census u played.core) name ↔ IsLiveIn w name)

-- The census names no strand twice.
abbrev pub CensusNamesOnce : Type 0
CensusNamesOnce = (u : Setup) → is_sound u.code ≡ true → 1 ≤ u.nodelets → (events : List Event) (played : Played Node Packet) → IsPlayed u events played →
    AllPairs (λ p q. p ≢ q) (census u played.core)

-- ---- packets

-- The first packet on a link can come to the nodelet that it goes to.
abbrev pub FirstCanCome : Type 0
FirstCanCome = (u : Setup) → is_sound u.code ≡ true → 1 ≤ u.nodelets → (events : List Event) (played : Played Node Packet) → IsPlayed u events played →
    (from to : ℕ) (p : Packet) (rest : List Packet) → played.core.links from to ≡ p ∷ rest → can_come u to (played.core.nodes to) p.body ≡ true

-- ---- what nodelets keep of the steps

-- Each nodelet keeps the first trap that the entries tell of at it.
abbrev pub TellsFirstTraps : Setting → Played Node Packet → Type 0
TellsFirstTraps on played = (k : ℕ) → (played.core.nodes k).first_trap ≡ first_trapped k (reached on (start on) played.told)

abbrev pub FirstTrapsAreTold : Type 0
FirstTrapsAreTold = (u : Setup) → is_sound u.code ≡ true → 1 ≤ u.nodelets → (events : List Event) (played : Played Node Packet) → IsPlayed u events played →
    TellsFirstTraps (setting_of u) played

-- The nodelets have counted the traffic of the run.
abbrev pub CountsTraffic : Setup → Setting → Played Node Packet → Type 0
CountsTraffic u on played = traffic_in u played.core ≡ traffic_of on (steps_of played.told)

abbrev pub CountsAreTraffic : Type 0
CountsAreTraffic = (u : Setup) → is_sound u.code ≡ true → 1 ≤ u.nodelets → (events : List Event) (played : Played Node Packet) → IsPlayed u events played →
    CountsTraffic u (setting_of u) played

-- ---- ends

-- No event is legal.
abbrev pub IsStill : Setup → Core → Type 0
IsStill u c = (event : Event) → after (machine_of u) c event ≡ None

abbrev pub MainHasEnded : World → Type 0
MainHasEnded w = IsSome (value_of w main_name)

-- A live strand is due a Turn at a nodelet where all turns are served.
abbrev pub TurnsAreSpent : Setting → World → Type 0
TurnsAreSpent on w = (k : ℕ) × (k < on.nodelets) × (lacks_turn on w k ≡ true)

-- A strand has trapped, or a nodelet has the last stamp, or no step is possible any more, and besides main has ended or
-- turns are spent.
abbrev pub HasEnded : Setup → Setting → Played Node Packet → Type 0
HasEnded u on played =
    IsSome (first_trap on (steps_of played.told))
    ⊎ (((k : ℕ) × (k < u.nodelets) × ((played.core.nodes k).stamp ≡ last_stamp))
    ⊎ ((w : World) × (run_of on (steps_of played.told) ≡ Some w) × Rest on w × (MainHasEnded w ⊎ TurnsAreSpent on w)))

-- A core in which no event is legal has come to an end.
abbrev pub NeverStuck : Type 0
NeverStuck = (u : Setup) → is_sound u.code ≡ true → 1 ≤ u.nodelets → (events : List Event) (played : Played Node Packet) → IsPlayed u events played →
    IsStill u played.core → HasEnded u (setting_of u) played

-- The entries of each of n nodelets.
abbrev pub parts_of : ℕ → List Placed → List (List Entry)
parts_of n told = map (λ k. entries_of k told) (below n)

-- Then the run has an ending.
abbrev pub RunsEnd : Type 0
RunsEnd = (u : Setup) → is_sound u.code ≡ true → 1 ≤ u.nodelets → (events : List Event) (played : Played Node Packet) → IsPlayed u events played →
    IsStill u played.core → IsSome (end_of (setting_of u) (steps_of played.told) (parts_of u.nodelets played.told))

-- Each event lowers the rank, so events that follow each other are no more than the rank at the start.
abbrev pub EventsLowerRank : Type 0
EventsLowerRank = (u : Setup) → is_sound u.code ≡ true → 1 ≤ u.nodelets → (events : List Event) (played : Played Node Packet) → IsPlayed u events played →
    (event : Event) (left : After Node Packet) → after (machine_of u) played.core event ≡ Some left → rank u left.core < rank u played.core
