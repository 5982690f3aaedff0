-- The order of events in a serial run: each is picked among the legal ones by a word of a generator.
use Rattle.std.specs.Prelude.{◌≡◌, ◌⊎◌, ℕ, List, [], ◌∷◌, ◌%◌, length, slice_get, Bool, true, false, is_some, Option, Some}
use Rattle.std.specs.List.{list_any}
use Rattle.rand_core.specs.Pcg32Seed.{pcg32_seed}
use Rattle.rand_pcg.specs.Lcg.{Lcg}
use Rattle.rand_pcg.specs.Pcg.{pcg32, pcg32_of_seed}
use Rattle.word_ops.specs.Report.{below}
use Rattle.merge_law.specs.declared.event.Event.{Event}
use Rattle.merge_law.specs.Core.{After, after}
use Rattle.core_model.specs.Nodes.{Setup, Node}
use Rattle.core_model.specs.Machine.{Packet, machine_of}
use Rattle.core_model.specs.Core.{Core, legal_events}

-- The generator of a seed.
abbrev pub generator_of : ℕ → Lcg
generator_of seed = pcg32_of_seed (pcg32_seed 16 seed)

-- The event that a word picks among the legal ones.
abbrev pub picked : Setup → Core → ℕ → Option Event
picked u c word = let events = legal_events u c in slice_get events (word % length events)

-- A strand has trapped at some nodelet.
abbrev pub has_trapped : Setup → Core → Bool
has_trapped u c = list_any (λ k. is_some (c.nodes k).first_trap) (below u.nodelets)

-- From a core on, each event is the one that the next word picks, up to one that traps, or to where none is legal.
abbrev pub IsPicked : Setup → Lcg → Core → List Event → Type 0
IsPicked u g c [] = (has_trapped u c ≡ true) ⊎ (legal_events u c ≡ [])
IsPicked u g c (event ∷ events) =
    (has_trapped u c ≡ false) × (picked u c (pcg32 g).0 ≡ Some event)
    × (left : After Node Packet) × (after (machine_of u) c event ≡ Some left) × IsPicked u (pcg32 g).1 left.core events

-- There is one such list of events at most.
abbrev pub OneSchedule : Type 0
OneSchedule = (u : Setup) (g : Lcg) (c : Core) (events others : List Event) → IsPicked u g c events → IsPicked u g c others → events ≡ others
