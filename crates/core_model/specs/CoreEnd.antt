-- How a run ended, read off the nodelets.
use Rattle.std.specs.Prelude.{◌≡◌, ◌≤◌, ◌<◌, ◌⊎◌, ℕ, List, [], ◌∷◌, Bool, true, ◌&&◌, ◌==◌, not, nat_lt, slice_get, find, filter_map, AllPairs, Option, Some, None, IsSome, option_map, unwrap_or}
use Rattle.std.specs.List.{list_any, best_of}
use Rattle.std.specs.Option.{option_or}
use Rattle.word_ops.specs.declared.ending.End.{End}
use Rattle.word_ops.specs.declared.ending.End.TheVariants.{Done, Trap, Spent}
use Rattle.word_ops.specs.declared.ending.SpentCause.TheVariants.{Turns, Stamps}
use Rattle.word_ops.specs.Report.{below}
use Rattle.merge_law.specs.declared.event.Event.{Event}
use Rattle.merge_law.specs.Machine.{last_stamp}
use Rattle.merge_law.specs.Core.{After, Played, after}
use Rattle.merge_law.specs.Merge.{steps_of}
use Rattle.merge_law.specs.Laws.{IsBefore}
use Rattle.threadlet_code.specs.Breaches.{is_sound}
use Rattle.threadlet_code.specs.Machine.{step}
use Rattle.world_model.specs.World.{Setting}
use Rattle.world_model.specs.Run.{is_turn, end_of}
use Rattle.core_model.specs.declared.trapped.Trapped.{Trapped}
use Rattle.core_model.specs.Contexts.{Context}
use Rattle.core_model.specs.Nodes.{Setup, Node}
use Rattle.core_model.specs.Runs.{action_in}
use Rattle.core_model.specs.Machine.{Packet, machine_of}
use Rattle.core_model.specs.Core.{Core, setting_of}
use Rattle.core_model.specs.Laws.{IsPlayed, IsStill, parts_of}

-- ---- the first trap

-- The first traps that nodelets keep, by nodelet.
abbrev pub kept_traps : Setup → Core → List Trapped
kept_traps u c = filter_map (λ k. (c.nodes k).first_trap) (below u.nodelets)

-- A trap has the lesser stamp.
abbrev pub is_earlier : Trapped → Trapped → Bool
is_earlier t other = nat_lt t.stamp other.stamp

-- The one of the least stamp, and of those the first.
abbrev pub earliest : List Trapped → Option Trapped
earliest [] = None
earliest (t ∷ ts) = Some (best_of is_earlier t ts)

abbrev pub end_by : Trapped → End
end_by t = Trap t.kind t.pos t.name

abbrev pub trap_end : Setup → Core → Option End
trap_end u c = option_map end_by (earliest (kept_traps u c))

-- ---- main's value, stamps and turns

-- Main's value, at the nodelet that keeps it.
abbrev pub value_end : Setup → Core → Option End
value_end u c = option_map (λ value. Done value) (slice_get (filter_map (λ k. (c.nodes k).main_value) (below u.nodelets)) 0)

-- The least nodelet that has the last stamp.
abbrev pub stamps_end : Setup → Core → Option End
stamps_end u c = option_map (λ k. Spent k Stamps) (find (λ k. (c.nodes k).stamp == last_stamp) (below u.nodelets))

-- A context stands at a Turn.
abbrev pub stands_at_turn : Setup → Context → Bool
stands_at_turn u x = is_turn (action_in (step u.code x.state))

-- At a nodelet a context stands at a Turn, and all turns are served.
abbrev pub lacks_turn_at : Setup → Node → Bool
lacks_turn_at u v = list_any (stands_at_turn u) v.contexts && not (nat_lt v.served u.turns)

-- The least such nodelet.
abbrev pub turns_end : Setup → Core → Option End
turns_end u c = option_map (λ k. Spent k Turns) (find (λ k. lacks_turn_at u (c.nodes k)) (below u.nodelets))

-- ---- the end

-- The first trap, by stamp and then nodelet; else main's value; else stamps that are spent, else turns. Where there
-- is none of these, turns of nodelet 0.
abbrev pub end_in_core : Setup → Core → End
end_in_core u c = unwrap_or (option_or (trap_end u c) (option_or (value_end u c) (option_or (stamps_end u c) (turns_end u c)))) (Spent 0 Turns)

-- ---- where events have come to an end

-- A strand has trapped, a nodelet has the last stamp, or no event is legal.
abbrev pub HasStopped : Setup → Core → Type 0
HasStopped u c =
    ((k : ℕ) × (k < u.nodelets) × IsSome (c.nodes k).first_trap)
    ⊎ (((k : ℕ) × (k < u.nodelets) × ((c.nodes k).stamp ≡ last_stamp)) ⊎ IsStill u c)

-- No two nodelets keep a trap.
abbrev pub TrapsAtOneNodelet : Core → Type 0
TrapsAtOneNodelet c = (j k : ℕ) → IsSome (c.nodes j).first_trap → IsSome (c.nodes k).first_trap → j ≡ k

-- The run has ended as the core shows.
abbrev pub EndIsShown : Setup → Setting → Played Node Packet → Type 0
EndIsShown u on played = end_of on (steps_of played.told) (parts_of u.nodelets played.told) ≡ Some (end_in_core u played.core)

-- So it is where events have stopped that were told in any order, with traps at one nodelet at most.
abbrev pub SerialEndIsShown : Type 0
SerialEndIsShown = (u : Setup) → is_sound u.code ≡ true → 1 ≤ u.nodelets → (events : List Event) (played : Played Node Packet) → IsPlayed u events played →
    HasStopped u played.core → TrapsAtOneNodelet played.core → EndIsShown u (setting_of u) played

-- And where they were told by stamp and then nodelet, whatever traps there were.
abbrev pub MergedEndIsShown : Type 0
MergedEndIsShown = (u : Setup) → is_sound u.code ≡ true → 1 ≤ u.nodelets → (events : List Event) (played : Played Node Packet) → IsPlayed u events played →
    HasStopped u played.core → AllPairs IsBefore played.told → EndIsShown u (setting_of u) played

-- One event makes strands trap at one nodelet at most.
abbrev pub EventTrapsAtOneNodelet : Type 0
EventTrapsAtOneNodelet = (u : Setup) (c : Core) (event : Event) (left : After Node Packet) → ((k : ℕ) → (c.nodes k).first_trap ≡ None) →
    after (machine_of u) c event ≡ Some left → TrapsAtOneNodelet left.core
