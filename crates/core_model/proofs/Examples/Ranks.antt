-- How the rank falls, event by event, computed.
use Rattle.std.proofs.Common.{◌≡◌, ℕ, List, [], ◌∷◌, refl, Option, Some, option_map, option_and_then}
use Rattle.merge_law.specs.declared.event.Event.{Event}
use Rattle.merge_law.specs.Core.{after}
use Rattle.core_model.specs.Nodes.{Setup}
use Rattle.core_model.specs.Machine.{machine_of}
use Rattle.core_model.specs.Core.{Core, start_core}
use Rattle.core_model.specs.Rank.{rank}
use Rattle.core_model.proofs.Examples.Events.{stores, all_events}

-- The rank of a core, and after each of the events.
abbrev ranks : Setup → List Event → Core → Option (List ℕ)
ranks u [] c = Some (rank u c ∷ [])
ranks u (event ∷ events) c = option_and_then (λ a. option_map (λ rest. rank u c ∷ rest) (ranks u events a.core)) (after (machine_of u) c event)

-- two stores to a word of nodelet 2, and a load of it, on eight nodelets with ten turns each
each_event_lowers_the_rank : ranks stores all_events (start_core stores) ≡
    Some (30720 ∷ 30656 ∷ 30530 ∷ 30438 ∷ 30437 ∷ 30436 ∷ 30435 ∷ 30434 ∷ 30433 ∷ 30432 ∷ 30400 ∷ 30336 ∷ [])
each_event_lowers_the_rank = refl
