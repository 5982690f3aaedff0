-- Events that follow events, and which events the list of legal ones has.
use Rattle.std.specs.Prelude.{◌≡◌, List, [], ◌∷◌, ◌++◌, true, Some, Contains}
use Rattle.merge_law.specs.declared.event.Event.{Event}
use Rattle.merge_law.specs.Core.{After, Played, after, play}
use Rattle.core_model.specs.Nodes.{Setup, Node}
use Rattle.core_model.specs.Machine.{Packet, machine_of}
use Rattle.core_model.specs.Core.{Core, is_legal, legal_events}
use Rattle.core_model.specs.Laws.{IsStill}

-- Where events lead to a core and more events go on from it, all of them lead where those do, and tell of both.
abbrev pub EventsGoOn : Type 0
EventsGoOn = (u : Setup) (c : Core) (events more : List Event) (played rest : Played Node Packet) →
    play (machine_of u) events c ≡ Some played → play (machine_of u) more played.core ≡ Some rest →
    play (machine_of u) (events ++ more) c ≡ Some (record { core = rest.core; told = played.told ++ rest.told })

-- So does one event more.
abbrev pub EventGoesOn : Type 0
EventGoesOn = (u : Setup) (c : Core) (events : List Event) (played : Played Node Packet) (event : Event) (left : After Node Packet) →
    play (machine_of u) events c ≡ Some played → after (machine_of u) played.core event ≡ Some left →
    play (machine_of u) (events ++ event ∷ []) c ≡ Some (record { core = left.core; told = played.told ++ left.entry ∷ [] })

-- The list of legal events has every one of them.
abbrev pub LegalIsListed : Type 0
LegalIsListed = (u : Setup) (c : Core) (event : Event) → is_legal u c event ≡ true → Contains (legal_events u c) event

-- So where it is empty no event is legal.
abbrev pub NoneListedIsStill : Type 0
NoneListedIsStill = (u : Setup) (c : Core) → legal_events u c ≡ [] → IsStill u c
