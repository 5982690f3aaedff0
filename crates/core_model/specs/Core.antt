-- All nodelets of a run, and the links between them.
use Rattle.std.specs.Prelude.{ℕ, List, [], ◌++◌, map, filter, filter_map, flat_map, Bool, is_some, Option, Some, None}
use Rattle.word_ops.specs.declared.name.Name.{Name}
use Rattle.word_ops.specs.Report.{below}
use Rattle.merge_law.specs.declared.event.Event.{Event}
use Rattle.merge_law.specs.declared.event.Event.TheVariants.{Run, Take}
use Rattle.merge_law.specs.Core as merge
use Rattle.world_model.specs.World.{Setting}
use Rattle.threadlet_code.specs.Running.{meaning_of}
use Rattle.core_model.specs.Contexts.{Body, Arrival}
use Rattle.core_model.specs.Nodes.{Setup, Node}
use Rattle.core_model.specs.Start.{start_node}
use Rattle.core_model.specs.Machine.{Packet, machine_of}

abbrev pub Core : Type 0
Core = merge.Core Node Packet

-- Before any event the links are empty.
abbrev pub start_core : Setup → Core
start_core u = record { nodes = start_node u; links = λ origin k. [] }

-- What the code means on the nodelets and turns of a run, under its rules.
abbrev pub setting_of : Setup → Setting
setting_of u = record { meaning = meaning_of u.code; nodelets = u.nodelets; turns = u.turns; rules = u.rules }

-- An event is legal where it leaves a core.
abbrev pub is_legal : Setup → Core → Event → Bool
is_legal u c event = is_some (merge.after (machine_of u) c event)

-- The legal runs of the contexts at a nodelet, by name, and its legal takes, by origin.
abbrev pub runs_at : Setup → Core → ℕ → List Event
runs_at u c k = filter (is_legal u c) (map (λ x. Run k x.name) (c.nodes k).contexts)

abbrev pub takes_at : Setup → Core → ℕ → List Event
takes_at u c k = filter (is_legal u c) (map (λ origin. Take origin k) (below u.nodelets))

-- The legal events by nodelet, in each nodelet first its runs, then its takes.
abbrev pub legal_events : Setup → Core → List Event
legal_events u c = flat_map (λ k. runs_at u c k ++ takes_at u c k) (below u.nodelets)

-- ---- whose contexts there are

-- The name of a strand that travels.
abbrev pub traveller : Body → Option Name
traveller (Arrival x) = Some x.name
traveller _ = None

-- The names of the contexts at all nodelets in order, and then on all links in order.
abbrev pub census : Setup → Core → List Name
census u c =
    flat_map (λ k. map (λ x. x.name) (c.nodes k).contexts) (below u.nodelets)
    ++ flat_map (λ origin. flat_map (λ k. filter_map (λ p. traveller p.body) (c.links origin k)) (below u.nodelets)) (below u.nodelets)
