-- What a core is that the code keeps.
use Rattle.std.specs.Prelude.{ℕ, List, [], map, Bool, ◌&&◌, slice_get, Option, Some, None}
use Rattle.std.specs.List.{list_all}
use Rattle.threadlet_code.specs.declared.code.Code.{Code}
use Rattle.threadlet_state.specs.declared.packet.Packet as sent
use Rattle.nodelet_core.specs.declared.nodelet.Nodelet.{Nodelet}
use Rattle.core_model.specs.Nodes.{Setup, Node}
use Rattle.core_model.specs.Start.{start_node}
use Rattle.nodelet_core.specs.Kept.{node_of, packet_in, all_fit, packet_fits}
use Rattle.sim_core.specs.declared.link.Link.{Link}
use Rattle.sim_core.specs.declared.outgoing.Outgoing.{Outgoing}
use Rattle.sim_core.specs.declared.machine.Core.{Core as Kept}
use Rattle.core_model.specs.Core.{Core}
use Rattle.sim_core.specs.code.Links.{packets_of, packets_to}
use Rattle.sim_core.specs.code.Numbered.{setup_with}

-- What all nodelets of the run share.
abbrev pub setup_in : Code → Kept → Setup
setup_in code kept = setup_with code kept.count kept.turns kept.rules

-- The node that a nodelet is; where there is none, the one before any event.
abbrev pub node_by : Setup → ℕ → Option Nodelet → Node
node_by u k None = start_node u k
node_by u k (Some v) = node_of u.code v

-- The packets on the link to a nodelet from one that has these links, if it is there.
abbrev pub packets_from : Option Outgoing → ℕ → List sent.Packet
packets_from None to = []
packets_from (Some outgoing) to = packets_to outgoing to

-- The core that it is: its nodelets, and the packets on its links.
abbrev pub core_in : Code → Kept → Core
core_in code kept = record {
  nodes = λ k. node_by (setup_in code kept) k (slice_get kept.nodes.items k);
  links = λ origin to. map (packet_in code) (packets_from (slice_get kept.links.items origin) to);
}

-- ---- what fits the code

-- The contexts in packets fit the code.
abbrev pub link_fits : Code → Link → Bool
link_fits code link = list_all (packet_fits code) (packets_of link)

abbrev pub outgoing_fits : Code → Outgoing → Bool
outgoing_fits code outgoing = list_all (link_fits code) outgoing.links.items

-- So do all at the nodelets and on the links.
abbrev pub core_fits : Code → Kept → Bool
core_fits code kept = list_all (all_fit code) kept.nodes.items && list_all (outgoing_fits code) kept.links.items
