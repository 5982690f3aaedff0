-- The links of one nodelet, as the code keeps them.
use Rattle.std.specs.Prelude.{ℕ, ◌-◌, List, [], Bool, ◌==◌, length, is_some, slice_get, Option, Some, None}
use Rattle.std.specs.List.{list_all}
use Rattle.std.specs.VecDeque.{deque_len, deque_capacity}
use Rattle.threadlet_state.specs.declared.packet.Packet.{Packet}
use Rattle.sim_core.specs.declared.link.Link.{Link}
use Rattle.sim_core.specs.declared.outgoing.Outgoing.{Outgoing}

-- The packets on a link, oldest first, and for how many more it has room.
abbrev pub packets_of : Link → List Packet
packets_of link = link.queue.items

abbrev pub spare : Link → ℕ
spare link = deque_capacity link.queue - deque_len link.queue

-- The link to a nodelet, if there is one.
abbrev pub link_to : Outgoing → ℕ → Option Link
link_to outgoing to = slice_get outgoing.links.items to

abbrev pub reaches : Outgoing → ℕ → Bool
reaches outgoing to = is_some (link_to outgoing to)

-- The packets on the link to a nodelet, and for how many more it has room.
abbrev pub packets_by : Option Link → List Packet
packets_by None = []
packets_by (Some link) = packets_of link

abbrev pub packets_to : Outgoing → ℕ → List Packet
packets_to outgoing to = packets_by (link_to outgoing to)

abbrev pub spare_by : Option Link → ℕ
spare_by None = 0
spare_by (Some link) = spare link

abbrev pub spare_to : Outgoing → ℕ → ℕ
spare_to outgoing to = spare_by (link_to outgoing to)

-- There is a link to each of n nodelets.
abbrev pub has_links : ℕ → Outgoing → Bool
has_links n outgoing = length outgoing.links.items == n

-- No packet is on a link, and on none of the links of a nodelet.
abbrev pub is_clear : Link → Bool
is_clear link = length (packets_of link) == 0

abbrev pub are_clear : Outgoing → Bool
are_clear outgoing = list_all is_clear outgoing.links.items
