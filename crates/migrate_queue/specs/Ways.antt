-- The links of a nodelet as ways to other nodelets.
use Rattle.std.specs.Prelude.{ℕ, Bool, List, [], Option, Some, None, is_some, slice_index_or}
use Rattle.threadlet_state.specs.declared.packet.Packet.{Packet}
use Rattle.migrate_queue.specs.declared.link_out.LinkOut.{LinkOut}
use Rattle.migrate_queue.specs.declared.outlet.LinkOutlet.{LinkOutlet}
use Rattle.migrate_queue.specs.Links.{LinkName, out_name, sent, spare}

-- The sending end of the link to a nodelet.
abbrev pub link_to : LinkOutlet → ℕ → Option LinkOut
link_to outlet to = slice_index_or outlet.links.items to None

-- There is a link to the nodelet.
abbrev pub is_linked : LinkOutlet → ℕ → Bool
is_linked outlet to = is_some (link_to outlet to)

-- What the link was made as.
abbrev pub name_by : Option LinkOut → Option LinkName
name_by None = None
name_by (Some out) = Some (out_name out)

abbrev pub name_to : LinkOutlet → ℕ → Option LinkName
name_to outlet to = name_by (link_to outlet to)

-- What was sent on the link.
abbrev pub sent_by : Option LinkOut → List Packet
sent_by None = []
sent_by (Some out) = sent out

abbrev pub sent_to : LinkOutlet → ℕ → List Packet
sent_to outlet to = sent_by (link_to outlet to)

-- For how many packets more the link has room.
abbrev pub spare_by : Option LinkOut → ℕ
spare_by None = 0
spare_by (Some out) = spare out

abbrev pub spare_to : LinkOutlet → ℕ → ℕ
spare_to outlet to = spare_by (link_to outlet to)
