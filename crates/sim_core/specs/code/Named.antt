-- The names of the strands that nodelets and links of a core have.
use Rattle.std.specs.Prelude.{List, filter_map, flat_map, Option, Some, None}
use Rattle.word_ops.specs.declared.name.Name.{Name}
use Rattle.threadlet_state.specs.declared.packet.Packet.{Packet}
use Rattle.threadlet_state.specs.declared.packet.Body.{Body}
use Rattle.threadlet_state.specs.declared.packet.Body.TheVariants.{Ctx}
use Rattle.sim_core.specs.declared.link.Link.{Link}
use Rattle.sim_core.specs.declared.outgoing.Outgoing.{Outgoing}
use Rattle.sim_core.specs.code.Links.{packets_of}

-- The name of the strand that a packet carries.
abbrev pub carried_name : Body → Option Name
carried_name (Ctx x) = Some x.name
carried_name _ = None

-- The names of the strands on a link, and of those on the links of a nodelet.
abbrev pub names_on : Link → List Name
names_on link = filter_map (λ (p : Packet). carried_name p.body) (packets_of link)

abbrev pub names_from : Outgoing → List Name
names_from outgoing = flat_map names_on outgoing.links.items
