-- What is sent to each other nodelet.
use Rattle.std.specs.Prelude.{◌&&◌, nat_lt, ℕ, List, [], ◌∷◌, if◌then◌else◌}
use Rattle.word_ops.specs.declared.name.Name.{Name}
use Rattle.threadlet_state.specs.declared.packet.Packet as packet
use Rattle.threadlet_state.specs.declared.packet.Body as sent_body
use Rattle.threadlet_state.specs.declared.packet.Body.TheVariants as by
use Rattle.merge_law.specs.Machine.{is_linked}
use Rattle.nodelet_core.specs.declared.sending.Item.{Item}
use Rattle.nodelet_core.specs.declared.sending.Item.TheVariants as item

-- What is sent of an item of a strand.
abbrev pub body_for : Name → Item → sent_body.Body
body_for name (item.Operation op address word at) = by.Op name op address word at
body_for name (item.Grant first count) = by.Grant name first count

-- A packet was sent to each linked nodelet under number k.
abbrev pub told_to : ℕ → ℕ → ℕ → packet.Packet → ℕ → List packet.Packet
told_to n here k p j = if nat_lt j k && is_linked n here j then p ∷ [] else []
