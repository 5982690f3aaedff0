use Rattle.std.proofs.Common.{◌≡◌, ◌++◌, take}
use Rattle.std.specs.Prelude.{filter_map}
use Rattle.threadlet_state.specs.declared.packet.Packet.{Packet}
use Rattle.sim_core.specs.code.Named.{carried_name}
use Rattle.sim_core.proofs.naming.add_link.Given as goal

abbrev pub invariant-loop-i : goal.invariant-loop-i
invariant-loop-i l = l.names ≡ l.initial.names ++ filter_map (λ (p : Packet). carried_name p.body) (take l.i l.link.queue.items)
