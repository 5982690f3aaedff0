use Rattle.std.proofs.Common.{◌++◌, ap, sym, ◌∙◌, append_assoc, arith, take, option_to_list}
use Rattle.std.specs.Prelude.{filter_map}
use Rattle.threadlet_state.specs.declared.packet.Packet.{Packet}
use Rattle.sim_core.specs.code.Named.{carried_name}
use Rattle.sim_core.proofs.AtPlaces.{filter_map_more}
use Rattle.sim_core.proofs.naming.add_link.Goals as goal

pub loop-i-preserved : goal.loop-i-preserved
loop-i-preserved c =
    let packets = c.args.link.now.queue.items in
    let i = c.loop-i.i in
    let packet = c.index.result.now in
    c.in_ok-add_name.ensures
    ∙ ap (λ names. names ++ option_to_list (carried_name packet.body)) c.loop-i.invariant
    ∙ append_assoc c.args.names.now (filter_map (λ (p : Packet). carried_name p.body) (take i packets)) (option_to_list (carried_name packet.body))
    ∙ ap (λ more. c.args.names.now ++ more) (sym (filter_map_more (λ (p : Packet). carried_name p.body) packets i packet (omega (arith, c.loop-i-test.true, c.len-i-end.ensures)) c.index.ensures))
