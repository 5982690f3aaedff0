use Rattle.std.proofs.Common.{◌≡◌, None, Some, sym, ap, ◌∙◌, ◌&&◌, nat_lt, false, arith, drop}
use Rattle.std.specs.Prelude.{slice_get}
use Rattle.std.specs.Option.{option_copied}
use Rattle.std.proofs.lemmas.Bool.{lt-ltb}
use Rattle.std.proofs.lemmas.Bool.Decides.{nat_tests}
use Rattle.core_model.specs.Nodes.{Node}
use Rattle.merge_law.specs.Machine.{last_stamp}
use Rattle.sim_core.specs.code.Links.{packets_to}
use Rattle.sim_core.specs.Kept.{core_in}
use Rattle.sim_core.proofs.Linked.{packets_there, reached_there, first_and_rest, no_first}
use Rattle.sim_core.proofs.Legal.{and_true, and_false, none_to_take_there, first_to_take_there, node_there}
use Rattle.sim_core.proofs.machine.Core.can_take.Goals as goal

pub first-requires : goal.first-requires
first-requires c = reached_there c.args.self.now c.args.origin c.args.k c.requires.linked c.index.result.now c.index.ensures

pub returns-in-None : goal.returns-in-None
returns-in-None c code =
    let kept = c.args.self.now in
    let none : slice_get (packets_to c.index.result.now c.args.k) 0 ≡ None = sym c.first.ensures ∙ ap option_copied c.in-None.is in
    sym (none_to_take_there code kept c.args.origin c.args.k c.requires.linked
    (packets_there kept c.args.origin c.args.k c.requires.linked c.index.result.now c.index.ensures ∙ no_first (packets_to c.index.result.now c.args.k) none))

pub returns-then-packet-lt18446744073709551615 : goal.returns-then-packet-lt18446744073709551615
returns-then-packet-lt18446744073709551615 c code =
    let kept = c.args.self.now in
    let p = c.in-Some.packet.now in
    let ps = packets_to c.index.result.now c.args.k in
    let first : slice_get ps 0 ≡ Some p = sym c.first.ensures ∙ ap option_copied c.in-Some.is in
    let v : Node = (core_in code kept).nodes c.args.k in
    ap (λ s. nat_lt s last_stamp) (c.stamp.ensures ∙ sym (ap (λ (w : Node). w.stamp) (node_there code kept c.args.k c.node.result.now c.node.ensures)))
    ∙ sym (and_true (nat_lt v.stamp last_stamp))
    ∙ ap (λ t. nat_lt v.stamp last_stamp && t) (sym (lt-ltb p.stamp last_stamp c.if-packet-lt18446744073709551615.true))
    ∙ sym (first_to_take_there code kept c.args.origin c.args.k c.requires.linked p (drop 1 ps)
    (packets_there kept c.args.origin c.args.k c.requires.linked c.index.result.now c.index.ensures ∙ first_and_rest ps p first))

pub returns-else-packet-lt18446744073709551615 : goal.returns-else-packet-lt18446744073709551615
returns-else-packet-lt18446744073709551615 c code =
    let kept = c.args.self.now in
    let p = c.in-Some.packet.now in
    let ps = packets_to c.index.result.now c.args.k in
    let first : slice_get ps 0 ≡ Some p = sym c.first.ensures ∙ ap option_copied c.in-Some.is in
    let v : Node = (core_in code kept).nodes c.args.k in
    let late : nat_lt p.stamp last_stamp ≡ false = grind (arith, nat_tests) in
    late
    ∙ sym (and_false (nat_lt v.stamp last_stamp))
    ∙ ap (λ t. nat_lt v.stamp last_stamp && t) (sym late)
    ∙ sym (first_to_take_there code kept c.args.origin c.args.k c.requires.linked p (drop 1 ps)
    (packets_there kept c.args.origin c.args.k c.requires.linked c.index.result.now c.index.ensures ∙ first_and_rest ps p first))
