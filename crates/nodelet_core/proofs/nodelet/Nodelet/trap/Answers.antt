use Rattle.std.proofs.Common.{◌≡◌, suc, [], ap, ◌∙◌}
use Rattle.nodelet_core.specs.declared.counting.Counted.{Counted}
use Rattle.core_model.specs.Nodes.{with_trap, without_strand, moved_from}
use Rattle.nodelet_core.specs.code.Counted.{at_number}
use Rattle.core_model.specs.Machine.{stamped_node}
use Rattle.nodelet_core.specs.Kept.{node_of}
use Rattle.nodelet_core.specs.code.Doing.{goes_from}
use Rattle.nodelet_core.proofs.Becoming.{became_did}
use Rattle.nodelet_core.proofs.Stamps.{moved_stamp}
use Rattle.nodelet_core.proofs.Doing.{nothing_counted}
use Rattle.nodelet_core.proofs.nodelet.Nodelet.trap.Goals as goal

pub returns : goal.returns
returns c =
    let v = c.args.self.now in
    let mid = c.go.new.self in
    let name = c.args.name in
    let from = c.args.moved_from in
    let counts : record c.nothing.result { moved_from = from } ≡ record nothing_counted { moved_from = from } =
    ap (λ (k : Counted). let z : Counted = record k { moved_from = from } in z) c.nothing.ensures in
    let both = became_did (goes_from v.nodelets v.number (record c.nothing.result { moved_from = from }) name)
    (λ w. with_trap w (record { stamp = mid.stamp; kind = c.args.kind; pos = c.args.pos; name = name })) [] v mid c.note_trap.new.self c.go.ensures c.note_trap.ensures in
    record {
      settings = both.settings;
      node = λ code.
          let left = ap (λ k. goes_from v.nodelets v.number k name code (node_of code v)) counts in
          let stamp : mid.stamp ≡ suc v.stamp = ap (λ w. w.stamp) (c.go.ensures.node code ∙ left) ∙ moved_stamp v.number from (stamped_node (suc v.stamp) (node_of code v)) in
          both.node code
          ∙ ap (λ w. with_trap w (record { stamp = mid.stamp; kind = c.args.kind; pos = c.args.pos; name = name })) left
          ∙ ap (λ s. with_trap (without_strand (at_number from (moved_from v.number) (stamped_node (suc v.stamp) (node_of code v))) name)
          (record { stamp = s; kind = c.args.kind; pos = c.args.pos; name = name })) stamp;
      entries = both.entries;
      keeps = both.keeps;
    }
