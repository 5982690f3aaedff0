use Rattle.std.proofs.Common.{refl}
use Rattle.core_model.specs.Machine.{stamped_node}
use Rattle.nodelet_core.specs.Kept.{node_of, first_number}
use Rattle.nodelet_core.proofs.Tallying.{counts_event}
use Rattle.nodelet_core.proofs.nodelet.Nodelet.count.Goals as goal

pub returns : goal.returns
returns c =
    let v = c.args.self.now in
    record {
      settings = record { number = refl; nodelets = refl; turns = refl; rules = refl };
      node = λ code. counts_event v.nodelets v.number (first_number v.number) v.spawned c.one_more_where-self.result c.args.event v.tally c.count.new.self v.counts c.with_event-self.result
          (stamped_node c.args.stamp (node_of code v)) c.count.ensures.counted c.one_more_where-self.ensures c.with_event-self.ensures;
      contexts = refl;
      entries = refl;
    }
