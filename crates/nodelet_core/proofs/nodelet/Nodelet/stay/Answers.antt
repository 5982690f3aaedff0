use Rattle.std.proofs.Common.{◌≡◌, ℕ, suc, ◌+◌, ap, ◌∙◌, arith}
use Rattle.nodelet_core.specs.declared.counting.Counted.{Counted}
use Rattle.nodelet_core.specs.Carried.{context_in}
use Rattle.core_model.specs.Nodes.{Node, with_strand}
use Rattle.nodelet_core.specs.code.Counted.{counted}
use Rattle.core_model.specs.Machine.{stamped_node}
use Rattle.nodelet_core.specs.Kept.{node_of}
use Rattle.nodelet_core.proofs.Becoming.{did_became}
use Rattle.nodelet_core.proofs.nodelet.Nodelet.stay.Goals as goal

pub returns : goal.returns
returns c =
    let v = c.args.self.now in
    let n = v.nodelets in
    let here = v.number in
    let x = c.args.context in
    let both = did_became (λ w. counted n here c.nothing.result (stamped_node (v.stamp + 1) w)) (λ code w. with_strand w (context_in code x)) _ v c.count.new.self c.replace.new.self c.count.ensures c.replace.ensures in
    let next : v.stamp + 1 ≡ suc v.stamp = omega arith in
    record {
      settings = both.settings;
      node = λ code. both.node code
          ∙ ap (λ (k : Counted). with_strand (counted n here k (stamped_node (v.stamp + 1) (node_of code v))) (context_in code x)) c.nothing.ensures
          ∙ ap (λ s. with_strand (stamped_node s (node_of code v)) (context_in code x)) next;
      entries = both.entries;
      keeps = both.keeps;
    }
