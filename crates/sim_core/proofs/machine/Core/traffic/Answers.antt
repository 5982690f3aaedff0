use Rattle.std.proofs.Common.{◌≡◌, ℕ, ap, ◌∙◌, arith, refl, subst}
use Rattle.core_model.specs.Nodes.{Node}
use Rattle.sim_core.specs.Kept.{core_in}
use Rattle.sim_core.specs.code.CountedUpTo.{IsCountedUpTo}
use Rattle.sim_core.proofs.TallyLists.{row_more, number_more, same_traffic}
use Rattle.sim_core.proofs.machine.Core.traffic.Goals as goal

pub loop-k-preserved : goal.loop-k-preserved
loop-k-preserved c = record {
  n = c.loop-k.invariant.n;
  moves = c.loop-k.invariant.moves;
  counted = λ code.
      let before = c.loop-k.invariant.counted code in
      let n = c.args.self.now.count in
      let v = c.node-nodelet.result.now in
      let all : v.nodelets ≡ n = (c.args.self.now.numbered c.loop-k.k v c.node-nodelet.ensures).nodelets in
      record {
        births = row_more code c.args.self.now c.loop-k.k v c.node-nodelet.ensures (λ (w : Node). w.tallies.births) v.tally.births n refl (v.tally_size.births ∙ all) _ _ _
            before.births c.in_ok-extend_from_slice.ensures.ok (c.as_slice.ensures ∙ ap (λ (t : _). t.births) c.tally-tally.ensures);
        posts = row_more code c.args.self.now c.loop-k.k v c.node-nodelet.ensures (λ (w : Node). w.tallies.posts) v.tally.posts n refl (v.tally_size.posts ∙ all) _ _ _
            before.posts c.in_ok-extend_from_slice-2.ensures.ok (c.as_slice-in-loop-k.ensures ∙ ap (λ (t : _). t.posts) c.tally-tally.ensures);
        dones = row_more code c.args.self.now c.loop-k.k v c.node-nodelet.ensures (λ (w : Node). w.tallies.dones) v.tally.dones n refl (v.tally_size.dones ∙ all) _ _ _
            before.dones c.in_ok-extend_from_slice-3.ensures.ok (c.as_slice-in-loop-k-2.ensures ∙ ap (λ (t : _). t.dones) c.tally-tally.ensures);
        turns = number_more code c.args.self.now c.loop-k.k v c.node-nodelet.ensures (λ (w : Node). w.served) _ _ _ before.turns c.in_ok-add.ensures.ok c.served.ensures;
        applied = number_more code c.args.self.now c.loop-k.k v c.node-nodelet.ensures (λ (w : Node). w.tallies.applied) _ _ _ before.applied c.in_ok-add-2.ensures.ok
            (ap (λ (t : _). t.applied) c.counts.ensures);
      };
}

pub returns : goal.returns
returns c = λ code.
    let end : c.loop-k.k ≡ c.args.self.now.count = let h = c.loop-k-test.false in let b = c.loop-k.auto.k-end in omega arith in
    let t = c.loop-k.traffic in
    let n = c.args.self.now.count in
    let at = (core_in code c.args.self.now).nodes in
    let P : ℕ → Type 0 = λ k. IsCountedUpTo n (core_in code c.args.self.now) k t in
    let all = subst P end (c.loop-k.invariant.counted code) in
    same_traffic t n _ _ _ _ _ _ c.loop-k.invariant.n (c.loop-k.invariant.moves ∙ c.in_ok-moves.ensures code) all.births all.posts all.dones all.turns all.applied
