use Rattle.std.proofs.Common.{◌≡◌, ◌<◌, ap, ◌∙◌, sym, arith, ℕ}
use Rattle.std.specs.Prelude.{find, ◌==◌}
use Rattle.word_ops.specs.Report.{below}
use Rattle.merge_law.specs.Machine.{last_stamp}
use Rattle.sim_core.specs.Kept.{core_in}
use Rattle.sim_core.proofs.Legal.{node_there}
use Rattle.sim_core.proofs.FirstOnes.{found, none_found_more, equal_passes, others_fail}
use Rattle.sim_core.proofs.machine.Core.without_stamps.Goals as goal

pub returns-then-stamp : goal.returns-then-stamp
returns-then-stamp c = λ code.
    let less : c.loop-k.k < c.args.self.now.count = c.loop-k-test.true in
    sym (found (λ (k : ℕ). ((core_in code c.args.self.now).nodes k).stamp == last_stamp) c.args.self.now.count c.loop-k.k less (c.loop-k.invariant code)
    (ap (λ (w : _). w.stamp == last_stamp) (node_there code c.args.self.now c.loop-k.k c.node.result.now c.node.ensures) ∙ equal_passes _ _ (sym c.stamp.ensures ∙ c.if-stamp.true)))

pub loop-k-preserved : goal.loop-k-preserved
loop-k-preserved c = λ code.
    none_found_more (λ (k : ℕ). ((core_in code c.args.self.now).nodes k).stamp == last_stamp) c.loop-k.k (c.loop-k.invariant code)
    (ap (λ (w : _). w.stamp == last_stamp) (node_there code c.args.self.now c.loop-k.k c.node.result.now c.node.ensures) ∙ others_fail _ _ (λ e. c.if-stamp.false (c.stamp.ensures ∙ e)))

pub returns : goal.returns
returns c = λ code.
    let end : c.loop-k.k ≡ c.args.self.now.count = let h = c.loop-k-test.false in let b = c.loop-k.auto.k-end in omega arith in
    sym (ap (λ n. find (λ k. ((core_in code c.args.self.now).nodes k).stamp == last_stamp) (below n)) (sym end) ∙ c.loop-k.invariant code)
