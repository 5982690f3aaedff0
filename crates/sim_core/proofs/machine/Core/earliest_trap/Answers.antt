use Rattle.std.proofs.Common.{◌≡◌, ap, ◌∙◌, sym, arith, ℕ}
use Rattle.std.specs.Prelude.{filter_map}
use Rattle.word_ops.specs.Report.{below}
use Rattle.sim_core.specs.Kept.{core_in}
use Rattle.core_model.specs.CoreEnd.{earliest}
use Rattle.sim_core.specs.code.Earlier.{earlier_of}
use Rattle.sim_core.proofs.Legal.{node_there}
use Rattle.sim_core.proofs.FirstOnes.{earliest_more}
use Rattle.sim_core.proofs.machine.Core.earliest_trap.Goals as goal

pub loop-k-preserved : goal.loop-k-preserved
loop-k-preserved c = λ code.
    let f = λ (k : ℕ). ((core_in code c.args.self.now).nodes k).first_trap in
    let here = c.trapped.ensures ∙ sym (ap (λ (w : _). w.first_trap) (node_there code c.args.self.now c.loop-k.k c.node.result.now c.node.ensures)) in
    c.earlier-first.ensures ∙ ap (λ o. earlier_of o c.trapped.result) (c.loop-k.invariant code) ∙ ap (earlier_of (earliest (filter_map f (below c.loop-k.k)))) here
    ∙ sym (earliest_more f c.loop-k.k)

pub returns : goal.returns
returns c = λ code.
    let end : c.loop-k.k ≡ c.args.self.now.count = let h = c.loop-k-test.false in let b = c.loop-k.auto.k-end in omega arith in
    c.loop-k.invariant code ∙ ap (λ n. earliest (filter_map (λ k. ((core_in code c.args.self.now).nodes k).first_trap) (below n))) end
