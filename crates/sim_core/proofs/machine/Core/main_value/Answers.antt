use Rattle.std.proofs.Common.{◌≡◌, ◌<◌, ap, ◌∙◌, sym, arith, ℕ, is_some}
use Rattle.std.specs.Prelude.{filter_map, slice_get}
use Rattle.word_ops.specs.Report.{below}
use Rattle.sim_core.specs.Kept.{core_in}
use Rattle.sim_core.proofs.Legal.{node_there}
use Rattle.sim_core.proofs.FirstOnes.{first_some, none_more, none_where_not}
use Rattle.sim_core.proofs.machine.Core.main_value.Goals as goal

pub returns-then-is_some : goal.returns-then-is_some
returns-then-is_some c = λ code.
    let less : c.loop-k.k < c.args.self.now.count = c.loop-k-test.true in
    let here = ap (λ (w : _). w.main_value) (node_there code c.args.self.now c.loop-k.k c.node.result.now c.node.ensures) ∙ sym c.ended-ended.ensures in
    sym (first_some (λ (k : ℕ). ((core_in code c.args.self.now).nodes k).main_value) c.args.self.now.count c.loop-k.k less (c.loop-k.invariant code)
    (ap is_some here ∙ sym c.is_some.ensures ∙ c.if-is_some.true) ∙ here)

pub loop-k-preserved : goal.loop-k-preserved
loop-k-preserved c = λ code.
    let here = ap (λ (w : _). w.main_value) (node_there code c.args.self.now c.loop-k.k c.node.result.now c.node.ensures) ∙ sym c.ended-ended.ensures in
    none_more (λ (k : ℕ). ((core_in code c.args.self.now).nodes k).main_value) c.loop-k.k (c.loop-k.invariant code)
    (here ∙ none_where_not c.ended-ended.result (sym c.is_some.ensures ∙ c.if-is_some.false))

pub returns : goal.returns
returns c = λ code.
    let end : c.loop-k.k ≡ c.args.self.now.count = let h = c.loop-k-test.false in let b = c.loop-k.auto.k-end in omega arith in
    sym (ap (λ n. slice_get (filter_map (λ k. ((core_in code c.args.self.now).nodes k).main_value) (below n)) 0) (sym end) ∙ ap (λ l. slice_get l 0) (c.loop-k.invariant code))
