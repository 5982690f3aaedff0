use Rattle.std.proofs.Common.{◌≡◌, ◌++◌, ℕ, List, ap, ◌∙◌, sym, arith, map}
use Rattle.std.specs.Prelude.{flat_map}
use Rattle.word_ops.specs.Report.{below}
use Rattle.sim_core.specs.Kept.{core_in}
use Rattle.sim_core.proofs.Listing.{parts_below}
use Rattle.sim_core.proofs.machine.Core.moves.Goals as goal

pub loop-i-preserved : goal.loop-i-preserved
loop-i-preserved c = λ code.
    let row : ℕ → List ℕ = λ i. map (λ j. ((core_in code c.args.self.now).nodes j).tallies.moves i) (below c.args.self.now.count) in
    c.in_ok-add_moves_from.ensures code ∙ ap (λ l. l ++ row c.loop-i.i) (c.loop-i.invariant code) ∙ sym (parts_below row c.loop-i.i)

pub returns : goal.returns
returns c = λ code.
    let end : c.loop-i.i ≡ c.args.self.now.count = let h = c.loop-i-test.false in let b = c.loop-i.auto.i-end in omega arith in
    let row : ℕ → List ℕ = λ i. map (λ j. ((core_in code c.args.self.now).nodes j).tallies.moves i) (below c.args.self.now.count) in
    c.loop-i.invariant code ∙ ap (λ n. flat_map row (below n)) end
