use Rattle.std.proofs.Common.{◌≡◌, ◌∙◌, ◌++◌, ◌∷◌, [], ap, sym, ℕ, List, add-one, arith}
use Rattle.word_ops.specs.Report.{below}
use Rattle.cilk_types.proofs.lower_functions.below.Goals as goal

pub loop-i-preserved : goal.loop-i-preserved
loop-i-preserved c =
    c.in_ok-add.ensures.ok
    ∙ ap (λ (ns : List ℕ). ns ++ c.in_ok-index.field-0 ∷ []) c.loop-i.invariant
    ∙ ap (λ (k : ℕ). below c.loop-i.i ++ k ∷ []) c.in_ok-index.ensures
    ∙ sym (ap below (add-one c.loop-i.i))

pub returns : goal.returns
returns c =
    let end : c.loop-i.i ≡ c.args.n = omega (arith, c.loop-i.auto.i-end, c.loop-i-test.false) in
    c.loop-i.invariant ∙ ap below end
