use Rattle.std.proofs.Common.{arith, ◌≡◌, ◌-◌, ◌∙◌, suc}
use Rattle.cilk_types.proofs.ScopeLemmas.{found_here, not_here}
use Rattle.cilk_types.proofs.lookup.local_named.Goals as goal

pub returns-in-Some : goal.returns-in-Some
returns-in-Some c =
    let next : c.loop-open.open ≡ suc (c.loop-open.open - 1) = omega arith in
    found_here (λ m. m.entries) _ _ _ _ _ _ next c.at.ensures c.in-Some.ensures.value ∙ c.loop-open.invariant.1

pub loop-open-preserved : goal.loop-open-preserved
loop-open-preserved c =
    let next : c.loop-open.open ≡ suc (c.loop-open.open - 1) = omega arith in
    (omega arith, not_here (λ m. m.entries) _ _ _ _ _ next c.at.ensures c.in_default.ensures.value ∙ c.loop-open.invariant.1)
