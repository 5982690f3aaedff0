use Rattle.std.proofs.Common.{◌≡◌, ◌+◌, ◌∷◌, [], ℕ, false, Bool, ◌||◌, is_some, arith, sym, ap, ◌∙◌, add-one}
use Rattle.std.specs.List.{list_any}
use Rattle.std.proofs.lemmas.List.Folds.{list_any-append}
use Rattle.word_ops.specs.Report.{below}
use Rattle.sim_core.specs.Kept.{core_in}
use Rattle.sim_core.proofs.Legal.{node_there}
use Rattle.core_model.proofs.NotStuck.Finds.{any_below}
use Rattle.serial_sim.proofs.choosing.has_trapped.Goals as goal

-- one number more
any_more : (p : ℕ → Bool) (k : ℕ) → list_any p (below k) ≡ false → p k ≡ false → list_any p (below (k + 1)) ≡ false
any_more p k before here =
    ap (λ n. list_any p (below n)) (add-one k) ∙ list_any-append p (below k) (k ∷ []) ∙ ap (λ b. b || (p k || false)) before ∙ ap (λ b. b || false) here

pub loop-k-preserved : goal.loop-k-preserved
loop-k-preserved c = λ code. any_more _ c.loop-k.k (c.loop-k.invariant code)
    (ap (λ (w : _). is_some w.first_trap) (node_there code c.args.core.now c.loop-k.k c.node.result.now c.node.ensures) ∙ ap is_some (sym c.trapped.ensures) ∙ sym c.is_some.ensures ∙ c.if-is_some.false)

pub returns-then-is_some : goal.returns-then-is_some
returns-then-is_some c = λ code. sym (any_below (λ k. is_some ((core_in code c.args.core.now).nodes k).first_trap) c.args.core.now.count c.loop-k.k (let e = c.requires in let h = c.loop-k-test.true in omega arith)
    (ap (λ (w : _). is_some w.first_trap) (node_there code c.args.core.now c.loop-k.k c.node.result.now c.node.ensures) ∙ ap is_some (sym c.trapped.ensures) ∙ sym c.is_some.ensures ∙ c.if-is_some.true))

pub returns : goal.returns
returns c = λ code.
    let end : c.loop-k.k ≡ c.args.core.now.count = let e = c.requires in let h = c.loop-k-test.false in let b = c.loop-k.auto.k-end in omega arith in
    sym (ap (λ n. list_any (λ k. is_some ((core_in code c.args.core.now).nodes k).first_trap) (below n)) (sym end) ∙ c.loop-k.invariant code)
