use Rattle.std.proofs.Common.{rules, tests, ℕ, ◌<◌, ◌≤◌, ◌⊎◌, inl, inr, IsSome, IsTrue, ◌↔◌, ◌≡◌, None, refl, arith}
use Rattle.std.proofs.lemmas.Iterator.{cases_from_all, YieldsList-from_range}
use Rattle.spawn_tree.specs.Joining.{result_of}
use Rattle.spawn_tree.proofs.Ranges.{passes_where_all}
use Rattle.spawn_tree.proofs.Joins.ready.Goals as goal

sides : (a b : ℕ) → (a < b) ⊎ (b ≤ a)
sides a b = grind arith

pub returns-then-count-front : goal.returns-then-count-front
returns-then-count-front c = (λ all order lt. here_or (few.0 all) order lt (sides order 8), λ all. few.1 (λ order lt. all order (let least = c.min.ensures in omega arith)))
  where
    recorded : ℕ → Type 0
    recorded o = IsSome (result_of c.args.self.now c.args.parent c.args.depth o)

    missing : ℕ → Type 0
    missing o = result_of c.args.self.now c.args.parent c.args.depth o ≡ None

    few : IsTrue c.all.result ↔ ((k : ℕ) → k < c.min.result → recorded k)
    few = passes_where_all c.all.result recorded missing c.min.result (λ k n s. search rules)
        (cases_from_all _ _ c.all.result recorded missing c.all.ensures.ran (YieldsList-from_range 0 c.min.result c.min.result refl (omega arith)) (λ x q k. search (rules, tests)) (λ x q k. search (rules, tests)))

    here_or : ((k : ℕ) → k < c.min.result → recorded k) → (order : ℕ) → order < c.args.count → (order < 8) ⊎ (8 ≤ order) → recorded order
    here_or all order lt (inl early) = all order (let least = c.min.ensures in omega arith)
    here_or all order lt (inr late) =
        let known = c.args.self.now.known c.args.parent c.args.depth in
        known.passed order late (let at = c.front.ensures in let bound = c.if-count-front.true in omega arith)
