use Rattle.std.proofs.Common.{ap, ◌∙◌, ◌&&◌, ◌==◌, ℕ}
use Rattle.std.specs.Prelude.{if◌then◌else◌}
use Rattle.word_ops.specs.Naming.{same_name}
use Rattle.spawn_tree.proofs.FrontLemmas.{fronts_go_on}
use Rattle.spawn_tree.proofs.add_at_front.Goals as goal

pub returns-clause-known : goal.returns-clause-known
returns-clause-known c =
    let next = c.first_missing_behind-front.ensures in
    let same = c.in_ok-write_down.ensures.same in
    fronts_go_on c.args.results.now c.put.new.results c.args.fronts.now c.write.new.fronts c.args.t _ c.first_missing_behind-front.result
    c.requires.known c.in_ok-put.ensures.ok c.requires.front next.low next.last
    (λ p d. c.write.ensures p d ∙ ap (λ (x : ℕ). if same_name p c.args.t.parent && d == c.args.t.depth then c.first_missing_behind-front.result else x) (same p d))
