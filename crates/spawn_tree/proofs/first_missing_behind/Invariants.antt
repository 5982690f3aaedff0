use Rattle.std.proofs.Common.{◌≡◌, ℕ, ◌<◌, ◌≤◌, ◌+◌, ◌-◌, ◌^◌, IsSome}
use Rattle.spawn_tree.specs.code.Records.{result_in}
use Rattle.spawn_tree.proofs.first_missing_behind.Given as goal

abbrev pub invariant-loop-order : goal.invariant-loop-order
invariant-loop-order l =
    (l.initial.order ≤ l.order) × ((order : ℕ) → l.initial.order ≤ order → order < l.order → IsSome (result_in l.results l.activation.parent l.activation.depth order))

abbrev pub decreases-loop-order : goal.decreases-loop-order
decreases-loop-order l = 18446744073709551615 - l.order
