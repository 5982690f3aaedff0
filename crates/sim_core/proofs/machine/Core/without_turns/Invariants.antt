use Rattle.std.proofs.Common.{◌≡◌, None}
use Rattle.std.specs.Prelude.{find}
use Rattle.word_ops.specs.Report.{below}
use Rattle.sim_core.specs.Kept.{core_in, setup_in}
use Rattle.core_model.specs.CoreEnd.{lacks_turn_at}
use Rattle.sim_core.proofs.machine.Core.without_turns.Given as goal

abbrev pub invariant-loop-k : goal.invariant-loop-k
invariant-loop-k l = find (λ k. lacks_turn_at (setup_in l.code.code l.self) ((core_in l.code.code l.self).nodes k)) (below l.k) ≡ None
