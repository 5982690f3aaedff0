use Rattle.std.proofs.Common.{◌≡◌, length}
use Rattle.sim_core.specs.code.Numbered.{AreFirst}
use Rattle.sim_core.proofs.starting.first_nodes.Given as goal

abbrev pub invariant-loop-k : goal.invariant-loop-k
invariant-loop-k l = record { count : length l.nodes.items ≡ l.k; first : AreFirst l.code.code l.n l.turns l.rules l.nodes.items }
