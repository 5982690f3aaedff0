use Rattle.std.proofs.Common.{◌≡◌, ◌++◌}
use Rattle.std.specs.Prelude.{flat_map}
use Rattle.word_ops.specs.Report.{below}
use Rattle.core_model.specs.Core as core
use Rattle.sim_core.specs.Kept.{setup_in, core_in}
use Rattle.sim_core.proofs.machine.Core.legal_events.Given as goal

abbrev pub invariant-loop-k : goal.invariant-loop-k
invariant-loop-k l =
    let u = setup_in l.code.code l.self in
    let c = core_in l.code.code l.self in
    l.events ≡ flat_map (λ k. core.runs_at u c k ++ core.takes_at u c k) (below l.k)
