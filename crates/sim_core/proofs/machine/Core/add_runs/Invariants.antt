use Rattle.std.proofs.Common.{◌≡◌, ◌++◌, map, take}
use Rattle.std.specs.Prelude.{filter}
use Rattle.merge_law.specs.declared.event.Event.TheVariants as event
use Rattle.core_model.specs.Core.{is_legal}
use Rattle.sim_core.specs.Kept.{setup_in, core_in}
use Rattle.sim_core.proofs.machine.Core.add_runs.Given as goal

abbrev pub invariant-loop-i : goal.invariant-loop-i
invariant-loop-i l =
    l.events ≡ l.initial.events ++ filter (is_legal (setup_in l.code.code l.self) (core_in l.code.code l.self)) (map (λ name. event.Run l.k name) (take l.i l.names))
