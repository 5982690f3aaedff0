use Rattle.std.proofs.Common.{◌≡◌, ◌++◌, map}
use Rattle.std.specs.Prelude.{filter}
use Rattle.word_ops.specs.Report.{below}
use Rattle.merge_law.specs.declared.event.Event.TheVariants as event
use Rattle.core_model.specs.Core.{is_legal}
use Rattle.sim_core.specs.Kept.{setup_in, core_in}
use Rattle.sim_core.proofs.machine.Core.add_takes.Given as goal

abbrev pub invariant-loop-origin : goal.invariant-loop-origin
invariant-loop-origin l =
    l.events ≡ l.initial.events ++ filter (is_legal (setup_in l.code.code l.self) (core_in l.code.code l.self)) (map (λ origin. event.Take origin l.k) (below l.origin))
