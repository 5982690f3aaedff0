use Rattle.std.proofs.Common.{◌≡◌}
use Rattle.threadlet_code.specs.Running.{halt}
use Rattle.threadlet_state.specs.Activations.{state_of}
use Rattle.threadlet_state.proofs.Halted.{IsOnTheWay}
use Rattle.threadlet_state.proofs.halting.run_silent.Given as goal

abbrev pub invariant-loop-context : goal.invariant-loop-context
invariant-loop-context l =
    IsOnTheWay l.code.code l.fn.context.frames l.context.frames l.done × (l.context ≡ record l.fn.context { frames = l.context.frames })

abbrev pub decreases-loop-context : goal.decreases-loop-context
decreases-loop-context l = (halt l.code.code (state_of l.code.code l.context.frames)).silent
