use Rattle.std.proofs.Common.{length}
use Rattle.threadlet_state.proofs.Bringing.{AreBrought}
use Rattle.threadlet_state.proofs.answering.bring.Given as goal

abbrev pub invariant-loop-target : goal.invariant-loop-target
invariant-loop-target l = AreBrought l.fn.words l.targets l.results (length l.yielded) l.words
