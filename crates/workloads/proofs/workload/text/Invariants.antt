use Rattle.std.proofs.Common.{◌≡◌, ◌++◌, length}
use Rattle.workloads.specs.Workload.{value_text, filled, workload_text}
use Rattle.workloads.proofs.workload.text.Given as goal

abbrev pub invariant-loop-rest : goal.invariant-loop-rest
invariant-loop-rest l = l.text ++ filled (value_text l.number) l.rest ≡ workload_text l.number

abbrev pub decreases-loop-rest : goal.decreases-loop-rest
decreases-loop-rest l = length l.rest
