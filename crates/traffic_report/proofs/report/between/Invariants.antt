use Rattle.std.proofs.Common.{◌≡◌, ◌++◌, flat_map}
use Rattle.std.specs.String.{string_bytes}
use Rattle.word_ops.specs.Report.{below, between_line}
use Rattle.traffic_report.proofs.report.between.Given as goal

abbrev pub invariant-loop-i : goal.invariant-loop-i
invariant-loop-i l = string_bytes l.out ≡ string_bytes l.initial.out ++ flat_map (λ i. flat_map (between_line l.kind l.counts l.n i) (below l.n)) (below l.i)
