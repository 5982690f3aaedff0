use Rattle.std.proofs.Common.{◌≡◌, ◌++◌, flat_map}
use Rattle.std.specs.String.{string_bytes}
use Rattle.word_ops.specs.Report.{below, between_line}
use Rattle.traffic_report.proofs.report.between_from.Given as goal

abbrev pub invariant-loop-j : goal.invariant-loop-j
invariant-loop-j l = string_bytes l.out ≡ string_bytes l.initial.out ++ flat_map (between_line l.kind l.counts l.n l.i) (below l.j-counter)
