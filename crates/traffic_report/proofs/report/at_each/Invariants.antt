use Rattle.std.proofs.Common.{◌≡◌, ◌++◌, flat_map}
use Rattle.std.specs.String.{string_bytes}
use Rattle.word_ops.specs.Report.{below, nodelet_line}
use Rattle.traffic_report.proofs.report.at_each.Given as goal

abbrev pub invariant-loop-k : goal.invariant-loop-k
invariant-loop-k l = string_bytes l.out ≡ string_bytes l.initial.out ++ flat_map (nodelet_line l.t) (below l.k-counter)
