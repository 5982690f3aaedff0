use Rattle.std.proofs.Common.{◌∙◌}
use Rattle.std.specs.String.{string_bytes}
use Rattle.word_ops.specs.Report.{nodelet_line}
use Rattle.traffic_report.proofs.Below.{below_grows}
use Rattle.traffic_report.proofs.Lines.{nodelet_line_printed}
use Rattle.traffic_report.proofs.report.at_each.Goals as goal

pub loop-k-preserved : goal.loop-k-preserved
loop-k-preserved c =
    c.in_ok-writeln.ensures.bytes ∙ below_grows (nodelet_line c.args.t.now) (string_bytes c.args.out.now) c.loop-k.k-counter c.loop-k.invariant
    (nodelet_line_printed c.args.t.now c.loop-k.k-counter c.at-turns.result.now c.at-applied.result.now c.at-turns.ensures c.at-applied.ensures)
