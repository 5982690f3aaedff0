use Rattle.std.proofs.Common.{◌∙◌, flat_map, refl}
use Rattle.std.specs.String.{string_bytes}
use Rattle.word_ops.specs.Report.{below, between_line}
use Rattle.traffic_report.proofs.Below.{below_grows}
use Rattle.traffic_report.proofs.report.between.Goals as goal

pub loop-i-preserved : goal.loop-i-preserved
loop-i-preserved c =
    c.in_ok-between_from.ensures ∙ below_grows (λ i. flat_map (between_line c.args.kind.now c.args.counts.now c.args.n i) (below c.args.n)) (string_bytes c.args.out.now) c.loop-i.i c.loop-i.invariant refl
