use Rattle.std.proofs.Common.{ap, sym, ◌∙◌, Some}
use Rattle.std.specs.String.{string_bytes}
use Rattle.std.proofs.lemmas.List.{append-nil}
use Rattle.word_ops.specs.Report.{between_line}
use Rattle.traffic_report.proofs.Below.{below_grows}
use Rattle.traffic_report.proofs.Lines.{between_line_printed, no_between_line}
use Rattle.traffic_report.proofs.report.between_from.Goals as goal
use Rattle.traffic_report.proofs.report.between_from.Goals.{then-count-ne0+in_ok-writeln, else-count-ne0}

pub loop-j-preserved : goal.loop-j-preserved
loop-j-preserved c = elim c.if-count-ne0.branch [
  | then-count-ne0+in_ok-writeln w ↦ ap string_bytes w.out-is ∙ w.in_ok-writeln.ensures.bytes
      ∙ below_grows (between_line c.args.kind.now c.args.counts.now c.args.n c.args.i) (string_bytes c.args.out.now) c.loop-j.j-counter c.loop-j.invariant
      (between_line_printed c.args.kind.now c.args.counts.now c.args.n c.args.i c.loop-j.j-counter c.at.result.now c.at.ensures w.if-count-ne0.true)
  | else-count-ne0 w ↦ ap string_bytes w.out-is ∙ sym (append-nil (string_bytes c.loop-j.out))
      ∙ below_grows (between_line c.args.kind.now c.args.counts.now c.args.n c.args.i) (string_bytes c.args.out.now) c.loop-j.j-counter c.loop-j.invariant
      (no_between_line c.args.kind.now c.args.counts.now c.args.n c.args.i c.loop-j.j-counter (c.at.ensures ∙ ap Some w.if-count-ne0.false))
]
