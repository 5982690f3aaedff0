use Rattle.std.proofs.Common.{◌≡◌, take}
use Rattle.std.specs.String.{string_bytes}
use Rattle.word_ops.specs.Report.{words_text}
use Rattle.traffic_report.proofs.texts.words_text.Given as goal

abbrev pub invariant-loop-cell : goal.invariant-loop-cell
invariant-loop-cell l = string_bytes l.out ≡ words_text (take l.cell-index l.cells)
