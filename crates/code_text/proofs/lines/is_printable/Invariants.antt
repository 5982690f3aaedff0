use Rattle.std.proofs.Common.{◌≡◌, true, take}
use Rattle.std.specs.List.{list_all}
use Rattle.word_ops.specs.Formats.{is_printable}
use Rattle.code_text.proofs.lines.is_printable.Given as goal

abbrev pub invariant-loop-part : goal.invariant-loop-part
invariant-loop-part l = list_all is_printable (take l.part-index l.format) ≡ true
