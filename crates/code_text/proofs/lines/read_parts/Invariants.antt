use Rattle.std.proofs.Common.{◌≡◌, [], take}
use Rattle.std.specs.List.{fold}
use Rattle.code_text.specs.declared.due.Due.TheVariants.{Any}
use Rattle.code_text.specs.Reading.{read_on}
use Rattle.code_text.proofs.lines.read_parts.Given as goal

abbrev pub invariant-loop-byte : goal.invariant-loop-byte
invariant-loop-byte l = fold read_on ([], Any) (take l.byte-index l.literal) ≡ (l.format, l.due)
