use Rattle.std.proofs.Common.{◌≡◌, ◌+◌, take}
use Rattle.code_text.specs.Decoding.{newlines}
use Rattle.code_text.proofs.reading.line_at.Given as goal

abbrev pub invariant-loop-byte : goal.invariant-loop-byte
invariant-loop-byte l = l.line ≡ 1 + newlines (take l.byte-index l.before)
