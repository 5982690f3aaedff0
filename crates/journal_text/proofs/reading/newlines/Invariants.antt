use Rattle.std.proofs.Common.{◌≡◌, take}
use Rattle.journal_text.specs.Decoding.{newlines}
use Rattle.journal_text.proofs.reading.newlines.Given as goal

abbrev pub invariant-loop-byte : goal.invariant-loop-byte
invariant-loop-byte l = l.lines ≡ newlines (take l.byte-index l.text)
