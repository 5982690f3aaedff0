use Rattle.std.proofs.Common.{◌≡◌, map, take}
use Rattle.word_ops.specs.Formats.{words_in}
use Rattle.threadlet_code.proofs.operands.words_of_formats.Given as goal

abbrev pub invariant-loop-format : goal.invariant-loop-format
invariant-loop-format l = l.counts ≡ map words_in (take l.format-index l.formats)
