use Rattle.std.proofs.Common.{◌≡◌, ◌≤◌, take}
use Rattle.word_ops.specs.Formats.{words_in}
use Rattle.threadlet_code.proofs.operands.words_of.Given as goal

abbrev pub invariant-loop-part : goal.invariant-loop-part
invariant-loop-part l = record { words : l.count ≡ words_in (take l.part-index l.format); few : l.count ≤ l.part-index }
