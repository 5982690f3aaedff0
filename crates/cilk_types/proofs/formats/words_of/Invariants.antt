use Rattle.std.proofs.Common.{◌≡◌, ◌≤◌, drop}
use Rattle.std.specs.Option.{option_map}
use Rattle.word_ops.specs.Formats.{words_in}
use Rattle.cilk_model.specs.Formats.{format_of, parts_from}
use Rattle.cilk_types.specs.Reading.{begun_of}
use Rattle.cilk_types.proofs.FormatLemmas.{more_words}
use Rattle.cilk_types.proofs.formats.words_of.Given as goal

abbrev pub invariant-loop-byte : goal.invariant-loop-byte
invariant-loop-byte l = (l.words ≤ l.byte-index) ×
    (more_words l.words (parts_from (begun_of l.begun) (drop l.byte-index l.text)) ≡ option_map words_in (format_of l.text))
