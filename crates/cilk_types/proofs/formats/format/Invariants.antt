use Rattle.std.proofs.Common.{◌≡◌, ◌++◌, drop}
use Rattle.std.specs.Option.{option_map}
use Rattle.cilk_model.specs.Formats.{format_of, parts_from}
use Rattle.cilk_types.specs.Reading.{begun_of}
use Rattle.cilk_types.proofs.formats.format.Given as goal

abbrev pub invariant-loop-byte : goal.invariant-loop-byte
invariant-loop-byte l = option_map (λ rest. l.parts ++ rest) (parts_from (begun_of l.begun) (drop l.byte-index l.text)) ≡ format_of l.text
