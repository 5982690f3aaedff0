use Rattle.std.proofs.Common.{◌≡◌, ◌-◌, []}
use Rattle.code_text.specs.Decoding.{many_in, pushed, one_format}
use Rattle.code_text.proofs.reading.read_formats.Given as goal

abbrev pub invariant-loop : goal.invariant-loop
invariant-loop l = many_in one_format pushed l.formats (l.count - l.counter) l.rest ≡ many_in one_format pushed [] l.count l.bytes
