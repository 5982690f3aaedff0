use Rattle.std.proofs.Common.{◌≡◌, ◌-◌, []}
use Rattle.code_text.specs.Decoding.{many_in, pushed, one_function}
use Rattle.code_text.proofs.reading.read_functions.Given as goal

abbrev pub invariant-loop : goal.invariant-loop
invariant-loop l = many_in one_function pushed l.functions (l.count - l.counter) l.rest ≡ many_in one_function pushed [] l.count l.bytes
