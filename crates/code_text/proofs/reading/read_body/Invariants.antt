use Rattle.std.proofs.Common.{◌≡◌, ◌-◌, []}
use Rattle.code_text.specs.Decoding.{many_in, with_line, made_of, one_placed}
use Rattle.code_text.proofs.reading.read_body.Given as goal

abbrev pub invariant-loop : goal.invariant-loop
invariant-loop l =
    many_in one_placed with_line (made_of l.header l.places l.body) (l.header.length - l.counter) l.rest
    ≡ many_in one_placed with_line (made_of l.header [] []) l.header.length l.bytes
