use Rattle.std.proofs.Common.{◌≡◌, ◌-◌, []}
use Rattle.journal_text.specs.Decoding.{steps_in}
use Rattle.journal_text.proofs.reading.read_steps.Given as goal

abbrev pub invariant-loop : goal.invariant-loop
invariant-loop l = steps_in l.n l.line l.steps (l.count - l.counter) l.rest ≡ steps_in l.n l.line [] l.count l.bytes
