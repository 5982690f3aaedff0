use Rattle.std.proofs.Common.{◌≤◌, length}
use Rattle.std.specs.Io.KnownBytes.{Consumes}
use Rattle.emu_io.proofs.reading.read_all.Given as goal

abbrev pub invariant-loop : goal.invariant-loop
invariant-loop g l = record {
  given : Consumes (g.S.Source.left l.fn.source) (g.S.Source.left l.source) l.bytes;
  within : length l.bytes ≤ l.limit;
  calls : l.counter ≤ length l.bytes;
  faults : g.S.Source.faults l.fn.source ≤ g.S.Source.faults l.source;
}
