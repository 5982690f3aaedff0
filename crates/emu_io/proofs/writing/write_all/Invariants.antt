use Rattle.std.proofs.Common.{◌≡◌, ◌-◌, ◌≤◌, [], length, take}
use Rattle.emu_io.specs.Held.{Grew}
use Rattle.emu_io.proofs.writing.write_all.Given as goal

abbrev pub invariant-loop-written : goal.invariant-loop-written
invariant-loop-written g l = record {
  grew : Grew (g.K.Sink.held l.fn.sink) (g.K.Sink.held l.sink) (take l.written l.bytes);
  within : l.written ≤ length l.bytes;
  faults : g.K.Sink.faults l.fn.sink ≤ g.K.Sink.faults l.sink;
  empty : l.bytes ≡ [] → l.sink ≡ l.fn.sink;
}

abbrev pub decreases-loop-written : goal.decreases-loop-written
decreases-loop-written g l = length l.bytes - l.written
