use Rattle.std.proofs.Common.{◌≡◌, ◌+◌, ◌≤◌, length}
use Rattle.migrate_queue.specs.Links.{pushed, outbox, sent, spare, free_slots, SameOut}
use Rattle.migrate_queue.proofs.link_out.LinkOut.flush.Given as goal

abbrev pub invariant-loop-self : goal.invariant-loop-self
invariant-loop-self l = record {
  link : SameOut l.initial.self l.self;
  sent : sent l.self ≡ sent l.initial.self;
  moved : l.moved + length (outbox l.self) ≡ length (outbox l.initial.self);
  pushed : length (pushed l.self) ≡ length (pushed l.initial.self) + l.moved;
  spare : spare l.self ≡ spare l.initial.self + l.moved;
  free : free_slots l.initial.self ≤ free_slots l.self + l.moved;
}

abbrev pub decreases-loop-self : goal.decreases-loop-self
decreases-loop-self l = length (outbox l.self)
