use Rattle.threadlet_code.specs.Walking.{IsWalk}
use Rattle.threadlet_code.proofs.walking.walk_through.Given as goal

abbrev pub invariant-loop : goal.invariant-loop
invariant-loop l = IsWalk l.counter l.code l.function l.f l.walk.known l.walk.ways l.walk.reached l.walk.settled
