use Rattle.std.proofs.Common.{◌≡◌, [], take}
use Rattle.std.specs.Prelude.{filter}
use Rattle.threadlet_code.specs.Breaches.{breaks}
use Rattle.threadlet_code.proofs.judging.first_of.Given as goal

abbrev pub invariant-loop-rule : goal.invariant-loop-rule
invariant-loop-rule l = filter (breaks l.code l.function l.f l.place) (take l.rule-index l.rules) ≡ []
