use Rattle.std.proofs.Common.{◌≡◌, []}
use Rattle.std.specs.Prelude.{flat_map}
use Rattle.std.specs.List.{range_with_len}
use Rattle.threadlet_code.specs.Breaches.{breaches_at}
use Rattle.threadlet_code.proofs.judging.first_in.Given as goal

abbrev pub invariant-loop-place : goal.invariant-loop-place
invariant-loop-place l = flat_map (breaches_at l.code l.function) (range_with_len 0 l.place) ≡ []
