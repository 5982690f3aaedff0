use Rattle.std.proofs.Common.{◌≡◌, [], take}
use Rattle.std.specs.Prelude.{flat_map}
use Rattle.std.specs.List.{range_with_len}
use Rattle.threadlet_code.specs.Breaches.{breaches_in, heights_from}
use Rattle.threadlet_code.proofs.verifying.judge.Given as goal

abbrev pub invariant-loop-function : goal.invariant-loop-function
invariant-loop-function l = record {
  none : flat_map (breaches_in l.code) (range_with_len 0 l.function) ≡ [];
  heights : l.heights ≡ heights_from 0 l.code (take l.function l.code.functions);
}
