use Rattle.std.proofs.Common.{◌≡◌, drop}
use Rattle.cilk_types.specs.Spawning.{spawns_in_list}
use Rattle.cilk_types.proofs.spawning.+spawning.Given as goal

abbrev pub invariant-some_spawns-loop-i : goal.invariant-some_spawns-loop-i
invariant-some_spawns-loop-i l = spawns_in_list (drop l.i l.body) ≡ spawns_in_list l.body
