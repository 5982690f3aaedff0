use Rattle.std.proofs.Common.{◌≡◌, ◌++◌, take}
use Rattle.std.specs.Prelude.{flat_map}
use Rattle.sim_core.specs.code.Named.{names_from}
use Rattle.sim_core.proofs.naming.add_travelling.Given as goal

abbrev pub invariant-loop-outgoing : goal.invariant-loop-outgoing
invariant-loop-outgoing l = l.names ≡ l.initial.names ++ flat_map names_from (take l.outgoing-index l.links)
