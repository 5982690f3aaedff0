use Rattle.std.proofs.Common.{◌≡◌, ◌++◌, take}
use Rattle.std.specs.Prelude.{flat_map}
use Rattle.sim_core.specs.code.Named.{names_on}
use Rattle.sim_core.proofs.naming.add_outgoing.Given as goal

abbrev pub invariant-loop-link : goal.invariant-loop-link
invariant-loop-link l = l.names ≡ l.initial.names ++ flat_map names_on (take l.link-index l.links)
