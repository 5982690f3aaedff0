use Rattle.std.proofs.Common.{◌≡◌, ◌++◌, take}
use Rattle.std.specs.Prelude.{flat_map}
use Rattle.nodelet_core.specs.Kept.{names_at}
use Rattle.sim_core.proofs.naming.add_standing.Given as goal

abbrev pub invariant-loop-nodelet : goal.invariant-loop-nodelet
invariant-loop-nodelet l = l.names ≡ l.initial.names ++ flat_map names_at (take l.nodelet-index l.nodes)
