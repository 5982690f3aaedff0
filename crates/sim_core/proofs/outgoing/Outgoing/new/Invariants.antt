use Rattle.std.proofs.Common.{◌≡◌, length}
use Rattle.std.specs.Prelude.{true}
use Rattle.std.specs.List.{list_all}
use Rattle.sim_core.specs.code.Links.{is_clear}
use Rattle.sim_core.proofs.outgoing.Outgoing.new.Given as goal

abbrev pub invariant-loop : goal.invariant-loop
invariant-loop l = record { count : length l.links.items ≡ l.counter; clear : list_all is_clear l.links.items ≡ true }
