use Rattle.std.proofs.Common.{◌≡◌, length}
use Rattle.std.specs.Prelude.{true}
use Rattle.std.specs.List.{list_all}
use Rattle.sim_core.specs.code.Links.{has_links, are_clear}
use Rattle.sim_core.proofs.starting.first_links.Given as goal

abbrev pub invariant-loop : goal.invariant-loop
invariant-loop l = record {
  count : length l.links.items ≡ l.counter;
  linked : list_all (has_links l.n) l.links.items ≡ true;
  clear : list_all are_clear l.links.items ≡ true;
}
