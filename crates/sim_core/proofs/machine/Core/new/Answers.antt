use Rattle.std.proofs.Common.{◌≡◌, ℕ, [], Option, None, Some, refl}
use Rattle.std.specs.Prelude.{slice_get}
use Rattle.nodelet_core.specs.declared.nodelet.Nodelet.{Nodelet}
use Rattle.sim_core.specs.Advanced.{entries_in}
use Rattle.sim_core.proofs.FirstCore.{first_core, first_fits, first_numbered, clear_fits}
use Rattle.sim_core.proofs.Playing.{reached_first}
use Rattle.sim_core.proofs.machine.Core.new.Goals as goal

pub invariant_of-result : goal.invariant_of-result
invariant_of-result c = record {
  some = c.requires.some;
  few = c.requires.few;
  nodes_count = c.in_ok-nodes.ensures.count;
  links_count = c.in_ok-links.ensures.count;
  all_linked = c.in_ok-links.ensures.linked;
  numbered = first_numbered c.args.code.now.code c.args.n c.args.turns c.args.rules c.in_ok-nodes.nodes.items c.in_ok-links.links.items c.in_ok-nodes.ensures.first;
}

pub returns-clause-core : goal.returns-clause-core
returns-clause-core c =
    first_core c.args.code.now.code c.args.n c.args.turns c.args.rules c.in_ok-nodes.nodes.items c.in_ok-links.links.items
    c.in_ok-nodes.ensures.first c.in_ok-links.ensures.clear

pub returns-clause-fits : goal.returns-clause-fits
returns-clause-fits c =
    rw (
      first_fits c.args.code.now.code c.args.n c.args.turns c.args.rules c.in_ok-nodes.nodes.items c.in_ok-links.links.items c.in_ok-nodes.ensures.first,
      clear_fits c.args.code.now.code c.in_ok-links.links.items c.in_ok-links.ensures.clear,
    ) refl

pub returns-clause-reached : goal.returns-clause-reached
returns-clause-reached c = reached_first c.args.code.now.code _ (returns-clause-core c)

pub returns-clause-entries : goal.returns-clause-entries
returns-clause-entries c = λ k. none k (slice_get c.in_ok-nodes.nodes.items k) refl
  where
    none : (k : ℕ) (o : Option Nodelet) → slice_get c.in_ok-nodes.nodes.items k ≡ o → entries_in o ≡ []
    none k None e = refl
    none k (Some v) e = (c.in_ok-nodes.ensures.first k v e).entries
