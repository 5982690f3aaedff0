use Rattle.std.proofs.Common.{sym, ap, ◌∙◌}
use Rattle.nodelet_core.specs.code.Standing.{ascends, names_of}
use Rattle.nodelet_core.proofs.Placing.{is_placed}
use Rattle.nodelet_core.proofs.standing.Standing.place.Goals as goal

pub returns : goal.returns
returns c = is_placed c.args.name c.as_slice.result.now (names_of c.args.self.now.contexts.items) (c.as_slice.ensures ∙ sym c.args.self.now.same_names)
    (ap ascends c.as_slice.ensures ∙ c.args.self.now.ascending) c.binary_search.result c.binary_search.ensures.bound c.binary_search.ensures.ok c.binary_search.ensures.position
