use Rattle.std.proofs.Common.{sym}
use Rattle.std.proofs.Common.{rules}
use Rattle.std.proofs.lemmas.Iterator.{YieldsList-from_slice}
use Rattle.std.proofs.lemmas.Iterator.Adapters.{serves_from_places}
use Rattle.nodelet_core.specs.Kept.{context_fits}
use Rattle.nodelet_core.proofs.Found.{holds_at}
use Rattle.nodelet_core.proofs.going.any_at_turn.Goals as goal

pub any-requires-clause-callable : goal.any-requires-clause-callable
any-requires-clause-callable c =
    serves_from_places (YieldsList-from_slice c.args.contexts.now c.iter.ensures.rest) (λ x q r. search rules)
    (λ x k less is. holds_at (context_fits c.args.code.now.code) c.args.contexts.now c.requires.fits k x.now less (sym is))
