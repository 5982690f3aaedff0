use Rattle.std.proofs.Common.{ap}
use Rattle.cilk_model.specs.Scopes as model
use Rattle.cilk_types.specs.Making.{Walked, walked_of, without}
use Rattle.cilk_types.proofs.walk.close.Goals as goal

pub returns : goal.returns
unfolding walked_of without
returns c = ap (λ (s : model.Scopes). let w : Walked = record (walked_of c.args.walk.now) { scopes = s } in w) c.close_scope.ensures
