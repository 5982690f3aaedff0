use Rattle.cilk_types.specs.Around.{around_of}
use Rattle.cilk_types.specs.Making.{walked_of, back}
use Rattle.cilk_types.proofs.lower_bodies.go_back.Goals as goal

pub returns : goal.returns
unfolding walked_of around_of back
returns c =
    let w = walked_of c.args.walk.now in
    λ i. record w {
      scopes = record (c.close_scope.ensures i) { level = c.args.around.level };
      frame = c.args.around.frame;
      bodies = c.put_function.ensures i;
    }
