use Rattle.std.proofs.Common.{◌∙◌, ap}
use Rattle.cilk_ast.specs.declared.program.Function.{Function}
use Rattle.cilk_types.specs.Around.{around_of}
use Rattle.cilk_types.specs.Making.{walked_of, back, leaving}
use Rattle.cilk_types.proofs.lower_bodies.leave.Goals as goal

pub returns : goal.returns
unfolding leaving around_of
returns c =
    c.go_back.ensures
    ∙ ap (λ (f : Function). back (around_of c.args.around) f (walked_of c.args.walk.now)) c.in_ok-function.ensures
