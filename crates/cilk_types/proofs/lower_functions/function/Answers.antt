use Rattle.cilk_types.specs.Shown.{file_of}
use Rattle.cilk_types.specs.Making.{walked_of}
use Rattle.cilk_types.proofs.WholeForms.{function_is, bodies_are, next_is}
use Rattle.cilk_types.proofs.lower_functions.function.Goals as goal

pub returns-clause-function : goal.returns-clause-function
returns-clause-function c =
    function_is (file_of c.args.file.now) c.args.name.now c.args.params.now c.args.body.now c.args.next c.args.bodies (walked_of c.in_ok-walk.walk)
    (walked_of c.whole.new.walk) c.in_ok-walk.ensures c.in_ok-made.ensures.past c.in_ok-made.made c.in_ok-count.count c.in_ok-written.written
    c.in_ok-made.ensures.made c.in_ok-count.ensures c.in_ok-written.ensures

pub returns-clause-bodies : goal.returns-clause-bodies
unfolding walked_of
returns-clause-bodies c =
    bodies_are (file_of c.args.file.now) c.args.name.now c.args.params.now c.args.body.now c.args.next c.args.bodies (walked_of c.in_ok-walk.walk)
    (walked_of c.whole.new.walk) c.in_ok-walk.ensures c.in_ok-made.ensures.past

pub returns-clause-next : goal.returns-clause-next
unfolding walked_of
returns-clause-next c =
    next_is (file_of c.args.file.now) c.args.name.now c.args.params.now c.args.body.now c.args.next c.args.bodies (walked_of c.in_ok-walk.walk)
    (walked_of c.whole.new.walk) c.in_ok-walk.ensures c.in_ok-made.ensures.past
