use Rattle.std.proofs.Common.{◌∙◌, subst, sym}
use Rattle.cilk_types.specs.Making.{walked_of, IsPast}
use Rattle.cilk_types.proofs.WholeForms.{block_made, block_past, other_made, other_past}
use Rattle.cilk_types.proofs.lower_functions.whole.Goals as goal

pub returns-in_ok-block-in-Block-clause-made : goal.returns-in_ok-block-in-Block-clause-made
returns-in_ok-block-in-Block-clause-made c =
    block_made c.args.body.now c.in-Block.list c.as_slice.result.now (walked_of c.args.walk.now) c.in_ok-made-in-Block.made c.in_ok-block-in-Block.block c.in-Block.is
    c.as_slice.ensures c.in_ok-made-in-Block.ensures.made c.in_ok-block-in-Block.ensures

pub returns-in_ok-block-in-Block-clause-past : goal.returns-in_ok-block-in-Block-clause-past
returns-in_ok-block-in-Block-clause-past c =
    block_past c.args.body.now c.in-Block.list c.as_slice.result.now (walked_of c.args.walk.now) (walked_of c.statements.new.walk) c.in-Block.is c.as_slice.ensures
    c.in_ok-made-in-Block.ensures.past

pub returns-in_ok-made-in_default-clause-made : goal.returns-in_ok-made-in_default-clause-made
returns-in_ok-made-in_default-clause-made c =
    c.in_ok-made-in_default.ensures.made ∙ other_made c.args.body.now (walked_of c.args.walk.now) c.in_default.not-Block

pub returns-in_ok-made-in_default-clause-past : goal.returns-in_ok-made-in_default-clause-past
returns-in_ok-made-in_default-clause-past c =
    subst (IsPast c.args.body.now (walked_of c.args.walk.now)) (sym c.in_ok-made-in_default.ensures.past)
    (other_past c.args.body.now (walked_of c.args.walk.now) c.in_default.not-Block)
