use Rattle.std.proofs.Common.{◌∙◌, ap}
use Rattle.cilk_model.specs.ExpressionLowering.{index_of}
use Rattle.cilk_types.specs.Making.{walked_of, called_at}
use Rattle.cilk_types.proofs.walk.called.Goals as goal

pub returns : goal.returns
unfolding walked_of called_at
returns c = c.index_of-index.ensures ∙ ap index_of c.meaning-found.ensures
