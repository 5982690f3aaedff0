use Rattle.std.proofs.Common.{◌∙◌, ap, sym}
use Rattle.cilk_types.specs.Judging.{is_single}
use Rattle.cilk_types.proofs.Chains.{index_is_single}
use Rattle.cilk_types.proofs.expressions.is_index.Goals as goal

pub returns-in-Index : goal.returns-in-Index
returns-in-Index c = sym (ap is_single c.in-Index.is ∙ index_is_single c.in-Index.pos c.in-Index.base c.in-Index.index)
