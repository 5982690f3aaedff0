use Rattle.std.proofs.Common.{◌∙◌, ap, sym}
use Rattle.cilk_types.specs.Judging.{is_single, is_double}
use Rattle.cilk_types.proofs.Chains.{index_is_double}
use Rattle.cilk_types.proofs.expressions.is_index_of_index.Goals as goal

pub returns-in-Index : goal.returns-in-Index
returns-in-Index c =
    c.is_index.ensures ∙ ap is_single c.get.ensures
    ∙ sym (ap is_double c.in-Index.is ∙ index_is_double c.in-Index.pos c.in-Index.base c.in-Index.index)
