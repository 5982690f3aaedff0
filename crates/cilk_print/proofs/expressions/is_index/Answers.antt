use Rattle.std.proofs.Common.{◌∙◌, ap, sym}
use Rattle.cilk_print.specs.Printing.{is_indexed}
use Rattle.cilk_print.proofs.Chains.{index_is_index}
use Rattle.cilk_print.proofs.expressions.is_index.Goals as goal

pub returns-in-Index : goal.returns-in-Index
returns-in-Index c = sym (ap is_indexed c.in-Index.is ∙ index_is_index c.in-Index.pos c.in-Index.base c.in-Index.index)
