use Rattle.std.proofs.Common.{◌∙◌}
use Rattle.cilk_types.proofs.FramesCopies.{is_found}
use Rattle.cilk_types.proofs.frames.has_number.Goals as goal

pub returns : goal.returns
returns c = c.is_ok.ensures.value ∙ is_found c.args.sorted.now c.args.number c.binary_search.result c.binary_search.ensures.position c.requires
