use Rattle.std.proofs.Common.{rules}
use Rattle.cilk_types.specs.Named.{named_within}
use Rattle.cilk_types.proofs.frames.copies.Goals as goal

pub returns-clause-copies : goal.returns-clause-copies
unfolding named_within
returns-clause-copies c = search rules
