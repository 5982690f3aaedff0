use Rattle.std.proofs.Common.{◌∙◌}
use Rattle.cilk_types.specs.Making.{walked_of, signature_of}
use Rattle.cilk_types.proofs.lower_bodies.signature.Goals as goal

pub returns : goal.returns
unfolding walked_of signature_of
returns c = λ i. (c.in_ok-name.ensures i, (c.in_ok-slots.ensures ∙ c.len.ensures) i)
