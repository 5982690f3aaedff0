use Rattle.std.proofs.Common.{codes, ap, sym}
use Rattle.cilk_model.specs.Signs.{prefix_spelling}
use Rattle.cilk_model.specs.TreeTokens.{prefix}
use Rattle.cilk_print.proofs.spellings.prefix.Goals as goal

pub returns-in-Neg-clause-spelling : goal.returns-in-Neg-clause-spelling
returns-in-Neg-clause-spelling c = sym (ap (λ o. codes (prefix_spelling (prefix o))) c.in-Neg.is)

pub returns-in-Not-clause-spelling : goal.returns-in-Not-clause-spelling
returns-in-Not-clause-spelling c = sym (ap (λ o. codes (prefix_spelling (prefix o))) c.in-Not.is)

pub returns-in-Flip-clause-spelling : goal.returns-in-Flip-clause-spelling
returns-in-Flip-clause-spelling c = sym (ap (λ o. codes (prefix_spelling (prefix o))) c.in-Flip.is)
