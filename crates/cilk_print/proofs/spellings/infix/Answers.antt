use Rattle.std.proofs.Common.{codes, ap, sym}
use Rattle.cilk_model.specs.Signs.{binary, infix_spelling}
use Rattle.cilk_print.proofs.spellings.infix.Goals as goal

pub returns-in-Add-clause-spelling : goal.returns-in-Add-clause-spelling
returns-in-Add-clause-spelling c = sym (ap (λ o. codes (infix_spelling (binary o))) c.in-Add.is)

pub returns-in-Sub-clause-spelling : goal.returns-in-Sub-clause-spelling
returns-in-Sub-clause-spelling c = sym (ap (λ o. codes (infix_spelling (binary o))) c.in-Sub.is)

pub returns-in-Mul-clause-spelling : goal.returns-in-Mul-clause-spelling
returns-in-Mul-clause-spelling c = sym (ap (λ o. codes (infix_spelling (binary o))) c.in-Mul.is)

pub returns-in-Div-clause-spelling : goal.returns-in-Div-clause-spelling
returns-in-Div-clause-spelling c = sym (ap (λ o. codes (infix_spelling (binary o))) c.in-Div.is)

pub returns-in-Rem-clause-spelling : goal.returns-in-Rem-clause-spelling
returns-in-Rem-clause-spelling c = sym (ap (λ o. codes (infix_spelling (binary o))) c.in-Rem.is)

pub returns-in-Shl-clause-spelling : goal.returns-in-Shl-clause-spelling
returns-in-Shl-clause-spelling c = sym (ap (λ o. codes (infix_spelling (binary o))) c.in-Shl.is)

pub returns-in-Shr-clause-spelling : goal.returns-in-Shr-clause-spelling
returns-in-Shr-clause-spelling c = sym (ap (λ o. codes (infix_spelling (binary o))) c.in-Shr.is)

pub returns-in-Lt-clause-spelling : goal.returns-in-Lt-clause-spelling
returns-in-Lt-clause-spelling c = sym (ap (λ o. codes (infix_spelling (binary o))) c.in-Lt.is)

pub returns-in-Le-clause-spelling : goal.returns-in-Le-clause-spelling
returns-in-Le-clause-spelling c = sym (ap (λ o. codes (infix_spelling (binary o))) c.in-Le.is)

pub returns-in-Gt-clause-spelling : goal.returns-in-Gt-clause-spelling
returns-in-Gt-clause-spelling c = sym (ap (λ o. codes (infix_spelling (binary o))) c.in-Gt.is)

pub returns-in-Ge-clause-spelling : goal.returns-in-Ge-clause-spelling
returns-in-Ge-clause-spelling c = sym (ap (λ o. codes (infix_spelling (binary o))) c.in-Ge.is)

pub returns-in-Eq-clause-spelling : goal.returns-in-Eq-clause-spelling
returns-in-Eq-clause-spelling c = sym (ap (λ o. codes (infix_spelling (binary o))) c.in-Eq.is)

pub returns-in-Ne-clause-spelling : goal.returns-in-Ne-clause-spelling
returns-in-Ne-clause-spelling c = sym (ap (λ o. codes (infix_spelling (binary o))) c.in-Ne.is)

pub returns-in-And-clause-spelling : goal.returns-in-And-clause-spelling
returns-in-And-clause-spelling c = sym (ap (λ o. codes (infix_spelling (binary o))) c.in-And.is)

pub returns-in-Xor-clause-spelling : goal.returns-in-Xor-clause-spelling
returns-in-Xor-clause-spelling c = sym (ap (λ o. codes (infix_spelling (binary o))) c.in-Xor.is)

pub returns-in-Or-clause-spelling : goal.returns-in-Or-clause-spelling
returns-in-Or-clause-spelling c = sym (ap (λ o. codes (infix_spelling (binary o))) c.in-Or.is)
