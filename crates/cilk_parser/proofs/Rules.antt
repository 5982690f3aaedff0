-- How a form reads a row of tokens, from how its parts read theirs: what all rules are made of.
use Rattle.std.proofs.Common.{◌≡◌, Ok, ◌∙◌, ap}
use Rattle.cilk_model.specs.Grammar.{Row}
use Rattle.cilk_model.specs.GrammarForms.{Form, Val}
use Rattle.cilk_parser.specs.Parsers.{Answer, Parser, goes_on}
use Rattle.cilk_parser.specs.Read.{read}

-- The form reads the value from the row and leaves the rest.
pub record Reads (n : Form) (ts : Row) (x : Val n) (rest : Row) : Type 0 where
  pub it : read n ts ≡ Ok (x, rest)

-- Behind a part that is read.
pub seq : {X Y : Type 0} (f : X → Parser Y) (a : Answer X) (x : X) (r : Row) (z : Answer Y) → a ≡ Ok (x, r) → f x r ≡ z → goes_on f a ≡ z
seq f a x r z e g = ap (goes_on f) e ∙ g

pub mapped : {X Y : Type 0} (f : X → Y) (a : Answer X) (x : X) (r : Row) → a ≡ Ok (x, r) → goes_on (λ x r. Ok (f x, r)) a ≡ Ok (f x, r)
mapped f a x r e = ap (goes_on (λ x r. Ok (f x, r))) e
