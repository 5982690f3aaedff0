use Rattle.cilk_parser.proofs.syntax_laws.law_one_of_both.Goals as goal
use Rattle.cilk_parser.proofs.Unique.{one_of_both}

pub returns : goal.returns
returns c = one_of_both
