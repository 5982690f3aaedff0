use Rattle.cilk_parser.proofs.syntax_laws.law_not_both.Goals as goal
use Rattle.cilk_parser.proofs.Unique.{not_both}

pub returns : goal.returns
returns c = not_both
