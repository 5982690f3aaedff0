use Rattle.cilk_parser.proofs.syntax_laws.law_one_tree.Goals as goal
use Rattle.cilk_parser.proofs.Unique.{one_tree}

pub returns : goal.returns
returns c = one_tree
