use Rattle.cilk_parser.proofs.syntax_laws.law_one_fault.Goals as goal
use Rattle.cilk_parser.proofs.Unique.{one_fault}

pub returns : goal.returns
returns c = one_fault
