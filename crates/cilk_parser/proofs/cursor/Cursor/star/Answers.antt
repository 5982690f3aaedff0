use Rattle.cilk_parser.proofs.CodeExpressions.{star_there, star_not}
use Rattle.cilk_parser.proofs.cursor.Cursor.star.Goals as goal

pub returns-in-Some-clause-reads : goal.returns-in-Some-clause-reads
returns-in-Some-clause-reads c = star_there _ _ _ c.in-Some.ensures.found c.in-Some.ensures.left

pub returns-in-None-clause-reads : goal.returns-in-None-clause-reads
returns-in-None-clause-reads c = star_not _ _ c.in-None.ensures.found c.in-None.ensures.left
