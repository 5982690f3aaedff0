use Rattle.std.proofs.Common.{◌-◌, length}
use Rattle.cilk_lexer.proofs.Walks.{IsWalked}
use Rattle.cilk_lexer.proofs.lexing.lex.Given as goal

abbrev pub invariant-loop-spot : goal.invariant-loop-spot
invariant-loop-spot l = IsWalked l.text l.tokens l.spot

abbrev pub decreases-loop-spot : goal.decreases-loop-spot
decreases-loop-spot l = length l.text - l.spot.at
