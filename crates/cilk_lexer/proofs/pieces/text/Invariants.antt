use Rattle.std.proofs.Common.{◌≡◌, drop, false}
use Rattle.cilk_model.specs.Pieces.{text_piece}
use Rattle.cilk_lexer.proofs.pieces.text.Given as goal

abbrev pub invariant-loop-i : goal.invariant-loop-i
invariant-loop-i l = text_piece false 1 (drop 1 l.rest) ≡ text_piece l.taken l.i (drop l.i l.rest)
