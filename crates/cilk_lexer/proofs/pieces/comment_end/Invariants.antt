use Rattle.std.proofs.Common.{◌≡◌, ◌+◌, drop}
use Rattle.std.specs.Option.{option_map}
use Rattle.cilk_model.specs.Pieces.{comment_end}
use Rattle.cilk_lexer.proofs.pieces.comment_end.Given as goal

abbrev pub invariant-loop-i : goal.invariant-loop-i
invariant-loop-i l = comment_end l.rest ≡ option_map (λ n. n + l.i) (comment_end (drop l.i l.rest))
