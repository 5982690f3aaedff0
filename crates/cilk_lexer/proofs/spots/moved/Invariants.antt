use Rattle.std.proofs.Common.{◌≡◌, ◌+◌, ◌≤◌, drop}
use Rattle.cilk_model.specs.Tokens.{moved}
use Rattle.cilk_lexer.proofs.spots.moved.Given as goal

abbrev pub invariant-loop-byte : goal.invariant-loop-byte
invariant-loop-byte l =
    (moved l.fn.spot l.bytes ≡ moved l.spot (drop l.byte-index l.bytes))
    × (l.spot.at ≡ l.fn.spot.at + l.byte-index)
    × (l.spot.pos.line + l.spot.pos.column ≤ l.fn.spot.pos.line + l.fn.spot.pos.column + l.byte-index)
    × (1 ≤ l.spot.pos.column)
