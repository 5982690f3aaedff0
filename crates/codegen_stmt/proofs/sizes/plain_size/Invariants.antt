use Rattle.std.proofs.Common.{◌≡◌, take}
use Rattle.codegen_expr.specs.Piece.{in_order}
use Rattle.codegen_expr.specs.Emitted.{emitted_each}
use Rattle.codegen_stmt.specs.Parts.{words_of}
use Rattle.codegen_stmt.proofs.sizes.plain_size.Given as goal

abbrev pub invariant-loop-i : goal.invariant-loop-i
invariant-loop-i l = l.total ≡ (in_order (emitted_each (take l.i (words_of l.s)))).size
