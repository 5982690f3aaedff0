use Rattle.std.proofs.Common.{take}
use Rattle.codegen_stmt.specs.Compiling.{GainsWords}
use Rattle.codegen_stmt.specs.Parts.{words_of}
use Rattle.codegen_stmt.proofs.simple.put_plain_words.Given as goal

abbrev pub invariant-loop-i : goal.invariant-loop-i
invariant-loop-i l = GainsWords l.fn.draft l.draft (take l.i (words_of l.s))
