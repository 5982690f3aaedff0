use Rattle.std.proofs.Common.{◌≡◌, take}
use Rattle.codegen_stmt.specs.Whole.{functions_code, formats_code}
use Rattle.codegen_stmt.proofs.programs.write.Given as goal

abbrev pub invariant-loop-i : goal.invariant-loop-i
invariant-loop-i l = (l.functions ≡ functions_code (take l.i l.program.functions) 0) × (l.formats ≡ formats_code (take l.i l.program.functions))
