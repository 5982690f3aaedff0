-- What holds of the code of programs.
use Rattle.std.specs.Prelude.{◌≡◌, true}
use Rattle.cilk_ast.specs.declared.program.Program.{Program}
use Rattle.threadlet_code.specs.Breaches.{is_sound}
use Rattle.codegen_stmt.specs.Whole.{code_of}

-- The code of every program keeps all rules, so that verification refuses it for want of memory alone.
abbrev pub CodeOfProgramsKeepsRules : Type 0
CodeOfProgramsKeepsRules = (program : Program) → is_sound (code_of program) ≡ true
