-- The meaning of a program.
use Rattle.cilk_ast.specs.declared.program.Program.{Program}
use Rattle.world_model.specs.Meaning.{Meaning}
use Rattle.cilk_model.specs.Acts.{acts}

-- Its strands do what its functions say, and it has its main and its globals. Whether answers fit a strand of
-- it is `fits (meaning_of program)`.
abbrev pub meaning_of : Program → Meaning
meaning_of program = record {
  acts = acts program.functions;
  main = program.main;
  globals = program.globals;
  replicated = program.replicated;
}
