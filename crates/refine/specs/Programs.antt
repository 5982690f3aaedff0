-- A program on the nodelets of the code that is run.
use Rattle.cilk_ast.specs.declared.program.Program.{Program}
use Rattle.cilk_model.specs.ProgramMeaning.{meaning_of}
use Rattle.world_model.specs.World.{Setting}
use Rattle.core_model.specs.Nodes.{Setup}

-- What a program means on the nodelets and turns of a run, under its rules.
abbrev pub program_on : Setup → Program → Setting
program_on u program = record { meaning = meaning_of program; nodelets = u.nodelets; turns = u.turns; rules = u.rules }
