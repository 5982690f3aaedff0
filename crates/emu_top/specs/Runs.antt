-- What a run is that was asked for.
use Rattle.std.specs.Prelude.{ℕ, List, unwrap_or}
use Rattle.word_ops.specs.declared.rules.Rules.TheVariants.{Checked}
use Rattle.cilk_ast.specs.declared.program.Program.{Program}
use Rattle.cilk_model.specs.Texts.{SpellsProgram}
use Rattle.cilk_model.specs.Written.{Wanted, setting_of, IsWritten}
use Rattle.threadlet_code.specs.declared.code.Code.{Code}
use Rattle.codegen_expr.specs.Implements.{Implements}
use Rattle.codegen_stmt.specs.Heights.{IsNarrow}
use Rattle.world_model.specs.World.{Setting}
use Rattle.traffic_report.specs.declared.run.Ran.{Ran}
use Rattle.traffic_report.specs.Runs.{IsWholeRun}
use Rattle.core_model.specs.Nodes.{Setup}
use Rattle.serial_sim.specs.Scheduled.{IsScheduled}
use Rattle.emu_words.specs.declared.asked.Asked.{Asked}

-- A program at the nodelets and turns that were asked for, under the checked rules.
abbrev pub asked_setting : Asked → Program → Setting
asked_setting asked program = setting_of program asked.n asked.turns Checked

-- So is a code.
abbrev pub asked_setup : Asked → Code → Setup
asked_setup asked code = record { code = code; nodelets = asked.n; turns = asked.turns; rules = Checked }

-- The seed of the schedule: 0 where none is given.
abbrev pub asked_seed : Asked → ℕ
asked_seed asked = unwrap_or asked.serial 0

-- What is to be written besides the output and the ending.
abbrev pub asked_wanted : Asked → Wanted
asked_wanted asked = record { memory = asked.memory; report = asked.report; journal = asked.journal; watch = asked.watch }

-- A code implements a program, with no more slots and no higher stacks than that needs.
pub record IsCompiled (program : Program) (code : Code) : Type 0 where
  pub implements : Implements code program
  pub narrow : IsNarrow code program

-- The run of the program that a text spells, as it was asked for. Its steps are a run of the program, with the
-- recorded end, output, words and traffic; they are those of the schedule of the seed, for a code that implements the
-- program; and the bytes are what is to be written of it.
pub record IsRunOf (asked : Asked) (text : List ℕ) (code : Code) (ran : Ran) (bytes : List ℕ) : Type 0 where
  pub program : Program
  pub spells : SpellsProgram text program
  pub compiled : IsCompiled program code
  pub run : IsWholeRun (asked_setting asked program) ran
  pub scheduled : IsScheduled (asked_setup asked code) (asked_seed asked) ran
  pub written : IsWritten (asked_wanted asked) (asked_setting asked program) text ran.told ran.parts bytes
