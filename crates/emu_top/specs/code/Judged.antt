-- What a program comes to.
use Rattle.std.specs.Prelude.{◌≡◌, ◌*◌, ℕ, List, length}
use Rattle.word_ops.specs.declared.traffic.Traffic.{Traffic}
use Rattle.cilk_ast.specs.declared.program.Program.{Program}
use Rattle.cilk_model.specs.Written.{IsWritten}
use Rattle.threadlet_code.specs.declared.code.Code.{Code}
use Rattle.code_text.specs.CodeText.{code_text}
use Rattle.traffic_report.specs.declared.run.Ran.{Ran}
use Rattle.traffic_report.specs.Runs.{IsWholeRun}
use Rattle.serial_sim.specs.Scheduled.{IsScheduled}
use Rattle.emu_words.specs.declared.asked.Asked.{Asked}
use Rattle.emu_top.specs.Runs.{asked_setting, asked_setup, asked_seed, asked_wanted, IsCompiled}
use Rattle.emu_top.specs.declared.verdict.Verdict.{Verdict}
use Rattle.emu_top.specs.declared.verdict.Verdict.TheVariants.{BadWords, Unread, TooLong, Refused, Printed, Emitted, HasRun}

-- The code of a program, and its text.
pub record IsEmittedOf (program : Program) (code : Code) (bytes : List ℕ) : Type 0 where
  pub compiled : IsCompiled program code
  pub written : bytes ≡ code_text code

abbrev pub IsEmitted : Program → Verdict → Type 0
IsEmitted program BadWords = ⊥
IsEmitted program Unread = ⊥
IsEmitted program TooLong = ⊥
IsEmitted program (Refused fault) = ⊥
IsEmitted program (Printed bytes) = ⊥
IsEmitted program (Emitted code bytes) = IsEmittedOf program code.code bytes
IsEmitted program (HasRun code ran bytes) = ⊥

-- The run of a program that was asked for; what is written of it says nothing of the source text, since no journal is
-- asked for.
pub record IsProgramRun (asked : Asked) (program : Program) (code : Code) (ran : Ran) (bytes : List ℕ) : Type 0 where
  pub compiled : IsCompiled program code
  pub run : IsWholeRun (asked_setting asked program) ran
  pub scheduled : IsScheduled (asked_setup asked code) (asked_seed asked) ran
  pub written : (text : List ℕ) → IsWritten (asked_wanted asked) (asked_setting asked program) text ran.told ran.parts bytes

abbrev pub HasRunOf : Asked → Program → Verdict → Type 0
HasRunOf asked program BadWords = ⊥
HasRunOf asked program Unread = ⊥
HasRunOf asked program TooLong = ⊥
HasRunOf asked program (Refused fault) = ⊥
HasRunOf asked program (Printed bytes) = ⊥
HasRunOf asked program (Emitted code bytes) = ⊥
HasRunOf asked program (HasRun code ran bytes) = IsProgramRun asked program code.code ran bytes

-- Traffic has a count for each pair of nodelets, and for each nodelet.
pub record HasEachCount (t : Traffic) : Type 0 where
  pub moves : length t.moves ≡ t.n * t.n
  pub births : length t.births ≡ t.n * t.n
  pub posts : length t.posts ≡ t.n * t.n
  pub dones : length t.dones ≡ t.n * t.n
  pub turns : length t.turns ≡ t.n
  pub applied : length t.applied ≡ t.n
