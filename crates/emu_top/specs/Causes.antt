-- Why a call answers as it does.
use Rattle.std.specs.Prelude.{◌≡◌, ℕ, ◌<◌, ◌≤◌, List, length, take, ◌⊎◌, Option, None, IfSome}
use Rattle.cilk_ast.specs.declared.fault.TextFault.{TextFault}
use Rattle.cilk_ast.specs.declared.fault.TextRefusal.{TextRefusal}
use Rattle.cilk_ast.specs.declared.fault.TextRefusal.TheVariants as refusal
use Rattle.emu_io.specs.Faults.{Rose}
use Rattle.emu_io.specs.Held.{Grew}
use Rattle.cilk_ast.specs.declared.program.Program.{Program}
use Rattle.cilk_ast.specs.declared.tree.Tree.{Tree}
use Rattle.cilk_model.specs.Texts.{SpellsTree, SpellsProgram, FirstFault}
use Rattle.cilk_model.specs.Checked.{Checked as IsProgram}
use Rattle.cilk_model.specs.Canonical.{canonical_text}
use Rattle.threadlet_code.specs.declared.code.Code.{Code}
use Rattle.code_text.specs.CodeText.{code_text}
use Rattle.emu_words.specs.declared.asked.Asked.{Asked}
use Rattle.emu_words.specs.declared.asked.Mode.{Mode}
use Rattle.emu_words.specs.declared.asked.Mode.TheVariants.{Check, Emit, Run, Gen, Replay, Audit, Exec, Time, Upgrade}
use Rattle.emu_top.specs.Words.{request_in, Asks}
use Rattle.emu_top.specs.Sources.{text_limit, workload_of, IsUntouched, IsSource}
use Rattle.emu_top.specs.Runs.{IsCompiled, IsRunOf}
use Rattle.emu_top.specs.Verdicts.{status_of, text_of, ran_of, fault_of, code_of}
use Rattle.emu_top.specs.declared.ended.Ended.{Ended}
use Rattle.emu_top.specs.declared.verdict.Verdict.{Verdict}
use Rattle.emu_top.specs.declared.verdict.Verdict.TheVariants.{BadWords, Unread, TooLong, Refused, Printed, Emitted, HasRun}

-- ---- what a text comes to

-- The refusal tells the text's first fault, or that memory is short.
abbrev pub RefusesText : List ℕ → TextRefusal → Type 0
RefusesText text (refusal.Fault fault) = FirstFault text fault
RefusesText text refusal.OutOfMemory = Unit {0}

-- The canonical text of the tree that the text spells, which is a program.
pub record IsPrintOf (text bytes : List ℕ) : Type 0 where
  pub tree : Tree
  pub program : Program
  pub spells : SpellsTree text tree
  pub checked : IsProgram tree program
  pub printed : bytes ≡ canonical_text tree

-- The text of the code of the program that the text spells.
pub record IsCodeOf (text : List ℕ) (code : Code) (bytes : List ℕ) : Type 0 where
  pub program : Program
  pub spells : SpellsProgram text program
  pub compiled : IsCompiled program code
  pub written : bytes ≡ code_text code

-- A text is judged by its first fault in modes that read a program; a text that is made is not judged.
abbrev pub RefusesIn : Mode → List ℕ → TextFault → Type 0
RefusesIn Check text fault = FirstFault text fault
RefusesIn Emit text fault = FirstFault text fault
RefusesIn Run text fault = FirstFault text fault
RefusesIn Gen text fault = ⊥
RefusesIn Replay text fault = ⊥
RefusesIn Audit text fault = ⊥
RefusesIn Exec text fault = ⊥
RefusesIn Time text fault = ⊥
RefusesIn Upgrade text fault = ⊥

-- Bytes are the text as a mode asks for it: the canonical one in a check, the very text where it is made.
abbrev pub PrintsIn : Mode → List ℕ → List ℕ → Type 0
PrintsIn Check text bytes = IsPrintOf text bytes
PrintsIn Gen text bytes = bytes ≡ text
PrintsIn Emit text bytes = ⊥
PrintsIn Run text bytes = ⊥
PrintsIn Replay text bytes = ⊥
PrintsIn Audit text bytes = ⊥
PrintsIn Exec text bytes = ⊥
PrintsIn Time text bytes = ⊥
PrintsIn Upgrade text bytes = ⊥

-- The verdict on a text, as the words asked for it.
abbrev pub JudgesText : Asked → List ℕ → Verdict → Type 0
JudgesText asked text BadWords = ⊥
JudgesText asked text Unread = ⊥
JudgesText asked text TooLong = ⊥
JudgesText asked text (Refused fault) = RefusesIn asked.mode text fault
JudgesText asked text (Printed bytes) = PrintsIn asked.mode text bytes
JudgesText asked text (Emitted code bytes) = (asked.mode ≡ Emit) × IsCodeOf text code.code bytes
JudgesText asked text (HasRun code ran bytes) = (asked.mode ≡ Run) × IsRunOf asked text code.code ran bytes

-- ---- what a call comes to

-- A text of a workload or of the source, which is not too long, is so.
pub record HasText (asked : Asked) (faults_before faults_after : ℕ) (left_before left_after : Option (List ℕ)) (P : List ℕ → Type 0) : Type 0 where
  pub text : List ℕ
  pub source : IsSource (workload_of asked) faults_before faults_after left_before left_after text
  pub short : length text ≤ text_limit
  pub holds : P text

-- The words ask for what is judged by a text, and the verdict is the one on that text.
abbrev pub JudgesSource : List (List ℕ) → ℕ → ℕ → Option (List ℕ) → Option (List ℕ) → Verdict → Type 0
JudgesSource words faults_before faults_after left_before left_after verdict =
    Asks words (λ asked. HasText asked faults_before faults_after left_before left_after (λ text. JudgesText asked text verdict))

-- The cause of a verdict: what the words ask for, what the source counted, and what it gave.
abbrev pub HasCause : List (List ℕ) → ℕ → ℕ → Option (List ℕ) → Option (List ℕ) → Verdict → Type 0
HasCause words faults_before faults_after left_before left_after BadWords =
    (request_in words ≡ None) × IsUntouched faults_before faults_after left_before left_after
HasCause words faults_before faults_after left_before left_after Unread =
    Asks words (λ asked. workload_of asked ≡ None) × Rose faults_before faults_after
HasCause words faults_before faults_after left_before left_after TooLong =
    Asks words (λ asked. workload_of asked ≡ None) × IfSome left_before (λ text. text_limit < length text)
HasCause words faults_before faults_after left_before left_after (Refused fault) =
    JudgesSource words faults_before faults_after left_before left_after (Refused fault)
HasCause words faults_before faults_after left_before left_after (Printed bytes) =
    JudgesSource words faults_before faults_after left_before left_after (Printed bytes)
HasCause words faults_before faults_after left_before left_after (Emitted code bytes) =
    JudgesSource words faults_before faults_after left_before left_after (Emitted code bytes)
HasCause words faults_before faults_after left_before left_after (HasRun code ran bytes) =
    JudgesSource words faults_before faults_after left_before left_after (HasRun code ran bytes)

-- All bytes are written, and the status is the verdict's; or the sink's faults rose, a beginning of the bytes is
-- written, and the status is 6.
abbrev pub IsWritten : List ℕ → ℕ → ℕ → ℕ → ℕ → Option (List ℕ) → Option (List ℕ) → Type 0
IsWritten text status whole_status faults_before faults_after held_before held_after =
    ((status ≡ whole_status) × Grew held_before held_after text)
    ⊎ ((status ≡ 6) × Rose faults_before faults_after × ((n : ℕ) × (n < length text) × Grew held_before held_after (take n text)))

-- What a call came to is a verdict with its cause, shown and written.
pub record IsAnswer (words : List (List ℕ)) (source_before source_after : ℕ) (left_before left_after : Option (List ℕ)) (sink_before sink_after : ℕ) (held_before held_after : Option (List ℕ)) (ended : Ended) : Type 0 where
  pub verdict : Verdict
  pub cause : HasCause words source_before source_after left_before left_after verdict
  pub ran : ended.ran ≡ ran_of verdict
  pub fault : ended.fault ≡ fault_of verdict
  pub code : ended.code ≡ code_of verdict
  pub written : IsWritten (text_of verdict) ended.status (status_of verdict) sink_before sink_after held_before held_after
