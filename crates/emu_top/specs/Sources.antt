-- Where the text comes from: a workload that the words name, or the source.
use Rattle.std.specs.Prelude.{◌≡◌, ℕ, List, Option, Some, None, unwrap_or}
use Rattle.emu_io.specs.Left.{GaveAll}
use Rattle.workloads.specs.Workload.{workload_text}
use Rattle.emu_words.specs.declared.asked.Asked.{Asked}
use Rattle.emu_words.specs.declared.asked.Mode.{Mode}
use Rattle.emu_words.specs.declared.asked.Mode.TheVariants.{Check, Emit, Run, Gen, Replay, Audit, Exec, Time, Upgrade}

-- The most bytes that a text has.
abbrev pub text_limit : ℕ
text_limit = 1048576

-- The number of the workload whose text stands in for the source: one is always meant in `gen`, and one may be in `run`.
abbrev pub workload_for : Mode → Option ℕ → Option ℕ
workload_for Gen number = Some (unwrap_or number 0)
workload_for Run number = number
workload_for Check number = None
workload_for Emit number = None
workload_for Replay number = None
workload_for Audit number = None
workload_for Exec number = None
workload_for Time number = None
workload_for Upgrade number = None

abbrev pub workload_of : Asked → Option ℕ
workload_of asked = workload_for asked.mode asked.workload

-- The source is as it was: it counts no fault more, and has left what it had left.
pub record IsUntouched (faults_before faults_after : ℕ) (left_before left_after : Option (List ℕ)) : Type 0 where
  pub faults : faults_after ≡ faults_before
  pub left : left_after ≡ left_before

-- A text is that of a workload, and the source is as it was; or it is all that the source had left.
abbrev pub IsSource : Option ℕ → ℕ → ℕ → Option (List ℕ) → Option (List ℕ) → List ℕ → Type 0
IsSource (Some number) faults_before faults_after left_before left_after text =
    (text ≡ workload_text number) × IsUntouched faults_before faults_after left_before left_after
IsSource None faults_before faults_after left_before left_after text = GaveAll left_before left_after text
