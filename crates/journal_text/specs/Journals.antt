-- The journals that have a text.
use Rattle.std.specs.Prelude.{⊤, ℕ, ◌≤◌, ◌<◌, ◌^◌, ◌≡◌, ◌≢◌, List, Some, None, length}
use Rattle.std.specs.Int.{IsInRange}
use Rattle.std.specs.List.{All}
use Rattle.word_ops.specs.Journal.{journal_of}
use Rattle.word_ops.specs.declared.name.Name.{Name}
use Rattle.word_ops.specs.declared.step.Step.{Step}
use Rattle.word_ops.specs.declared.step.Step.TheVariants.{Act, Apply}
use Rattle.journal_text.specs.declared.fault.JournalFault.{JournalFault}
use Rattle.journal_text.specs.declared.fault.JournalRefusal.{JournalRefusal}
use Rattle.journal_text.specs.declared.fault.JournalRefusal.TheVariants.{Fault, OutOfMemory}
use Rattle.journal_text.specs.declared.journal.Journal.{Journal}

-- a step that applies something does so at one of n nodelets
abbrev pub IsAmong : ℕ → Step → Type 0
IsAmong n (Act name child) = ⊤
IsAmong n (Apply name nodelet) = nodelet < n

-- the version is 1 or 2, nodelets, turns and text are within their limits, and each step is among the nodelets
abbrev pub IsJournal : Journal → Type 0
IsJournal j =
    IsInRange 1 2 j.version × IsInRange 1 64 j.n × IsInRange 1 (2 ^ 40) j.turns × (length j.text ≤ 1048576) × All (IsAmong j.n) j.steps

-- what holds of the fault, where a refusal is one
abbrev pub IfFault : JournalRefusal → (JournalFault → Type 0) → Type 0
IfFault (Fault fault) P = P fault
IfFault OutOfMemory P = ⊤

-- the bytes of a journal
abbrev pub text_of : Journal → List ℕ
text_of j = journal_of j.version j.n j.turns j.text j.steps

-- the numbers of a name are words of 32 and 64 bits
abbrev pub IsName : Name → Type 0
IsName name = (name.nodelet < 2 ^ 32) × (name.number < 2 ^ 64)

-- so are those of the names of a step
abbrev pub IsNamed : Step → Type 0
IsNamed (Act name None) = IsName name
IsNamed (Act name (Some child)) = IsName name × IsName child
IsNamed (Apply name nodelet) = IsName name

-- the bytes are those of this journal, which is within its limits, and of no other
pub record IsTextOf (j : Journal) (bytes : List ℕ) : Type 0 where
  pub is_text : bytes ≡ text_of j
  pub within : IsJournal j
  pub alone : (k : Journal) → IsJournal k → All IsNamed k.steps → length k.steps < 2 ^ 64 → bytes ≡ text_of k → k ≡ j

-- the bytes are those of no journal
abbrev pub IsNoJournal : List ℕ → Type 0
IsNoJournal bytes = (j : Journal) → IsJournal j → All IsNamed j.steps → length j.steps < 2 ^ 64 → bytes ≢ text_of j
