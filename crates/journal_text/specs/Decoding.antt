-- The journal that bytes are, or else the first line that is broken, and how.
use Rattle.std.specs.Prelude.{ℕ, zero, suc, ◌+◌, ◌-◌, ◌^◌, ◌==◌, ⊤, List, [], ◌∷◌, ◌++◌, codes, length, take, drop, Option, Some, None, Result, Ok, Err}
use Rattle.std.specs.List.{count_by}
use Rattle.word_ops.specs.declared.step.Step.{Step}
use Rattle.journal_text.specs.Reading.{behind, count_in_line, step_in}
use Rattle.journal_text.specs.declared.fault.JournalFault.{JournalFault}
use Rattle.journal_text.specs.declared.fault.JournalKind.{JournalKind}
use Rattle.journal_text.specs.declared.fault.JournalKind.TheVariants as kind
use Rattle.journal_text.specs.declared.journal.Journal.{Journal}
use Rattle.journal_text.specs.declared.reading.Head.{Head}

-- a line that is broken
abbrev pub broken : ℕ → JournalKind → JournalFault
broken line kind = record { line = line; kind = kind }

-- goes on with what was found; without it the line is broken
abbrev pub needs : {A B : Type 0} → ℕ → JournalKind → Option A → (A → Result B JournalFault) → Result B JournalFault
needs line kind None next = Err (broken line kind)
needs line kind (Some x) next = next x

-- goes on unless a line is broken
abbrev pub then_on : {A B : Type 0} → Result A JournalFault → (A → Result B JournalFault) → Result B JournalFault
then_on (Err fault) next = Err fault
then_on (Ok x) next = next x

-- how many newlines a text has
abbrev pub newlines : List ℕ → ℕ
newlines text = count_by (λ b. b == 10) text

-- the numbers of the first four lines, and what stands behind them
abbrev pub head_in : List ℕ → Result (Head × List ℕ) JournalFault
head_in bytes =
    needs 1 kind.BadHead (count_in_line (codes "emu-journal ") 1 2 bytes) (λ v.
    needs 2 kind.BadNodelets (count_in_line (codes "nodelets ") 1 64 v.1) (λ n.
    needs 3 kind.BadTurns (count_in_line (codes "turns ") 1 (2 ^ 40) n.1) (λ b.
    needs 4 kind.BadLength (count_in_line (codes "source ") 0 1048576 b.1) (λ l.
    Ok (record { version = v.0; n = n.0; turns = b.0; length = l.0 }, l.1)))))

-- the text of a size that stands on lines from the fifth, and what stands behind its newline
abbrev pub text_in : ℕ → List ℕ → Result (List ℕ × List ℕ) JournalFault
text_in size bytes = needs (5 + newlines (take size bytes)) kind.ShortSource (behind (10 ∷ []) (drop size bytes)) (λ rest. Ok (take size bytes, rest))

-- behind the steps done, which begin at a line, as many more as there are to be, and what stands behind them
abbrev pub steps_in : ℕ → ℕ → List Step → ℕ → List ℕ → Result (List Step × List ℕ) JournalFault
steps_in n line done zero bytes = Ok (done, bytes)
steps_in n line done (suc more) bytes = needs (line + length done) kind.BadStep (step_in n bytes) (λ x. steps_in n line (done ++ x.0 ∷ []) more x.1)

-- nothing stands there
abbrev pub nothing : List ℕ → Option ⊤
nothing [] = Some tt
nothing (_ ∷ _) = None

-- the last line, and nothing behind it
abbrev pub end_in : ℕ → List ℕ → Result ⊤ JournalFault
end_in line bytes = needs line kind.BadEnd (behind (codes "end\n") bytes) (λ rest. needs (line + 1) kind.BadEnd (nothing rest) (λ done. Ok done))

-- the journal that the bytes are, or its first broken line
abbrev pub journal_in : List ℕ → Result Journal JournalFault
journal_in bytes =
    then_on (head_in bytes) (λ h.
    then_on (text_in h.0.length h.1) (λ t.
    let line = 6 + newlines t.0 in
    needs line kind.BadCount (count_in_line (codes "steps ") 0 (2 ^ 64 - 1) t.1) (λ c.
    then_on (steps_in h.0.n (line + 1) [] c.0 c.1) (λ s.
    then_on (end_in (line + 1 + length s.0) s.1) (λ done.
    Ok (record { version = h.0.version; n = h.0.n; turns = h.0.turns; text = t.0; steps = s.0 }))))))
