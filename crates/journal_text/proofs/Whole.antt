-- A journal is read from its text, and from no other bytes.
use Rattle.std.proofs.Common.{◌≡◌, ◌≤◌, ◌<◌, ◌^◌, ◌+◌, ◌-◌, ℕ, zero, suc, List, [], ◌∷◌, ◌++◌, length, take, drop, codes, flat_map, Option, Some, None, Result, Ok, Err, IfOk, IfErr, refl, ap, sym, subst, ◌∙◌, append_assoc, arith}
use Rattle.std.specs.Prelude.{⊤}
use Rattle.std.specs.List.{All}
use Rattle.std.specs.Fmt.{decimal}
use Rattle.std.specs.Int.{IsInRange}
use Rattle.std.proofs.lemmas.Grind.{common_steps}
use Rattle.std.proofs.lemmas.List.{append-nil, take-append-drop}
use Rattle.std.proofs.lemmas.List.Elements.{All-cons}
use Rattle.word_ops.specs.Ending.{line}
use Rattle.word_ops.specs.Journal.{count_line, step_line}
use Rattle.word_ops.specs.declared.step.Step.{Step}
use Rattle.journal_text.specs.Reading.{behind, count_in_line, step_in}
use Rattle.journal_text.specs.Decoding.{needs, then_on, newlines, steps_in, text_in, head_in, nothing, end_in, journal_in}
use Rattle.journal_text.specs.Journals.{IsJournal, IsTextOf, IsNoJournal, IsAmong, IsNamed, IfFault, text_of}
use Rattle.journal_text.specs.declared.fault.JournalFault.{JournalFault}
use Rattle.journal_text.specs.declared.fault.JournalKind.{JournalKind}
use Rattle.journal_text.specs.declared.fault.JournalKind.TheVariants as kind
use Rattle.journal_text.specs.declared.fault.JournalRefusal.{JournalRefusal}
use Rattle.journal_text.specs.declared.fault.JournalRefusal.TheVariants.{Fault, OutOfMemory}
use Rattle.journal_text.specs.declared.journal.Journal.{Journal}
use Rattle.journal_text.specs.declared.reading.Head.{Head}
use Rattle.journal_text.proofs.Complete.{line_finds, steps_find, text_finds}
use Rattle.journal_text.proofs.Sound.{behind_sound, line_sound, step_sound}

-- a word, a number and a newline before the rest
abbrev on_line : List ℕ → ℕ → List ℕ → List ℕ
on_line word n rest = word ++ (decimal n ++ (10 ∷ rest))

-- a line of a word and a number before the rest
line_on : (word : List ℕ) (n : ℕ) (rest : List ℕ) → (word ++ decimal n) ++ 10 ∷ [] ++ rest ≡ on_line word n rest
line_on word n rest = append_assoc (word ++ decimal n) (10 ∷ []) rest ∙ append_assoc word (decimal n) (10 ∷ rest)

-- the first four lines before the rest
abbrev on_head : Head → List ℕ → List ℕ
on_head h rest = on_line (codes "emu-journal ") h.version (on_line (codes "nodelets ") h.n (on_line (codes "turns ") h.turns (on_line (codes "source ") h.length rest)))

-- the numbers of a journal's first lines
abbrev head_of : Journal → Head
head_of j = record { version = j.version; n = j.n; turns = j.turns; length = length j.text }

-- the bytes of a journal, joined from the end
abbrev spread : Journal → List ℕ
spread j = on_head (head_of j) (j.text ++ (10 ∷ on_line (codes "steps ") (length j.steps) (flat_map step_line j.steps ++ codes "end\n")))

-- eight pieces joined from either end
unjoin : (a b c d t e s z : List ℕ) → a ++ b ++ c ++ d ++ t ++ e ++ s ++ z ≡ a ++ (b ++ (c ++ (d ++ (t ++ (e ++ (s ++ z))))))
unjoin a b c d t e s z =
    append_assoc (a ++ b ++ c ++ d ++ t ++ e) s z ∙ append_assoc (a ++ b ++ c ++ d ++ t) e (s ++ z) ∙ append_assoc (a ++ b ++ c ++ d) t (e ++ (s ++ z))
    ∙ append_assoc (a ++ b ++ c) d (t ++ (e ++ (s ++ z))) ∙ append_assoc (a ++ b) c (d ++ (t ++ (e ++ (s ++ z)))) ∙ append_assoc a b (c ++ (d ++ (t ++ (e ++ (s ++ z)))))

-- the bytes of a journal are these
spread_is : (j : Journal) → text_of j ≡ spread j
spread_is j =
    let z = codes "end\n" in let s = flat_map step_line j.steps in let e = count_line (codes "steps") (length j.steps) in let t = line j.text in
    let d = count_line (codes "source") (length j.text) in let c = count_line (codes "turns") j.turns in let b = count_line (codes "nodelets") j.n in
    unjoin (count_line (codes "emu-journal") j.version) b c d t e s z
    ∙ line_on (codes "emu-journal ") j.version (b ++ (c ++ (d ++ (t ++ (e ++ (s ++ z))))))
    ∙ ap (on_line (codes "emu-journal ") j.version) (line_on (codes "nodelets ") j.n (c ++ (d ++ (t ++ (e ++ (s ++ z)))))
    ∙ ap (on_line (codes "nodelets ") j.n) (line_on (codes "turns ") j.turns (d ++ (t ++ (e ++ (s ++ z))))
    ∙ ap (on_line (codes "turns ") j.turns) (line_on (codes "source ") (length j.text) (t ++ (e ++ (s ++ z)))
    ∙ ap (on_line (codes "source ") (length j.text)) (append_assoc j.text (10 ∷ []) (e ++ (s ++ z))
    ∙ ap (λ r. j.text ++ (10 ∷ r)) (line_on (codes "steps ") (length j.steps) (s ++ z))))))

-- where something was needed and the rest went well, it was found
needs_ok : {A B P : Type 0} (line : ℕ) (kind : JournalKind) (o : Option A) (next : A → Result B JournalFault) (y : B) → needs line kind o next ≡ Ok y → ((x : A) → o ≡ Some x → next x ≡ Ok y → P) → P
needs_ok line kind None next y e k = absurd (grind (arith, e))
needs_ok line kind (Some x) next y e k = k x refl e

-- where the rest went well, so did what came before
then_ok : {A B P : Type 0} (r : Result A JournalFault) (next : A → Result B JournalFault) (y : B) → then_on r next ≡ Ok y → ((x : A) → r ≡ Ok x → next x ≡ Ok y → P) → P
then_ok (Err fault) next y e k = absurd (grind (arith, e))
then_ok (Ok x) next y e k = k x refl e

-- steps that are read stand there
abbrev HasSteps : ℕ → List Step → ℕ → List ℕ → List Step × List ℕ → Type 0
HasSteps n done count bytes s = (more : List Step) × ((s.0 ≡ done ++ more) × ((bytes ≡ flat_map step_line more ++ s.1) × (All (IsAmong n) more × (length more ≡ count))))

steps_sound : (n line : ℕ) (done : List Step) (count : ℕ) (bytes : List ℕ) (s : List Step × List ℕ) → 1 ≤ n → steps_in n line done count bytes ≡ Ok s → HasSteps n done count bytes s
steps_sound n line done zero bytes s some e =
    let same : (done, bytes) ≡ s = grind (arith, e) in
    subst (HasSteps n done zero bytes) same ([], (sym (append-nil done), (refl, ((λ k d below. absurd (omega arith)), refl))))
steps_sound n line done (suc count) bytes s some e =
    needs_ok (line + length done) kind.BadStep (step_in n bytes) (λ x. steps_in n line (done ++ x.0 ∷ []) count x.1) s e (λ x found rest.
    let here = step_sound n bytes x some found in
    let there = steps_sound n line (done ++ x.0 ∷ []) count x.1 s some rest in (
      x.0 ∷ there.0,
      (
        there.1.0 ∙ append_assoc done (x.0 ∷ []) there.0,
        (
          here.0 ∙ ap (λ t. step_line x.0 ++ t) there.1.1.0 ∙ sym (append_assoc (step_line x.0) (flat_map step_line there.0) s.1),
          (All-cons (IsAmong n) x.0 there.0 here.1 there.1.1.1.0, ap suc there.1.1.1.1),
        ),
      ),
    ))

-- the numbers of the first four lines are within their limits
abbrev IsHead : Head → Type 0
IsHead h = IsInRange 1 2 h.version × (IsInRange 1 64 h.n × (IsInRange 1 (2 ^ 40) h.turns × (h.length ≤ 1048576)))

-- the first four lines are found
head_finds : (h : Head) (rest : List ℕ) → IsHead h → head_in (on_head h rest) ≡ Ok (h, rest)
head_finds h rest is_head =
    ap (λ o. needs 1 kind.BadHead o (λ (v : ℕ × List ℕ). needs 2 kind.BadNodelets (count_in_line (codes "nodelets ") 1 64 v.1) (λ (n : ℕ × List ℕ). needs 3 kind.BadTurns (count_in_line (codes "turns ") 1 (2 ^ 40) n.1) (λ (b : ℕ × List ℕ). needs 4 kind.BadLength (count_in_line (codes "source ") 0 1048576 b.1) (λ (l : ℕ × List ℕ). Ok (record { version = v.0; n = n.0; turns = b.0; length = l.0 }, l.1)))))) (line_finds (codes "emu-journal ") h.version 1 2 (on_line (codes "nodelets ") h.n (on_line (codes "turns ") h.turns (on_line (codes "source ") h.length rest))) is_head.0 (omega arith))
    ∙ ap (λ o. needs 2 kind.BadNodelets o (λ (n : ℕ × List ℕ). needs 3 kind.BadTurns (count_in_line (codes "turns ") 1 (2 ^ 40) n.1) (λ (b : ℕ × List ℕ). needs 4 kind.BadLength (count_in_line (codes "source ") 0 1048576 b.1) (λ (l : ℕ × List ℕ). Ok (record { version = h.version; n = n.0; turns = b.0; length = l.0 }, l.1))))) (line_finds (codes "nodelets ") h.n 1 64 (on_line (codes "turns ") h.turns (on_line (codes "source ") h.length rest)) is_head.1.0 (omega arith))
    ∙ ap (λ o. needs 3 kind.BadTurns o (λ (b : ℕ × List ℕ). needs 4 kind.BadLength (count_in_line (codes "source ") 0 1048576 b.1) (λ (l : ℕ × List ℕ). Ok (record { version = h.version; n = h.n; turns = b.0; length = l.0 }, l.1)))) (line_finds (codes "turns ") h.turns 1 (2 ^ 40) (on_line (codes "source ") h.length rest) is_head.1.1.0 (omega arith))
    ∙ ap (λ o. needs 4 kind.BadLength o (λ (l : ℕ × List ℕ). Ok (record { version = h.version; n = h.n; turns = h.turns; length = l.0 }, l.1))) (line_finds (codes "source ") h.length 0 1048576 rest (omega arith, is_head.1.1.1) (omega arith))

-- the first four lines that are read stand there
head_sound : (bytes : List ℕ) (x : Head × List ℕ) → head_in bytes ≡ Ok x → (bytes ≡ on_head x.0 x.1) × IsHead x.0
head_sound bytes x e =
    needs_ok 1 kind.BadHead (count_in_line (codes "emu-journal ") 1 2 bytes) (λ (v : ℕ × List ℕ). needs 2 kind.BadNodelets (count_in_line (codes "nodelets ") 1 64 v.1) (λ (n : ℕ × List ℕ). needs 3 kind.BadTurns (count_in_line (codes "turns ") 1 (2 ^ 40) n.1) (λ (b : ℕ × List ℕ). needs 4 kind.BadLength (count_in_line (codes "source ") 0 1048576 b.1) (λ (l : ℕ × List ℕ). Ok (record { version = v.0; n = n.0; turns = b.0; length = l.0 }, l.1))))) x e (λ v first e2.
    needs_ok 2 kind.BadNodelets (count_in_line (codes "nodelets ") 1 64 v.1) (λ (n : ℕ × List ℕ). needs 3 kind.BadTurns (count_in_line (codes "turns ") 1 (2 ^ 40) n.1) (λ (b : ℕ × List ℕ). needs 4 kind.BadLength (count_in_line (codes "source ") 0 1048576 b.1) (λ (l : ℕ × List ℕ). Ok (record { version = v.0; n = n.0; turns = b.0; length = l.0 }, l.1)))) x e2 (λ n second e3.
    needs_ok 3 kind.BadTurns (count_in_line (codes "turns ") 1 (2 ^ 40) n.1) (λ (b : ℕ × List ℕ). needs 4 kind.BadLength (count_in_line (codes "source ") 0 1048576 b.1) (λ (l : ℕ × List ℕ). Ok (record { version = v.0; n = n.0; turns = b.0; length = l.0 }, l.1))) x e3 (λ b third e4.
    needs_ok 4 kind.BadLength (count_in_line (codes "source ") 0 1048576 b.1) (λ (l : ℕ × List ℕ). Ok (record { version = v.0; n = n.0; turns = b.0; length = l.0 }, l.1)) x e4 (λ l fourth e5.
    let head : Head = record { version = v.0; n = n.0; turns = b.0; length = l.0 } in
    let same : (head, l.1) ≡ x = grind (arith, e5) in
    let s1 = line_sound (codes "emu-journal ") 1 2 bytes v first in
    let s2 = line_sound (codes "nodelets ") 1 64 v.1 n second in
    let s3 = line_sound (codes "turns ") 1 (2 ^ 40) n.1 b third in
    let s4 = line_sound (codes "source ") 0 1048576 b.1 l fourth in (
      s1.0 ∙ ap (on_line (codes "emu-journal ") v.0) (s2.0 ∙ ap (on_line (codes "nodelets ") n.0) (s3.0 ∙ ap (on_line (codes "turns ") b.0) s4.0))
          ∙ ap (λ (z : Head × List ℕ). on_head z.0 z.1) same,
      subst (λ (z : Head × List ℕ). IsHead z.0) same (s1.1, (s2.1, (s3.1, s4.1.1))),
    )))))

-- a text that is read stands there, with that many bytes
text_sound : (size : ℕ) (bytes : List ℕ) (t : List ℕ × List ℕ) → text_in size bytes ≡ Ok t → (bytes ≡ t.0 ++ (10 ∷ t.1)) × (length t.0 ≡ size)
text_sound size bytes t e =
    needs_ok (5 + newlines (take size bytes)) kind.ShortSource (behind (10 ∷ []) (drop size bytes)) (λ rest. Ok (take size bytes, rest)) t e (λ rest ends e2.
    let same : (take size bytes, rest) ≡ t = grind (arith, e2) in
    let tail : drop size bytes ≡ 10 ∷ rest = behind_sound (10 ∷ []) (drop size bytes) rest ends in
    let more : length (drop size bytes) ≡ suc (length rest) = ap length tail in
    let whole : length (take size bytes) ≡ size = grind (arith, common_steps, more) in (
      sym (take-append-drop size bytes) ∙ ap (λ r. take size bytes ++ r) tail ∙ ap (λ (z : List ℕ × List ℕ). z.0 ++ (10 ∷ z.1)) same,
      subst (λ (z : List ℕ × List ℕ). length z.0 ≡ size) same whole,
    ))

-- the last line that is read stands there, and nothing behind it
end_sound : (line : ℕ) (bytes : List ℕ) (done : ⊤) → end_in line bytes ≡ Ok done → bytes ≡ codes "end\n"
end_sound line bytes done e =
    needs_ok line kind.BadEnd (behind (codes "end\n") bytes) (λ rest. needs (line + 1) kind.BadEnd (nothing rest) (λ done. Ok done)) done e (λ rest ends e2.
    needs_ok (line + 1) kind.BadEnd (nothing rest) (λ done. Ok done) done e2 (λ over empty e3.
    behind_sound (codes "end\n") bytes rest ends ∙ ap (λ r. codes "end\n" ++ r) (is_empty rest over empty)))
  where
    is_empty : (rest : List ℕ) (over : ⊤) → nothing rest ≡ Some over → rest ≡ []
    is_empty [] over e = refl
    is_empty (b ∷ bs) over e = absurd (grind (arith, e))

-- the bytes of a journal are read as that journal
pub journal_finds : (j : Journal) → IsJournal j → All IsNamed j.steps → length j.steps < 2 ^ 64 → journal_in (text_of j) ≡ Ok j
journal_finds j is named fits =
    let body = on_line (codes "steps ") (length j.steps) (flat_map step_line j.steps ++ codes "end\n") in
    ap journal_in (spread_is j)
    ∙ ap (λ o. then_on o (λ (h : Head × List ℕ). then_on (text_in h.0.length h.1) (λ (t : List ℕ × List ℕ). needs (6 + newlines t.0) kind.BadCount (count_in_line (codes "steps ") 0 (2 ^ 64 - 1) t.1) (λ (c : ℕ × List ℕ). then_on (steps_in h.0.n ((6 + newlines t.0) + 1) [] c.0 c.1) (λ (s : List Step × List ℕ). then_on (end_in ((6 + newlines t.0) + 1 + length s.0) s.1) (λ (done : ⊤). Ok (record { version = h.0.version; n = h.0.n; turns = h.0.turns; text = t.0; steps = s.0 }))))))) (head_finds (head_of j) (j.text ++ (10 ∷ body)) (is.0, (is.1, (is.2, is.3))))
    ∙ ap (λ o. then_on o (λ (t : List ℕ × List ℕ). needs (6 + newlines t.0) kind.BadCount (count_in_line (codes "steps ") 0 (2 ^ 64 - 1) t.1) (λ (c : ℕ × List ℕ). then_on (steps_in (head_of j).n ((6 + newlines t.0) + 1) [] c.0 c.1) (λ (s : List Step × List ℕ). then_on (end_in ((6 + newlines t.0) + 1 + length s.0) s.1) (λ (done : ⊤). Ok (record { version = (head_of j).version; n = (head_of j).n; turns = (head_of j).turns; text = t.0; steps = s.0 })))))) (text_finds j.text body)
    ∙ ap (λ o. needs (6 + newlines j.text) kind.BadCount o (λ (c : ℕ × List ℕ). then_on (steps_in (head_of j).n ((6 + newlines j.text) + 1) [] c.0 c.1) (λ (s : List Step × List ℕ). then_on (end_in ((6 + newlines j.text) + 1 + length s.0) s.1) (λ (done : ⊤). Ok (record { version = (head_of j).version; n = (head_of j).n; turns = (head_of j).turns; text = j.text; steps = s.0 }))))) (line_finds (codes "steps ") (length j.steps) 0 (2 ^ 64 - 1) (flat_map step_line j.steps ++ codes "end\n") (omega arith, omega (arith, fits)) (omega arith))
    ∙ ap (λ o. then_on o (λ (s : List Step × List ℕ). then_on (end_in ((6 + newlines j.text) + 1 + length s.0) s.1) (λ (done : ⊤). Ok (record { version = (head_of j).version; n = (head_of j).n; turns = (head_of j).turns; text = j.text; steps = s.0 })))) (steps_find j.n (6 + newlines j.text + 1) [] j.steps (codes "end\n") is.1.1 named is.4)

-- the journal that is read has those bytes, and is one
pub journal_sound : (bytes : List ℕ) (j : Journal) → journal_in bytes ≡ Ok j → (bytes ≡ text_of j) × IsJournal j
journal_sound bytes j e =
    then_ok (head_in bytes) (λ (h : Head × List ℕ). then_on (text_in h.0.length h.1) (λ (t : List ℕ × List ℕ). needs (6 + newlines t.0) kind.BadCount (count_in_line (codes "steps ") 0 (2 ^ 64 - 1) t.1) (λ (c : ℕ × List ℕ). then_on (steps_in h.0.n ((6 + newlines t.0) + 1) [] c.0 c.1) (λ (s : List Step × List ℕ). then_on (end_in ((6 + newlines t.0) + 1 + length s.0) s.1) (λ (done : ⊤). Ok (record { version = h.0.version; n = h.0.n; turns = h.0.turns; text = t.0; steps = s.0 })))))) j e (λ h head_is e2.
    then_ok (text_in h.0.length h.1) (λ (t : List ℕ × List ℕ). needs (6 + newlines t.0) kind.BadCount (count_in_line (codes "steps ") 0 (2 ^ 64 - 1) t.1) (λ (c : ℕ × List ℕ). then_on (steps_in h.0.n ((6 + newlines t.0) + 1) [] c.0 c.1) (λ (s : List Step × List ℕ). then_on (end_in ((6 + newlines t.0) + 1 + length s.0) s.1) (λ (done : ⊤). Ok (record { version = h.0.version; n = h.0.n; turns = h.0.turns; text = t.0; steps = s.0 }))))) j e2 (λ t text_is e3.
    needs_ok (6 + newlines t.0) kind.BadCount (count_in_line (codes "steps ") 0 (2 ^ 64 - 1) t.1) (λ (c : ℕ × List ℕ). then_on (steps_in h.0.n ((6 + newlines t.0) + 1) [] c.0 c.1) (λ (s : List Step × List ℕ). then_on (end_in ((6 + newlines t.0) + 1 + length s.0) s.1) (λ (done : ⊤). Ok (record { version = h.0.version; n = h.0.n; turns = h.0.turns; text = t.0; steps = s.0 })))) j e3 (λ c count_is e4.
    then_ok (steps_in h.0.n (6 + newlines t.0 + 1) [] c.0 c.1) (λ (s : List Step × List ℕ). then_on (end_in ((6 + newlines t.0) + 1 + length s.0) s.1) (λ (done : ⊤). Ok (record { version = h.0.version; n = h.0.n; turns = h.0.turns; text = t.0; steps = s.0 }))) j e4 (λ s steps_are e5.
    then_ok (end_in (6 + newlines t.0 + 1 + length s.0) s.1) (λ (done : ⊤). Ok (record { version = h.0.version; n = h.0.n; turns = h.0.turns; text = t.0; steps = s.0 })) j e5 (λ done ends e6.
    let read : Journal = record { version = h.0.version; n = h.0.n; turns = h.0.turns; text = t.0; steps = s.0 } in
    let same : read ≡ j = grind (arith, e6) in
    let s1 = head_sound bytes h head_is in
    let s2 = text_sound h.0.length h.1 t text_is in
    let s3 = line_sound (codes "steps ") 0 (2 ^ 64 - 1) t.1 c count_is in
    let s4 = steps_sound h.0.n (6 + newlines t.0 + 1) [] c.0 c.1 s s1.1.1.0.0 steps_are in
    let s5 = end_sound (6 + newlines t.0 + 1 + length s.0) s.1 done ends in
    let steps : s.0 ≡ s4.0 = s4.1.0 in
    let count : c.0 ≡ length s.0 = sym s4.1.1.1.1 ∙ ap length (sym steps) in
    let body : c.1 ≡ flat_map step_line s.0 ++ codes "end\n" = s4.1.1.0 ∙ ap (λ r. flat_map step_line s4.0 ++ r) s5 ∙ ap (λ l. flat_map step_line l ++ codes "end\n") (sym steps) in
    let size : h.0 ≡ head_of read = ap (λ l. record { version = h.0.version; n = h.0.n; turns = h.0.turns; length = l }) (sym s2.1) in
    let whole : bytes ≡ spread read =
    s1.0 ∙ ap (on_head h.0) (s2.0 ∙ ap (λ r. t.0 ++ (10 ∷ r)) (s3.0 ∙ ap (λ k. on_line (codes "steps ") k c.1) count ∙ ap (on_line (codes "steps ") (length s.0)) body))
    ∙ ap (λ k. on_head k (t.0 ++ (10 ∷ on_line (codes "steps ") (length s.0) (flat_map step_line s.0 ++ codes "end\n")))) size in
    let among : All (IsAmong h.0.n) s.0 = subst (All (IsAmong h.0.n)) (sym steps) s4.1.1.1.0 in
    let short : length t.0 ≤ 1048576 = omega (arith, s2.1, s1.1.1.1.1) in (
      subst (λ k. bytes ≡ text_of k) same (whole ∙ sym (spread_is read)),
      subst IsJournal same (s1.1.0, s1.1.1.0, s1.1.1.1.0, short, among),
    ))))))

-- bytes with a broken line are no journal's
no_journal : (bytes : List ℕ) (fault : JournalFault) → journal_in bytes ≡ Err fault → IsNoJournal bytes
no_journal bytes fault e j is named fits same =
    let both : Ok j ≡ Err fault = sym (journal_finds j is named fits) ∙ ap journal_in (sym same) ∙ e in
    absurd (grind (arith, both))

-- the bytes are a journal's in one way
journal_is_one : (bytes : List ℕ) (j k : Journal) → journal_in bytes ≡ Ok j → IsJournal k → All IsNamed k.steps → length k.steps < 2 ^ 64 → bytes ≡ text_of k → k ≡ j
journal_is_one bytes j k e is named fits same =
    let both : Ok k ≡ Ok j = sym (journal_finds k is named fits) ∙ ap journal_in (sym same) ∙ e in
    grind (arith, both)

-- what is answered where the bytes are a journal
pub journal_answered : (bytes : List ℕ) (r : Result Journal JournalRefusal) → IfOk r (λ j. journal_in bytes ≡ Ok j) → IfOk r (λ j. IsTextOf j bytes)
journal_answered bytes (Ok j) e =
    let sound = journal_sound bytes j e in
    record { is_text = sound.0; within = sound.1; alone = λ k is named fits same. journal_is_one bytes j k e is named fits same }
journal_answered bytes (Err refusal) e = tt

-- what is answered where they are none
pub fault_answered : (bytes : List ℕ) (r : Result Journal JournalRefusal) → IfErr r (λ f. IfFault f (λ fault. journal_in bytes ≡ Err fault)) → IfErr r (λ f. IfFault f (λ _. IsNoJournal bytes))
fault_answered bytes (Ok j) e = tt
fault_answered bytes (Err (Fault fault)) e = no_journal bytes fault e
fault_answered bytes (Err OutOfMemory) e = tt
