-- The text of a journal is read as that journal.
use Rattle.std.proofs.Common.{◌≡◌, ◌≤◌, ◌<◌, ◌^◌, ◌+◌, ◌-◌, ℕ, suc, List, [], ◌∷◌, ◌++◌, length, take, drop, codes, flat_map, Some, None, Ok, if◌then◌else◌, refl, ap, sym, ◌∙◌, append_assoc, arith}
use Rattle.std.specs.Option.{option_and_then, option_map}
use Rattle.std.specs.Int.{IsInRange}
use Rattle.std.specs.Char.{is_ascii_digit}
use Rattle.std.specs.Fmt.{decimal}
use Rattle.std.specs.List.{prefix_len, All}
use Rattle.std.proofs.lemmas.List.{append-nil}
use Rattle.journal_text.specs.Decoding.{needs, newlines, steps_in, text_in}
use Rattle.journal_text.specs.declared.fault.JournalKind.TheVariants as kind
use Rattle.std.specs.Str.{bytes_eq}
use Rattle.std.proofs.Math.Seq.{take-append_seam, drop-append_seam}
use Rattle.word_ops.specs.Numbers.{count_in}
use Rattle.word_ops.specs.Journal.{step_line}
use Rattle.word_ops.specs.declared.name.Name.{Name}
use Rattle.word_ops.specs.declared.step.Step.{Step}
use Rattle.word_ops.specs.declared.step.Step.TheVariants.{Act, Apply}
use Rattle.journal_text.specs.Reading.{behind, digits_first, number_in, count_in_line, name_in, name_at_end, child_in, act_in, apply_in, step_in, act_or}
use Rattle.journal_text.specs.Journals.{IsName, IsNamed, IsAmong}
use Rattle.journal_text.proofs.Scans.{NoDigitLeads, same_bytes, behind_finds, digits_length, count_of_decimal}

-- a number is found
pub number_finds : (n least most : ℕ) (rest : List ℕ) → IsInRange least most n → most < 2 ^ 64 → NoDigitLeads rest → number_in least most (decimal n ++ rest) ≡ Some (n, rest)
number_finds n least most rest range small stops =
    let bytes = decimal n ++ rest in
    let size : prefix_len is_ascii_digit bytes ≡ length (decimal n) = digits_length n rest (omega (arith, range.1)) stops in
    let digits : digits_first bytes ≡ decimal n = ap (λ k. take k bytes) size ∙ take-append_seam (decimal n) rest in
    let after : drop (prefix_len is_ascii_digit bytes) bytes ≡ rest = ap (λ k. drop k bytes) size ∙ drop-append_seam (decimal n) rest in
    ap (λ ds. option_and_then (λ m. if bytes_eq (decimal m) ds then Some (m, drop (prefix_len is_ascii_digit bytes) bytes) else None) (count_in ds least most)) digits
    ∙ ap (λ o. option_and_then (λ m. if bytes_eq (decimal m) (decimal n) then Some (m, drop (prefix_len is_ascii_digit bytes) bytes) else None) o) (count_of_decimal n least most range small)
    ∙ ap (λ b. if b then Some (n, drop (prefix_len is_ascii_digit bytes) bytes) else None) (same_bytes (decimal n))
    ∙ ap (λ r. Some (n, r)) after

-- a number at the end of its line is found behind a word
pub line_finds : (word : List ℕ) (n least most : ℕ) (rest : List ℕ) → IsInRange least most n → most < 2 ^ 64 → count_in_line word least most (word ++ (decimal n ++ (10 ∷ rest))) ≡ Some (n, rest)
line_finds word n least most rest range small =
    ap (λ o. option_and_then (λ rest. option_and_then (λ x. option_map (λ rest. (x.0, rest)) (behind (10 ∷ []) x.1)) (number_in least most rest)) o) (behind_finds word (decimal n ++ (10 ∷ rest)))
    ∙ ap (λ o. option_and_then (λ x. option_map (λ rest. (x.0, rest)) (behind (10 ∷ []) x.1)) o) (number_finds n least most (10 ∷ rest) range small refl)

-- a name is found
pub name_finds : (name : Name) (rest : List ℕ) → IsName name → NoDigitLeads rest → name_in (decimal name.nodelet ++ (46 ∷ (decimal name.number ++ rest))) ≡ Some (name, rest)
name_finds name rest is_name stops =
    ap (λ o. option_and_then (λ x. option_and_then (λ rest. option_map (λ y. (record { nodelet = x.0; number = y.0 }, y.1)) (number_in 0 (2 ^ 64 - 1) rest)) (behind (46 ∷ []) x.1)) o)
    (number_finds name.nodelet 0 (2 ^ 32 - 1) (46 ∷ (decimal name.number ++ rest)) (omega arith, omega (arith, is_name.0)) (omega arith) refl)
    ∙ ap (λ o. option_map (λ y. (record { nodelet = name.nodelet; number = y.0 }, y.1)) o) (number_finds name.number 0 (2 ^ 64 - 1) rest (omega arith, omega (arith, is_name.1)) (omega arith) stops)

-- a name between a text and more, joined from either end
named : (a b c rest : List ℕ) → (a ++ (46 ∷ b)) ++ c ++ rest ≡ a ++ (46 ∷ (b ++ (c ++ rest)))
named a b c rest = append_assoc (a ++ (46 ∷ b)) c rest ∙ append_assoc a (46 ∷ b) (c ++ rest)

-- the line of a spawn, joined from either end
spawn_joined : (a b c d e rest : List ℕ) → ((a ++ (46 ∷ b)) ++ c ++ (d ++ (46 ∷ e))) ++ 10 ∷ [] ++ rest ≡ a ++ (46 ∷ (b ++ (c ++ (d ++ (46 ∷ (e ++ (10 ∷ rest)))))))
spawn_joined a b c d e rest =
    append_assoc ((a ++ (46 ∷ b)) ++ c ++ (d ++ (46 ∷ e))) (10 ∷ []) rest
    ∙ append_assoc ((a ++ (46 ∷ b)) ++ c) (d ++ (46 ∷ e)) (10 ∷ rest)
    ∙ named a b c ((d ++ (46 ∷ e)) ++ (10 ∷ rest))
    ∙ ap (λ t. a ++ (46 ∷ (b ++ (c ++ t)))) (append_assoc d (46 ∷ e) (10 ∷ rest))

-- the line of an application, joined from either end
apply_joined : (a b j rest : List ℕ) → ((a ++ (46 ∷ b)) ++ 32 ∷ [] ++ j) ++ 10 ∷ [] ++ rest ≡ a ++ (46 ∷ (b ++ (32 ∷ (j ++ (10 ∷ rest)))))
apply_joined a b j rest =
    append_assoc ((a ++ (46 ∷ b)) ++ 32 ∷ [] ++ j) (10 ∷ []) rest
    ∙ append_assoc ((a ++ (46 ∷ b)) ++ 32 ∷ []) j (10 ∷ rest)
    ∙ named a b (32 ∷ []) (j ++ (10 ∷ rest))

-- an action without a child is found
act_finds : (name : Name) (rest : List ℕ) → IsName name → act_in (codes "act " ++ (decimal name.nodelet ++ (46 ∷ (decimal name.number ++ (10 ∷ rest))))) ≡ Some (Act name None, rest)
act_finds name rest is_name =
    ap (λ o. option_and_then (λ rest. option_and_then (λ x. option_map (λ y. (Act x.0 y.0, y.1)) (child_in x.1)) (name_in rest)) o) (behind_finds (codes "act ") (decimal name.nodelet ++ (46 ∷ (decimal name.number ++ (10 ∷ rest)))))
    ∙ ap (λ o. option_and_then (λ x. option_map (λ y. (Act x.0 y.0, y.1)) (child_in x.1)) o) (name_finds name (10 ∷ rest) is_name refl)

-- a child is found
child_finds : (child : Name) (rest : List ℕ) → IsName child → child_in (codes " spawn " ++ (decimal child.nodelet ++ (46 ∷ (decimal child.number ++ (10 ∷ rest))))) ≡ Some (Some child, rest)
child_finds child rest is_name =
    ap (λ o. option_map (λ (x : Name × List ℕ). (Some x.0, x.1)) (option_and_then name_at_end o)) (behind_finds (codes " spawn ") (decimal child.nodelet ++ (46 ∷ (decimal child.number ++ (10 ∷ rest)))))
    ∙ ap (λ o. option_map (λ (x : Name × List ℕ). (Some x.0, x.1)) (option_and_then (λ (x : Name × List ℕ). option_map (λ rest. (x.0, rest)) (behind (10 ∷ []) x.1)) o)) (name_finds child (10 ∷ rest) is_name refl)

-- an action with a child is found
spawn_finds : (name child : Name) (rest : List ℕ) → IsName name → IsName child
    → act_in (codes "act " ++ (decimal name.nodelet ++ (46 ∷ (decimal name.number ++ (codes " spawn " ++ (decimal child.nodelet ++ (46 ∷ (decimal child.number ++ (10 ∷ rest)))))))))
    ≡ Some (Act name (Some child), rest)
spawn_finds name child rest is_name is_child =
    let more = codes " spawn " ++ (decimal child.nodelet ++ (46 ∷ (decimal child.number ++ (10 ∷ rest)))) in
    ap (λ o. option_and_then (λ rest. option_and_then (λ x. option_map (λ y. (Act x.0 y.0, y.1)) (child_in x.1)) (name_in rest)) o) (behind_finds (codes "act ") (decimal name.nodelet ++ (46 ∷ (decimal name.number ++ more))))
    ∙ ap (λ o. option_and_then (λ x. option_map (λ y. (Act x.0 y.0, y.1)) (child_in x.1)) o) (name_finds name more is_name refl)
    ∙ ap (λ o. option_map (λ y. (Act name y.0, y.1)) o) (child_finds child rest is_child)

-- an application is found
apply_finds : (n : ℕ) (name : Name) (nodelet : ℕ) (rest : List ℕ) → n ≤ 64 → IsName name → nodelet < n
    → apply_in n (codes "apply " ++ (decimal name.nodelet ++ (46 ∷ (decimal name.number ++ (32 ∷ (decimal nodelet ++ (10 ∷ rest))))))) ≡ Some (Apply name nodelet, rest)
apply_finds n name nodelet rest few is_name among =
    let more = 32 ∷ (decimal nodelet ++ (10 ∷ rest)) in
    ap (λ o. option_and_then (λ rest. option_and_then (λ x. option_map (λ y. (Apply x.0 y.0, y.1)) (count_in_line (32 ∷ []) 0 (n - 1) x.1)) (name_in rest)) o) (behind_finds (codes "apply ") (decimal name.nodelet ++ (46 ∷ (decimal name.number ++ more))))
    ∙ ap (λ o. option_and_then (λ x. option_map (λ y. (Apply x.0 y.0, y.1)) (count_in_line (32 ∷ []) 0 (n - 1) x.1)) o) (name_finds name more is_name refl)
    ∙ ap (λ o. option_map (λ y. (Apply name y.0, y.1)) o) (line_finds (32 ∷ []) nodelet 0 (n - 1) rest (omega arith, omega arith) (omega arith))

-- a step is found
pub step_finds : (n : ℕ) (step : Step) (rest : List ℕ) → n ≤ 64 → IsNamed step → IsAmong n step → step_in n (step_line step ++ rest) ≡ Some (step, rest)
step_finds n (Act name None) rest few is_name among =
    ap (λ t. step_in n (codes "act " ++ t)) (named (decimal name.nodelet) (decimal name.number) (10 ∷ []) rest)
    ∙ ap (act_or n (codes "act " ++ (decimal name.nodelet ++ (46 ∷ (decimal name.number ++ (10 ∷ rest)))))) (act_finds name rest is_name)
step_finds n (Act name (Some child)) rest few is_named among =
    ap (λ t. step_in n (codes "act " ++ t)) (spawn_joined (decimal name.nodelet) (decimal name.number) (codes " spawn ") (decimal child.nodelet) (decimal child.number) rest)
    ∙ ap (act_or n (codes "act " ++ (decimal name.nodelet ++ (46 ∷ (decimal name.number ++ (codes " spawn " ++ (decimal child.nodelet ++ (46 ∷ (decimal child.number ++ (10 ∷ rest)))))))))) (spawn_finds name child rest is_named.0 is_named.1)
step_finds n (Apply name nodelet) rest few is_name among =
    ap (λ t. step_in n (codes "apply " ++ t)) (apply_joined (decimal name.nodelet) (decimal name.number) (decimal nodelet) rest)
    ∙ apply_finds n name nodelet rest few is_name among

-- steps are found
pub steps_find : (n line : ℕ) (done steps : List Step) (rest : List ℕ) → n ≤ 64 → All IsNamed steps → All (IsAmong n) steps
    → steps_in n line done (length steps) (flat_map step_line steps ++ rest) ≡ Ok (done ++ steps, rest)
steps_find n line done [] rest few named among = ap (λ l. Ok (l, rest)) (sym (append-nil done))
steps_find n line done (s ∷ ss) rest few named among =
    ap (λ t. steps_in n line done (suc (length ss)) t) (append_assoc (step_line s) (flat_map step_line ss) rest)
    ∙ ap (λ o. needs (line + length done) kind.BadStep o (λ x. steps_in n line (done ++ x.0 ∷ []) (length ss) x.1)) (step_finds n s (flat_map step_line ss ++ rest) few (named 0 s (omega arith)) (among 0 s (omega arith)))
    ∙ steps_find n line (done ++ s ∷ []) ss rest few (λ k d below. named (suc k) d (omega arith)) (λ k d below. among (suc k) d (omega arith))
    ∙ ap (λ l. Ok (l, rest)) (append_assoc done (s ∷ []) ss)

-- a text is found
pub text_finds : (text rest : List ℕ) → text_in (length text) (text ++ (10 ∷ rest)) ≡ Ok (text, rest)
text_finds text rest =
    ap (λ t. needs (5 + newlines t) kind.ShortSource (behind (10 ∷ []) (drop (length text) (text ++ (10 ∷ rest)))) (λ rest. Ok (t, rest))) (take-append_seam text (10 ∷ rest))
    ∙ ap (λ t. needs (5 + newlines text) kind.ShortSource (behind (10 ∷ []) t) (λ rest. Ok (text, rest))) (drop-append_seam text (10 ∷ rest))
