-- The lines of the report, as they are printed.
use Rattle.std.proofs.Common.{◌≡◌, ◌≢◌, ℕ, ◌+◌, ◌*◌, List, [], ◌∷◌, ◌++◌, codes, Some, if◌then◌else◌, ◌==◌, false, arith, ap, ◌∙◌, sym, append_assoc}
use Rattle.std.specs.Fmt.{decimal}
use Rattle.std.specs.List.{slice_get, slice_index}
use Rattle.std.proofs.lemmas.Option.{get_or_from_slice_get}
use Rattle.word_ops.specs.Ending.{line}
use Rattle.word_ops.specs.Report.{between_line, nodelet_line}
use Rattle.word_ops.specs.declared.traffic.Traffic.{Traffic}

-- pieces joined from either end
pub joined : (a b c d e f z : List ℕ) → a ++ (b ++ (c ++ (d ++ (e ++ (f ++ z))))) ≡ a ++ b ++ c ++ d ++ e ++ f ++ z
joined a b c d e f z =
    sym (append_assoc (a ++ b ++ c ++ d ++ e) f z ∙ append_assoc (a ++ b ++ c ++ d) e (f ++ z) ∙ append_assoc (a ++ b ++ c) d (e ++ (f ++ z)) ∙ append_assoc (a ++ b) c (d ++ (e ++ (f ++ z))) ∙ append_assoc a b (c ++ (d ++ (e ++ (f ++ z)))))

-- the line of what a nodelet did
pub nodelet_line_printed : (t : Traffic) (k turns applied : ℕ) → slice_get t.turns k ≡ Some turns → slice_get t.applied k ≡ Some applied
    → codes "nodelet " ++ (decimal k ++ (codes " turns " ++ (decimal turns ++ (codes " applied " ++ (decimal applied ++ 10 ∷ []))))) ≡ nodelet_line t k
nodelet_line_printed t k turns applied is_turns is_applied =
    joined (codes "nodelet ") (decimal k) (codes " turns ") (decimal turns) (codes " applied ") (decimal applied) (10 ∷ [])
    ∙ ap (λ n. codes "nodelet " ++ decimal k ++ codes " turns " ++ decimal n ++ codes " applied " ++ decimal applied ++ 10 ∷ []) (sym (get_or_from_slice_get t.turns k turns 0 is_turns))
    ∙ ap (λ n. codes "nodelet " ++ decimal k ++ codes " turns " ++ decimal (slice_index t.turns k) ++ codes " applied " ++ decimal n ++ 10 ∷ []) (sym (get_or_from_slice_get t.applied k applied 0 is_applied))

-- the line of a count of things that went from i to j, none where the count is 0
abbrev count_line : List ℕ → ℕ → ℕ → ℕ → List ℕ
count_line kind i j count = if count == 0 then [] else line (kind ++ 32 ∷ [] ++ decimal i ++ 32 ∷ [] ++ decimal j ++ 32 ∷ [] ++ decimal count)

-- it is the line that the report has
count_line_between : (kind counts : List ℕ) (n i j count : ℕ) → slice_get counts (i * n + j) ≡ Some count → count_line kind i j count ≡ between_line kind counts n i j
count_line_between kind counts n i j count is_count = ap (count_line kind i j) (sym (get_or_from_slice_get counts (i * n + j) count 0 is_count))

-- the line of how often a kind of thing went from i to j
pub between_line_printed : (kind counts : List ℕ) (n i j count : ℕ) → slice_get counts (i * n + j) ≡ Some count → count ≢ 0
    → kind ++ (32 ∷ (decimal i ++ (32 ∷ (decimal j ++ (32 ∷ (decimal count ++ 10 ∷ [])))))) ≡ between_line kind counts n i j
between_line_printed kind counts n i j count is_count some =
    let counted : (count == 0) ≡ false = grind (arith, some) in
    joined kind (32 ∷ []) (decimal i) (32 ∷ []) (decimal j) (32 ∷ []) (decimal count ++ 10 ∷ [])
    ∙ sym (append_assoc (kind ++ 32 ∷ [] ++ decimal i ++ 32 ∷ [] ++ decimal j ++ 32 ∷ []) (decimal count) (10 ∷ []))
    ∙ ap (λ none. if none then [] else line (kind ++ 32 ∷ [] ++ decimal i ++ 32 ∷ [] ++ decimal j ++ 32 ∷ [] ++ decimal count)) (sym counted)
    ∙ count_line_between kind counts n i j count is_count

-- where nothing of a kind went from i to j, there is no line
pub no_between_line : (kind counts : List ℕ) (n i j : ℕ) → slice_get counts (i * n + j) ≡ Some 0 → [] ≡ between_line kind counts n i j
no_between_line kind counts n i j none = count_line_between kind counts n i j 0 none
