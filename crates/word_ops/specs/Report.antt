-- The words that a run leaves, and the report of its traffic.
use Rattle.std.specs.Prelude.{ℕ, zero, suc, ◌+◌, ◌*◌, List, [], ◌∷◌, ◌++◌, codes, slice_index, if◌then◌else◌, ◌==◌}
use Rattle.std.specs.List.{flat_map}
use Rattle.std.specs.Fmt.{decimal, signed_decimal}
use Rattle.word_ops.specs.Ending.{line}
use Rattle.word_ops.specs.declared.traffic.Cell.{Cell}
use Rattle.word_ops.specs.declared.traffic.Traffic.{Traffic}

-- the numbers under n, in order
abbrev pub below : ℕ → List ℕ
below zero = []
below (suc n) = below n ++ n ∷ []

-- a word's line: its nodelet, its address and the word
abbrev pub cell_line : Cell → List ℕ
cell_line cell = line (decimal cell.nodelet ++ 32 ∷ [] ++ signed_decimal cell.address ++ 32 ∷ [] ++ signed_decimal cell.word)

-- the words, in the order given
abbrev pub words_text : List Cell → List ℕ
words_text cells = line (codes "words") ++ flat_map cell_line cells

-- the line of how often a kind of thing went from nodelet i to nodelet j, none where it never did
abbrev pub between_line : List ℕ → List ℕ → ℕ → ℕ → ℕ → List ℕ
between_line kind counts n i j =
    let count = slice_index counts (i * n + j) in
    if count == 0 then [] else line (kind ++ 32 ∷ [] ++ decimal i ++ 32 ∷ [] ++ decimal j ++ 32 ∷ [] ++ decimal count)

-- such lines for all i and j under n, in order
abbrev pub between_lines : List ℕ → List ℕ → ℕ → List ℕ
between_lines kind counts n = flat_map (λ i. flat_map (between_line kind counts n i) (below n)) (below n)

-- what a nodelet did
abbrev pub nodelet_line : Traffic → ℕ → List ℕ
nodelet_line traffic k =
    line (codes "nodelet " ++ decimal k ++ codes " turns " ++ decimal (slice_index traffic.turns k) ++ codes " applied " ++ decimal (slice_index traffic.applied k))

-- the report
abbrev pub report_of : Traffic → List ℕ
report_of t =
    line (codes "traffic") ++ between_lines (codes "move") t.moves t.n ++ between_lines (codes "birth") t.births t.n
    ++ between_lines (codes "post") t.posts t.n ++ between_lines (codes "done") t.dones t.n ++ flat_map (nodelet_line t) (below t.n)
