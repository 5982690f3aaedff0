-- What of the entries of all parts is of one nodelet.
use Rattle.std.proofs.Common.{◌≡◌, ℕ, zero, suc, ◌+◌, ◌<◌, List, [], ◌∷◌, ◌++◌, length, map, refl, sym, ap, ◌∙◌, arith, false}
use Rattle.std.specs.Prelude.{◌==◌, cond, filter, slice_index_or, sum_by, flat_map, filter_map, Option}
use Rattle.std.specs.List.{cons_option}
use Rattle.std.proofs.lemmas.List.{append-nil, map-append, length-append, length-map}
use Rattle.std.proofs.lemmas.List.Sums.{sum_by-cons}
use Rattle.std.proofs.lemmas.List.Elements.{filter-append}
use Rattle.std.proofs.lemmas.Bool.Decides.{eqb_tells}
use Rattle.word_ops.specs.declared.step.Step.{Step}
use Rattle.word_ops.specs.declared.step.Entry.{Entry}
use Rattle.merge_law.specs.Order.{by_key}
use Rattle.merge_law.specs.Merge.{placed, stamp_of_placed, placed_from, merged, entry_of, is_of, entries_of, steps_of}
use Rattle.merge_law.proofs.Somes.{same_number}
use Rattle.merge_law.proofs.ByKey.{Rises, length-by_key, by_key-rising, filter-by_key, map-by_key}
use Rattle.merge_law.proofs.Replays.{stamp_of_entry}

pub map-entry_of-placed : (k : ℕ) (es : List Entry) → map entry_of (map (placed k) es) ≡ es
map-entry_of-placed k [] = refl
map-entry_of-placed k (e ∷ es) = ap (λ l. e ∷ l) (map-entry_of-placed k es)

own : (k : ℕ) (es : List Entry) → filter (is_of k) (map (placed k) es) ≡ map (placed k) es
own k [] = refl
own k (e ∷ es) =
    ap (λ t. cond t (placed k e ∷ filter (is_of k) (map (placed k) es)) (filter (is_of k) (map (placed k) es))) (same_number k)
    ∙ ap (λ l. placed k e ∷ l) (own k es)

other : (k i : ℕ) (es : List Entry) → (i == k) ≡ false → filter (is_of k) (map (placed i) es) ≡ []
other k i [] ne = refl
other k i (e ∷ es) ne =
    ap (λ t. cond t (placed i e ∷ filter (is_of k) (map (placed i) es)) (filter (is_of k) (map (placed i) es))) ne
    ∙ other k i es ne

-- the entries of nodelet i are of none with another number
beside : (k i : ℕ) (part : List Entry) (parts : List (List Entry)) → (i == k) ≡ false → filter (is_of k) (placed_from i (part ∷ parts)) ≡ filter (is_of k) (placed_from (suc i) parts)
beside k i part parts ne =
    filter-append (is_of k) (map (placed i) part) (placed_from (suc i) parts)
    ∙ ap (λ l. l ++ filter (is_of k) (placed_from (suc i) parts)) (other k i part ne)

differs : (i k : ℕ) → k < i → (i == k) ≡ false
differs i k h = grind (arith, eqb_tells)

differs_above : (i j k : ℕ) → i + suc j ≡ k → (i == k) ≡ false
differs_above i j k h = grind (arith, eqb_tells)

none_below : (k i : ℕ) (parts : List (List Entry)) → k < i → filter (is_of k) (placed_from i parts) ≡ []
none_below k i [] h = refl
none_below k i (part ∷ parts) h = beside k i part parts (differs i k h) ∙ none_below k (suc i) parts (omega arith)

-- the entries of nodelet k are those of its part
pub filter-placed_from : (k i j : ℕ) (parts : List (List Entry)) → i + j ≡ k → filter (is_of k) (placed_from i parts) ≡ map (placed k) (slice_index_or parts j [])
filter-placed_from k i j [] h = refl
filter-placed_from k i zero (part ∷ parts) h =
    let here : i ≡ k = omega arith in
    filter-append (is_of k) (map (placed i) part) (placed_from (suc i) parts)
    ∙ ap (λ l. filter (is_of k) (map (placed i) part) ++ l) (none_below k (suc i) parts (omega arith))
    ∙ append-nil (filter (is_of k) (map (placed i) part))
    ∙ ap (λ z. filter (is_of k) (map (placed z) part)) here
    ∙ own k part
filter-placed_from k i (suc j) (part ∷ parts) h = beside k i part parts (differs_above i j k h) ∙ filter-placed_from k (suc i) j parts (omega arith)

-- a part whose stamps never fall is all that is of its nodelet in the merged entries
pub entries_of-merged : (k : ℕ) (parts : List (List Entry)) → Rises stamp_of_entry (slice_index_or parts k []) → entries_of k (merged parts) ≡ slice_index_or parts k []
entries_of-merged k parts rises =
    ap (map entry_of) (filter-by_key stamp_of_placed (is_of k) (placed_from 0 parts) ∙ ap (by_key stamp_of_placed) (filter-placed_from k 0 k parts (omega arith)))
    ∙ map-by_key entry_of stamp_of_entry (map (placed k) part)
    ∙ ap (by_key stamp_of_entry) (map-entry_of-placed k part)
    ∙ by_key-rising stamp_of_entry part rises
  where
    part : List Entry
    part = slice_index_or parts k []

-- ---- entries without their nodelets

pub map-entry_of-placed_from : (i : ℕ) (parts : List (List Entry)) → map entry_of (placed_from i parts) ≡ flat_map (λ part. part) parts
map-entry_of-placed_from i [] = refl
map-entry_of-placed_from i (part ∷ parts) =
    map-append entry_of (map (placed i) part) (placed_from (suc i) parts)
    ∙ ap (λ l. l ++ map entry_of (placed_from (suc i) parts)) (map-entry_of-placed i part)
    ∙ ap (λ l. part ++ l) (map-entry_of-placed_from (suc i) parts)

pub filter_map-map : {X Y Z : Type 0} (h : Y → Option Z) (f : X → Y) (l : List X) → filter_map h (map f l) ≡ filter_map (λ x. h (f x)) l
filter_map-map h f [] = refl
filter_map-map h f (x ∷ xs) = ap (cons_option (h (f x))) (filter_map-map h f xs)

pub length-placed_from : (i : ℕ) (parts : List (List Entry)) → length (placed_from i parts) ≡ sum_by length parts
length-placed_from i [] = refl
length-placed_from i (part ∷ parts) =
    length-append (map (placed i) part) (placed_from (suc i) parts)
    ∙ ap (λ n. n + length (placed_from (suc i) parts)) (length-map part (placed i))
    ∙ ap (λ n. length part + n) (length-placed_from (suc i) parts)
    ∙ sym (sum_by-cons length part parts)

-- as many entries are merged as there are
pub length-merged : (parts : List (List Entry)) → length (merged parts) ≡ sum_by length parts
length-merged parts = length-by_key stamp_of_placed (placed_from 0 parts) ∙ length-placed_from 0 parts

abbrev pub step_of_entry : Entry → Option Step
step_of_entry e = e.step

-- the steps of all entries in the order of their stamps, whatever their nodelets
pub steps_of-merged : (parts : List (List Entry)) → filter_map step_of_entry (by_key stamp_of_entry (flat_map (λ part. part) parts)) ≡ steps_of (merged parts)
steps_of-merged parts =
    ap (filter_map step_of_entry) (sym (map-by_key entry_of stamp_of_entry (placed_from 0 parts) ∙ ap (by_key stamp_of_entry) (map-entry_of-placed_from 0 parts)))
    ∙ filter_map-map step_of_entry entry_of (merged parts)
