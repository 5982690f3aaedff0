-- Merged entries stand by stamp, then nodelet, then place in the part.
use Rattle.std.proofs.Common.{◌≡◌, ℕ, suc, ◌<◌, ◌≤◌, ◌⊎◌, inl, inr, List, [], ◌∷◌, ◌++◌, map, ap, ◌∙◌, arith}
use Rattle.std.specs.Prelude.{◌==◌, filter, slice_index_or}
use Rattle.std.proofs.lemmas.Bool.{cases_lt}
use Rattle.word_ops.specs.declared.step.Entry.{Entry}
use Rattle.merge_law.specs.Events.{Placed}
use Rattle.merge_law.specs.Merge.{placed, stamp_of_placed, placed_from, merged, is_of}
use Rattle.merge_law.specs.Laws.{IsBefore, those_at, MergedIsInOrder}
use Rattle.merge_law.proofs.Pairs.{Each, Pairwise, all_pairs, filter-and, filter-filter, filter-map}
use Rattle.merge_law.proofs.ByKey.{at, same_by, pairwise_by}
use Rattle.merge_law.proofs.Placing.{filter-placed_from}

-- ---- nodelets rise before the merge

abbrev NoLess : Placed → Placed → Type 0
NoLess x y = x.nodelet ≤ y.nodelet

each_above : (b i : ℕ) (part : List Entry) (rest : List Placed) → b ≤ i → Each (λ x. b ≤ x.nodelet) rest → Each (λ x. b ≤ x.nodelet) (map (placed i) part ++ rest)
each_above b i [] rest h all = all
each_above b i (e ∷ es) rest h all = (h, each_above b i es rest h all)

above : (b i : ℕ) (parts : List (List Entry)) → b ≤ i → Each (λ x. b ≤ x.nodelet) (placed_from i parts)
above b i [] h = tt
above b i (part ∷ parts) h = each_above b i part (placed_from (suc i) parts) h (above b (suc i) parts (omega arith))

part_rises : (i : ℕ) (part : List Entry) (rest : List Placed) → Each (λ x. i ≤ x.nodelet) rest → Pairwise NoLess rest → Pairwise NoLess (map (placed i) part ++ rest)
part_rises i [] rest all p = p
part_rises i (e ∷ es) rest all p = (each_above i i es rest (omega arith) all, part_rises i es rest all p)

nodelets_rise : (i : ℕ) (parts : List (List Entry)) → Pairwise NoLess (placed_from i parts)
nodelets_rise i [] = tt
nodelets_rise i (part ∷ parts) = part_rises i part (placed_from (suc i) parts) (above i (suc i) parts (omega arith)) (nodelets_rise (suc i) parts)

-- ---- the order

same_ends : (a b : ℕ) → a ≤ b → b ≤ a → a ≡ b
same_ends a b p q = omega arith

before : (x y : Placed) → stamp_of_placed x ≤ stamp_of_placed y → NoLess x y → IsBefore x y
before x y h n = go (cases_lt x.entry.stamp y.entry.stamp)
  where
    go : (x.entry.stamp < y.entry.stamp) ⊎ (y.entry.stamp ≤ x.entry.stamp) → IsBefore x y
    go (inl lt) = inl lt
    go (inr ge) = inr (same_ends x.entry.stamp y.entry.stamp h ge, n)

behind : (x y : Placed) → stamp_of_placed y < stamp_of_placed x → NoLess x y → IsBefore y x
behind x y h n = inl h

those : (parts : List (List Entry)) (k s : ℕ) → those_at k s (merged parts) ≡ map (placed k) (filter (λ e. e.stamp == s) (slice_index_or parts k []))
those parts k s =
    filter-and (is_of k) (at stamp_of_placed s) (merged parts)
    ∙ ap (filter (is_of k)) (same_by stamp_of_placed s (placed_from 0 parts))
    ∙ filter-filter (is_of k) (at stamp_of_placed s) (placed_from 0 parts)
    ∙ ap (filter (at stamp_of_placed s)) (filter-placed_from k 0 k parts (omega arith))
    ∙ filter-map (at stamp_of_placed s) (placed k) (slice_index_or parts k [])

pub merged_is_in_order : MergedIsInOrder
merged_is_in_order parts = (all_pairs IsBefore (merged parts) (pairwise_by stamp_of_placed IsBefore NoLess before behind (placed_from 0 parts) (nodelets_rise 0 parts)), λ k s. those parts k s)
