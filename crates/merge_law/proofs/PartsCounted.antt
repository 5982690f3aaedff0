-- No stamp in whole parts is more than the number of all entries.
use Rattle.std.proofs.Common.{ℕ, ◌≤◌, List, [], ◌∷◌, length, map, subst}
use Rattle.std.specs.Prelude.{slice_index_or, filter, sum_by}
use Rattle.word_ops.specs.declared.step.Entry.{Entry}
use Rattle.merge_law.specs.Events.{Placed, event_of}
use Rattle.merge_law.specs.Core.{settled}
use Rattle.merge_law.specs.Merge.{merged, entry_of, is_of, entries_of}
use Rattle.merge_law.specs.Laws.{PartsAreCounted}
use Rattle.merge_law.proofs.Pairs.{Each, each_filter, each_at}
use Rattle.merge_law.proofs.Placing.{length-merged}
use Rattle.merge_law.proofs.Whole.{merged_is_legal, merged_keeps_parts}
use Rattle.merge_law.proofs.Counted.{each_counted}

each_entry : (b : ℕ) (l : List Placed) → Each (λ (x : Placed). x.entry.stamp ≤ b) l → Each (λ (e : Entry). e.stamp ≤ b) (map entry_of l)
each_entry b [] all = tt
each_entry b (x ∷ xs) all = (all.0, each_entry b xs all.1)

pub parts_are_counted : (V B P : Type 0) → PartsAreCounted V B P
parts_are_counted V B P m start nodes parts sent received waiting fresh w k h i d under =
    each_at (λ (e : Entry). e.stamp ≤ sum_by length parts) (slice_index_or parts k []) (subst (Each (λ (e : Entry). e.stamp ≤ sum_by length parts)) (merged_keeps_parts V B P m start nodes parts sent received waiting w k h) here) i d under
  where
    all : Each (λ (x : Placed). x.entry.stamp ≤ sum_by length parts) (merged parts)
    all = subst (λ n. Each (λ (x : Placed). x.entry.stamp ≤ n) (merged parts)) (length-merged parts) (each_counted m start (map event_of (merged parts)) (record { core = settled m.nodelets start nodes waiting; told = merged parts }) fresh (merged_is_legal V B P m start nodes parts sent received waiting w))

    here : Each (λ (e : Entry). e.stamp ≤ sum_by length parts) (entries_of k (merged parts))
    here = each_entry (sum_by length parts) (filter (is_of k) (merged parts)) (each_filter (λ (x : Placed). x.entry.stamp ≤ sum_by length parts) (is_of k) (merged parts) all)
