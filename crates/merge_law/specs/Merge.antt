-- The merge of the entries of all nodelets.
use Rattle.std.specs.Prelude.{ℕ, suc, List, [], ◌∷◌, ◌++◌, Bool, ◌==◌, map, filter, filter_map}
use Rattle.word_ops.specs.declared.step.Step.{Step}
use Rattle.word_ops.specs.declared.step.Entry.{Entry}
use Rattle.merge_law.specs.Events.{Placed}
use Rattle.merge_law.specs.Order.{by_key}

abbrev pub placed : ℕ → Entry → Placed
placed k entry = record { nodelet = k; entry = entry }

abbrev pub stamp_of_placed : Placed → ℕ
stamp_of_placed x = x.entry.stamp

-- The entries of parts, of which the first is that of nodelet k: nodelet by nodelet, each in its order.
abbrev pub placed_from : ℕ → List (List Entry) → List Placed
placed_from k [] = []
placed_from k (part ∷ parts) = map (placed k) part ++ placed_from (suc k) parts

-- All entries by stamp, then nodelet, then place in the part.
abbrev pub merged : List (List Entry) → List Placed
merged parts = by_key stamp_of_placed (placed_from 0 parts)

abbrev pub entry_of : Placed → Entry
entry_of x = x.entry

abbrev pub is_of : ℕ → Placed → Bool
is_of k x = x.nodelet == k

-- Of these entries, those of nodelet k.
abbrev pub entries_of : ℕ → List Placed → List Entry
entries_of k entries = map entry_of (filter (is_of k) entries)

-- The steps that entries have.
abbrev pub steps_of : List Placed → List Step
steps_of entries = filter_map (λ x. x.entry.step) entries
