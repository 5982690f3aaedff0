-- What holds of every merge.
use Rattle.std.specs.Prelude.{◌≡◌, ℕ, ◌<◌, ◌≤◌, ◌⊎◌, List, [], ◌∷◌, ◌++◌, map, filter, true, ◌&&◌, ◌==◌, All, AllPairs, length, sum_by, slice_index_or, Some}
use Rattle.word_ops.specs.declared.step.Entry.{Entry}
use Rattle.merge_law.specs.declared.event.Event.{Event}
use Rattle.merge_law.specs.Machine.{Machine, is_linked}
use Rattle.merge_law.specs.Events.{Placed, nodelet_of, event_of}
use Rattle.merge_law.specs.Core.{Advance, Played, starting, settled, advance, play}
use Rattle.merge_law.specs.Replay.{IsReplay, IsWhole}
use Rattle.merge_law.specs.Merge.{placed, merged, entries_of}

-- ---- the order

-- x comes before y: it has the lesser stamp, or the same one and no greater nodelet.
abbrev pub IsBefore : Placed → Placed → Type 0
IsBefore x y = (x.entry.stamp < y.entry.stamp) ⊎ ((x.entry.stamp ≡ y.entry.stamp) × (x.nodelet ≤ y.nodelet))

-- Of these entries, those of nodelet k with the stamp s.
abbrev pub those_at : ℕ → ℕ → List Placed → List Placed
those_at k s entries = filter (λ x. x.nodelet == k && x.entry.stamp == s) entries

-- Merged entries stand by stamp, then nodelet; those of one nodelet with one stamp are those of its part, in its order.
abbrev pub MergedIsInOrder : Type 0
MergedIsInOrder = (parts : List (List Entry)) →
    AllPairs IsBefore (merged parts)
    × ((k s : ℕ) → those_at k s (merged parts) ≡ map (placed k) (filter (λ e. e.stamp == s) (slice_index_or parts k [])))

module _ (V B P : Type 0) where
  -- ---- merges of whole parts

  -- Where parts are whole, the events of the merged entries are legal one after the other, make just these entries,
  -- and lead to a core with exactly these nodes and link contents.
  abbrev pub MergedIsLegal : Type 0
  MergedIsLegal = (m : Machine V B P) (start nodes : ℕ → V) (parts : List (List Entry)) (sent received waiting : ℕ → ℕ → List P) →
      IsWhole m start parts nodes sent received waiting →
      play m (map event_of (merged parts)) (starting start) ≡ Some (record { core = settled m.nodelets start nodes waiting; told = merged parts })

  -- What is of each nodelet in the merged entries is its part, in its order.
  abbrev pub MergedKeepsParts : Type 0
  MergedKeepsParts = (m : Machine V B P) (start nodes : ℕ → V) (parts : List (List Entry)) (sent received waiting : ℕ → ℕ → List P) →
      IsWhole m start parts nodes sent received waiting →
      (k : ℕ) → k < m.nodelets → entries_of k (merged parts) ≡ slice_index_or parts k []

  -- ---- replays

  -- A replay goes on by an event at its node that takes all that was received besides.
  abbrev pub ReplaysGoOn : Type 0
  ReplaysGoOn = (m : Machine V B P) (k : ℕ) (v node : V) (entries : List Entry) (received more sent : ℕ → List P) (event : Event) (d : Advance V P) →
      IsReplay m k v entries received node sent → nodelet_of event ≡ k → advance m node more event ≡ Some d →
      ((o : ℕ) → is_linked m.nodelets o k ≡ true → d.left o ≡ []) →
      IsReplay m k v (entries ++ d.outcome.entry ∷ []) (λ o. received o ++ more o) d.outcome.node (λ j. sent j ++ d.outcome.sent j)

  -- ---- stamps

  -- Where no nodelet has had an event before, no stamp is more than the number of all entries.
  abbrev pub StampsAreCounted : Type 0
  StampsAreCounted = (m : Machine V B P) (start : ℕ → V) (events : List Event) (end : Played V P) →
      ((k : ℕ) → k < m.nodelets → m.stamp_of (start k) ≡ 0) → play m events (starting start) ≡ Some end →
      All (λ x. x.entry.stamp ≤ length end.told) end.told

  -- The same of whole parts.
  abbrev pub PartsAreCounted : Type 0
  PartsAreCounted = (m : Machine V B P) (start nodes : ℕ → V) (parts : List (List Entry)) (sent received waiting : ℕ → ℕ → List P) →
      ((k : ℕ) → k < m.nodelets → m.stamp_of (start k) ≡ 0) → IsWhole m start parts nodes sent received waiting →
      (k : ℕ) → k < m.nodelets → All (λ e. e.stamp ≤ sum_by length parts) (slice_index_or parts k [])
