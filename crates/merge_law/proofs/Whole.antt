-- The merge of whole parts.
use Rattle.std.proofs.Common.{◌≡◌, ℕ, ◌<◌, ◌≤◌, ◌⊎◌, inl, inr, List, [], map, Some, refl, sym, ap, ◌∙◌, arith, Bool, true, false}
use Rattle.std.specs.Prelude.{if◌then◌else◌, nat_lt, slice_index_or}
use Rattle.std.proofs.lemmas.Bool.{cases_lt}
use Rattle.std.proofs.lemmas.List.{get_or_past}
use Rattle.std.proofs.Math.Path.{fun_ext}
use Rattle.word_ops.specs.declared.step.Entry.{Entry}
use Rattle.merge_law.specs.Machine.{Machine, is_linked}
use Rattle.merge_law.specs.Events.{event_of}
use Rattle.merge_law.specs.Core.{Core, Played, starting, settled, play}
use Rattle.merge_law.specs.Replay.{Replayed, replay, IsWhole}
use Rattle.merge_law.specs.Merge.{stamp_of_placed, placed_from, merged, entries_of}
use Rattle.merge_law.specs.Laws.{MergedIsLegal, MergedKeepsParts}
use Rattle.merge_law.proofs.Somes.{some_is}
use Rattle.merge_law.proofs.Ends.{lt_true, lt_false, ends_of}
use Rattle.merge_law.proofs.ByKey.{rises_by}
use Rattle.merge_law.proofs.Replays.{rising}
use Rattle.merge_law.proofs.Steps.{Parts, Legal, legal}
use Rattle.merge_law.proofs.Placing.{entries_of-merged}

module _ {V B P : Type 0} (m : Machine V B P) (start nodes : ℕ → V) (parts : List (List Entry)) (sent received waiting : ℕ → ℕ → List P) (w : IsWhole m start parts nodes sent received waiting) where
  abbrev part : ℕ → List Entry
  part k = slice_index_or parts k []

  past : (k : ℕ) → m.nodelets ≤ k → part k ≡ []
  past k h = get_or_past parts k [] (omega (arith, w.count))

  -- a nodelet that is not there has no entries
  idle : ℕ → Replayed V P
  idle k = record { node = start k; sent = λ _. []; left = λ o. received o k; made = [] }

  record Side (k : ℕ) : Type 0 where
    end : Replayed V P
    goes : replay m k (part k) (start k) (λ o. received o k) ≡ Some end
    made : end.made ≡ part k

  side : (k : ℕ) → Side k
  unfolding idle
  side k = go (cases_lt k m.nodelets)
    where
      go : (k < m.nodelets) ⊎ (m.nodelets ≤ k) → Side k
      go (inl h) = let q = w.replays k h in record { end = q.end; goes = q.goes; made = q.made }
      go (inr h) = record { end = idle k; goes = ap (λ l. replay m k l (start k) (λ o. received o k)) (past k h); made = sym (past k h) }

  side_is : (k : ℕ) (h : k < m.nodelets) → (side k).end ≡ (w.replays k h).end
  side_is k h = some_is _ _ (sym (side k).goes ∙ (w.replays k h).goes)

  entries : (k : ℕ) → entries_of k (merged parts) ≡ part k
  entries k = entries_of-merged k parts (rising m k (part k) (start k) (λ o. received o k) (side k).end (side k).goes (side k).made).rises

  all_parts : Parts m (merged parts) (starting start) received waiting (λ k. (side k).end)
  all_parts = record {
    replays = λ k. ap (λ l. replay m k l (start k) (λ o. received o k)) (entries k) ∙ (side k).goes;
    made = λ k. (side k).made ∙ sym (entries k);
    none_left = λ o k l.
        let h = (ends_of m.nodelets o k l).takes in
        ap (λ (y : Replayed V P). y.left o) (side_is k h) ∙ (w.replays k h).none_left o l;
    links = λ k. record {
      on = λ o l.
          let h = (ends_of m.nodelets o k l).sends in
          ap (λ (y : Replayed V P). y.sent k) (side_is o h) ∙ (w.replays o h).sent_are k l ∙ w.links o k l;
    };
    apart = λ o k l. refl;
  }

  it : Legal m (merged parts) (starting start) waiting (λ k. (side k).end)
  it = legal m (merged parts) (starting start) received waiting (λ k. (side k).end) all_parts (rises_by stamp_of_placed (placed_from 0 parts))

  nodes_are : (k : ℕ) → it.end.nodes k ≡ (settled m.nodelets start nodes waiting).nodes k
  unfolding idle
  nodes_are k = it.nodes k ∙ go (nat_lt k m.nodelets) refl
    where
      go : (t : Bool) → nat_lt k m.nodelets ≡ t → (side k).end.node ≡ (if t then nodes k else start k)
      go true e =
          let h = lt_true k m.nodelets e in
          ap (λ (y : Replayed V P). y.node) (side_is k h) ∙ (w.replays k h).node_is
      go false e =
          let none = past k (lt_false k m.nodelets e) in
          let is : (side k).end ≡ idle k = some_is _ _ (sym (side k).goes ∙ ap (λ l. replay m k l (start k) (λ o. received o k)) none) in
          ap (λ (y : Replayed V P). y.node) is

  links_are : (o k : ℕ) → it.end.links o k ≡ (settled m.nodelets start nodes waiting).links o k
  links_are o k = go (is_linked m.nodelets o k) refl
    where
      go : (t : Bool) → is_linked m.nodelets o k ≡ t → it.end.links o k ≡ (if t then waiting o k else [])
      go true e = it.links o k e
      go false e = it.apart o k e

  core_is : it.end ≡ settled m.nodelets start nodes waiting
  core_is =
      ap (λ z. let y : Core V P = record { nodes = z; links = it.end.links } in y) (fun_ext nodes_are)
      ∙ ap (λ z. let y : Core V P = record { nodes = (settled m.nodelets start nodes waiting).nodes; links = z } in y) (fun_ext (λ o. fun_ext (links_are o)))

  whole_is_legal : play m (map event_of (merged parts)) (starting start) ≡ Some (record { core = settled m.nodelets start nodes waiting; told = merged parts })
  whole_is_legal = it.plays ∙ ap (λ z. let y : Played V P = record { core = z; told = merged parts } in Some y) core_is

pub merged_is_legal : (V B P : Type 0) → MergedIsLegal V B P
merged_is_legal V B P m start nodes parts sent received waiting w = whole_is_legal m start nodes parts sent received waiting w

pub merged_keeps_parts : (V B P : Type 0) → MergedKeepsParts V B P
merged_keeps_parts V B P m start nodes parts sent received waiting w k h = entries m start nodes parts sent received waiting w k
