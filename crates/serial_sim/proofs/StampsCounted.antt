-- No stamp of a run is more than the number of its entries.
use Rattle.std.proofs.Common.{◌≡◌, ◌≤◌, ◌<◌, ◌+◌, ℕ, zero, suc, List, [], ◌∷◌, Some, refl, sym, ap, ◌∙◌, subst, Bool, true, false, map, length, arith, nat_lt}
use Rattle.std.specs.Prelude.{◌==◌, ◌&&◌, not, filter, sum_by, All, option_map}
use Rattle.std.proofs.lemmas.Bool.{lt-ltb, ltb-true}
use Rattle.std.proofs.lemmas.Bool.Decides.{eqb_tells, nat_tests}
use Rattle.std.proofs.lemmas.List.{map-append}
use Rattle.std.proofs.lemmas.List.Sums.{sum_by-append}
use Rattle.std.proofs.lemmas.List.Elements.{All-map, All-filter}
use Rattle.word_ops.specs.declared.step.Entry.{Entry}
use Rattle.word_ops.specs.Report.{below}
use Rattle.merge_law.specs.declared.event.Event.{Event}
use Rattle.merge_law.specs.declared.event.Event.TheVariants.{Run, Take}
use Rattle.merge_law.specs.Machine.{Machine, is_linked, run_at}
use Rattle.merge_law.specs.Events.{Placed, nodelet_of}
use Rattle.merge_law.specs.Core.{After, Played, advance, after, core_after, play, told_first, take_first, leaving}
use Rattle.merge_law.specs.Core as merge
use Rattle.merge_law.specs.Merge.{entries_of, entry_of, is_of}
use Rattle.merge_law.proofs.Somes.{from_if, from_map, from_then, some_is}
use Rattle.merge_law.proofs.Pairs.{Each}
use Rattle.merge_law.proofs.Counted.{stamps_are_counted}
use Rattle.core_model.specs.Nodes.{Setup, Node}
use Rattle.core_model.specs.Machine.{Packet, machine_of}
use Rattle.core_model.specs.Core.{start_core}
use Rattle.core_model.specs.Start.{start_node}
use Rattle.core_model.specs.Laws.{IsPlayed, parts_of}
use Rattle.core_model.proofs.Actions.Sights.{both_true}

-- ---- each entry is of a nodelet

module _ {V B P : Type 0} (m : Machine V B P) where
  happens_within : (v : V) (incoming : ℕ → List P) (event : Event) (d : merge.Advance V P) → advance m v incoming event ≡ Some d → nodelet_of event < m.nodelets
  happens_within v incoming (Run k name) d e =
      ltb-true k m.nodelets (from_if (nat_lt k m.nodelets) (option_map (leaving incoming) (run_at m k v name)) d e).test
  happens_within v incoming (Take origin k) d e =
      let linked = (from_if (is_linked m.nodelets origin k) (take_first m k v origin incoming (incoming origin)) d e).test in
      ltb-true k m.nodelets (both_true (nat_lt origin m.nodelets) (nat_lt k m.nodelets) (both_true (nat_lt origin m.nodelets && nat_lt k m.nodelets) (not (origin == k)) linked).0).1

  entry_within : (c : merge.Core V P) (event : Event) (a : After V P) → after m c event ≡ Some a → a.entry.nodelet < m.nodelets
  entry_within c event a e =
      let by = from_map (core_after c (nodelet_of event)) (advance m (c.nodes (nodelet_of event)) (λ o. c.links o (nodelet_of event)) event) a e in
      subst (λ (x : After V P). x.entry.nodelet < m.nodelets) by.is (happens_within (c.nodes (nodelet_of event)) (λ o. c.links o (nodelet_of event)) event by.value by.was)

  told_within : (events : List Event) (c : merge.Core V P) (end : Played V P) → play m events c ≡ Some end → Each (λ (x : Placed). x.nodelet < m.nodelets) end.told
  told_within [] c end e = subst (λ (y : Played V P). Each (λ (x : Placed). x.nodelet < m.nodelets) y.told) (some_is _ _ e) tt
  told_within (event ∷ events) c end e =
      let a = from_then (λ (y : After V P). option_map (told_first y.entry) (play m events y.core)) (after m c event) end e in
      let q = from_map (told_first a.value.entry) (play m events a.value.core) end a.next in
      subst (λ (y : Played V P). Each (λ (x : Placed). x.nodelet < m.nodelets) y.told) q.is
      (entry_within c event a.value a.was, told_within events a.value.core q.value q.was)

-- ---- so all are counted nodelet by nodelet

abbrev is_below : ℕ → Placed → Bool
is_below n x = nat_lt x.nodelet n

none_below : (told : List Placed) → length (filter (is_below 0) told) ≡ 0
none_below [] = refl
none_below (x ∷ told) = go (none_below told) (nat_lt x.nodelet 0) refl
  where
    go : length (filter (is_below 0) told) ≡ 0 → (t : Bool) → nat_lt x.nodelet 0 ≡ t → length (filter (is_below 0) (x ∷ told)) ≡ 0
    go rest true e = absurd (let h = ltb-true x.nodelet 0 e in omega arith)
    go rest false e = rw e rest

more_below : (n : ℕ) (told : List Placed) → length (filter (is_below (suc n)) told) ≡ length (filter (is_below n) told) + length (filter (is_of n) told)
more_below n [] = refl
more_below n (x ∷ told) = go (nat_lt x.nodelet (suc n)) refl (nat_lt x.nodelet n) refl (x.nodelet == n) refl (more_below n told)
  where
    go : (a : Bool) → nat_lt x.nodelet (suc n) ≡ a → (b : Bool) → nat_lt x.nodelet n ≡ b → (c : Bool) → (x.nodelet == n) ≡ c →
        length (filter (is_below (suc n)) told) ≡ length (filter (is_below n) told) + length (filter (is_of n) told) →
        length (filter (is_below (suc n)) (x ∷ told)) ≡ length (filter (is_below n) (x ∷ told)) + length (filter (is_of n) (x ∷ told))
    go true e true f true g rest = absurd (grind (arith, nat_tests, eqb_tells))
    go true e true f false g rest = rw (e, f, g) (omega arith)
    go true e false f true g rest = rw (e, f, g) (omega arith)
    go true e false f false g rest = absurd (grind (arith, nat_tests, eqb_tells))
    go false e true f c g rest = absurd (grind (arith, nat_tests, eqb_tells))
    go false e false f true g rest = absurd (grind (arith, nat_tests, eqb_tells))
    go false e false f false g rest = rw (e, f, g) rest

length_mapped : {X Y : Type 0} (f : X → Y) (xs : List X) → length (map f xs) ≡ length xs
length_mapped f [] = refl
length_mapped f (x ∷ xs) = ap suc (length_mapped f xs)

counted_below : (n : ℕ) (told : List Placed) → sum_by length (parts_of n told) ≡ length (filter (is_below n) told)
counted_below zero told = sym (none_below told)
counted_below (suc n) told =
    ap (sum_by length) (map-append (λ k. entries_of k told) (below n) (n ∷ []))
    ∙ sum_by-append length (parts_of n told) (entries_of n told ∷ [])
    ∙ (let before = counted_below n told in let here = length_mapped entry_of (filter (is_of n) told) in let more = more_below n told in omega arith)

all_below : (n : ℕ) (told : List Placed) → Each (λ (x : Placed). x.nodelet < n) told → length (filter (is_below n) told) ≡ length told
all_below n [] all = refl
all_below n (x ∷ told) all = let less : nat_lt x.nodelet n ≡ true = lt-ltb x.nodelet n all.0 in rw less (ap suc (all_below n told all.1))

module _ (u : Setup) (events : List Event) (played : Played Node Packet) (plays : IsPlayed u events played) where
  all_counted : sum_by length (parts_of u.nodelets played.told) ≡ length played.told
  all_counted = counted_below u.nodelets played.told ∙ all_below u.nodelets played.told (told_within (machine_of u) events (start_core u) played plays)

  bound : All (λ (x : Placed). x.entry.stamp ≤ sum_by length (parts_of u.nodelets played.told)) played.told
  bound =
      subst (λ n. All (λ (x : Placed). x.entry.stamp ≤ n) played.told) (sym all_counted)
      (stamps_are_counted _ _ _ (machine_of u) (start_node u) events played (λ k less. refl) plays)

  pub stamps_counted : All (λ part. All (λ (e : Entry). e.stamp ≤ sum_by length (parts_of u.nodelets played.told)) part) (parts_of u.nodelets played.told)
  stamps_counted =
      All-map (λ part. All (λ (e : Entry). e.stamp ≤ sum_by length (parts_of u.nodelets played.told)) part) (λ k. entries_of k played.told) (below u.nodelets)
      (λ i d under. All-map (λ (e : Entry). e.stamp ≤ sum_by length (parts_of u.nodelets played.told)) entry_of _ (All-filter (is_of _) (λ (x : Placed). x.entry.stamp ≤ sum_by length (parts_of u.nodelets played.told)) played.told bound))
