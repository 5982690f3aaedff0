-- No stamp is more than the number of entries.
use Rattle.std.proofs.Common.{◌≡◌, ℕ, ◌+◌, ◌<◌, ◌≤◌, List, [], ◌∷◌, length, map, Some, refl, sym, subst, arith, Bool, true, false}
use Rattle.std.specs.Prelude.{if◌then◌else◌, ◌==◌, ◌&&◌, nat_lt, max, option_map}
use Rattle.std.proofs.lemmas.Bool.{eqb-true}
use Rattle.word_ops.specs.declared.name.Name.{Name}
use Rattle.word_ops.specs.declared.step.NodeEvent.{NodeEvent}
use Rattle.word_ops.specs.declared.step.NodeEvent.TheVariants as node
use Rattle.merge_law.specs.declared.event.Event.{Event}
use Rattle.merge_law.specs.declared.event.Event.TheVariants.{Run, Take}
use Rattle.merge_law.specs.Machine.{Raw, Machine, Outcome, last_stamp, is_linked, stamped, run_at, take_at}
use Rattle.merge_law.specs.Events.{Placed, nodelet_of}
use Rattle.merge_law.specs.Core.{Core, Advance, After, Played, starting, leaving, but_from, core_after, told_first, take_first, advance, after, play}
use Rattle.merge_law.specs.Laws.{StampsAreCounted}
use Rattle.merge_law.proofs.Somes.{some_is, from_if, from_map, from_then}
use Rattle.merge_law.proofs.Pairs.{Each, each_then, each_append, each_at}
use Rattle.merge_law.proofs.Ends.{lt_true, ends_of}

module _ {V B P : Type 0} (m : Machine V B P) where
  -- no packet is younger than b
  abbrev Old : ℕ → List P → Type 0
  Old b l = Each (λ p. m.sent_at p ≤ b) l

  older : (b c : ℕ) (l : List P) → b ≤ c → Old b l → Old c l
  older b c l h all = each_then (λ p. m.sent_at p ≤ b) (λ p. m.sent_at p ≤ c) (λ p q. omega arith) l all

  -- no stamp is above b
  record IsOld (b : ℕ) (c : Core V P) : Type 0 where
    nodes : (k : ℕ) → k < m.nodelets → m.stamp_of (c.nodes k) ≤ b
    links : (o k : ℕ) → is_linked m.nodelets o k ≡ true → Old b (c.links o k)

  record OutcomeIsOld (b : ℕ) (d : Outcome V P) : Type 0 where
    entry : d.entry.stamp ≤ b
    node : m.stamp_of d.node ≤ b
    sent : (j : ℕ) → Old b (d.sent j)

  packets : (b s : ℕ) → s ≤ b → (bodies : List B) → Old b (map (m.packet s) bodies)
  packets b s h [] = tt
  packets b s h (body ∷ bodies) = (subst (λ z. z ≤ b) (sym (m.sent_at-packet s body)) h, packets b s h bodies)

  stamped_is_old : (b k s : ℕ) (event : ℕ → NodeEvent) (raw : Raw V B) → s ≤ b → OutcomeIsOld b (stamped m k s event raw)
  stamped_is_old b k s event raw h = record {
    entry = h;
    node = subst (λ z. z ≤ b) (sym (m.stamp_of-with_stamp s raw.node)) h;
    sent = λ j. go j (is_linked m.nodelets k j);
  }
    where
      go : (j : ℕ) → (t : Bool) → Old b (if t then map (m.packet s) (raw.bodies j) else [])
      go j true = packets b s h (raw.bodies j)
      go j false = tt

  run_is_old : (b k : ℕ) (v : V) (name : Name) (d : Outcome V P) → run_at m k v name ≡ Some d → m.stamp_of v ≤ b → OutcomeIsOld (b + 1) d
  run_is_old b k v name d e h =
      let event : ℕ → NodeEvent = λ count. node.Run name count in
      let s : ℕ = m.stamp_of v + 1 in
      let i = from_if (nat_lt (m.stamp_of v) last_stamp) (option_map (stamped m k s event) (m.run_of k v name)) d e in
      let o = from_map (stamped m k s event) (m.run_of k v name) d i.was in
      subst (OutcomeIsOld (b + 1)) o.is (stamped_is_old (b + 1) k s event o.value (omega arith))

  take_is_old : (b k : ℕ) (v : V) (origin : ℕ) (p : P) (d : Outcome V P) → take_at m k v origin p ≡ Some d → m.stamp_of v ≤ b → m.sent_at p ≤ b → OutcomeIsOld (b + 1) d
  take_is_old b k v origin p d e h l =
      let event : ℕ → NodeEvent = λ count. node.Take origin in
      let s : ℕ = max (m.stamp_of v) (m.sent_at p) + 1 in
      let i = from_if (nat_lt (m.stamp_of v) last_stamp && nat_lt (m.sent_at p) last_stamp) (option_map (stamped m k s event) (m.take_of k v origin (m.body_of p))) d e in
      let o = from_map (stamped m k s event) (m.take_of k v origin (m.body_of p)) d i.was in
      subst (OutcomeIsOld (b + 1)) o.is (stamped_is_old (b + 1) k s event o.value (omega arith))

  record AdvanceIsOld (b k : ℕ) (d : Advance V P) : Type 0 where
    outcome : OutcomeIsOld (b + 1) d.outcome
    left : (o : ℕ) → is_linked m.nodelets o k ≡ true → Old b (d.left o)

  under : (v : V) (incoming : ℕ → List P) (event : Event) (d : Advance V P) → advance m v incoming event ≡ Some d → nodelet_of event < m.nodelets
  under v incoming (Run k name) d e = lt_true k m.nodelets (from_if (nat_lt k m.nodelets) (option_map (leaving incoming) (run_at m k v name)) d e).test
  under v incoming (Take origin k) d e = (ends_of m.nodelets origin k (from_if (is_linked m.nodelets origin k) (take_first m k v origin incoming (incoming origin)) d e).test).takes

  advance_is_old : (b : ℕ) (v : V) (incoming : ℕ → List P) (event : Event) (d : Advance V P) → advance m v incoming event ≡ Some d → m.stamp_of v ≤ b → ((o : ℕ) → is_linked m.nodelets o (nodelet_of event) ≡ true → Old b (incoming o)) → AdvanceIsOld b (nodelet_of event) d
  advance_is_old b v incoming (Run k name) d e h old =
      let i = from_if (nat_lt k m.nodelets) (option_map (leaving incoming) (run_at m k v name)) d e in
      let o = from_map (leaving incoming) (run_at m k v name) d i.was in
      subst (AdvanceIsOld b k) o.is (record { outcome = run_is_old b k v name o.value o.was h; left = old })
  advance_is_old b v incoming (Take origin k) d e h old = go (incoming origin) (old origin linked) (from_if (is_linked m.nodelets origin k) (take_first m k v origin incoming (incoming origin)) d e).was
    where
      linked : is_linked m.nodelets origin k ≡ true
      linked = (from_if (is_linked m.nodelets origin k) (take_first m k v origin incoming (incoming origin)) d e).test

      go : (l : List P) → Old b l → take_first m k v origin incoming l ≡ Some d → AdvanceIsOld b k d
      go [] all q = absurd (cc)
      go (p ∷ rest) all q =
          let o = from_map (leaving (but_from origin rest incoming)) (take_at m k v origin p) d q in
          subst (AdvanceIsOld b k) o.is (record { outcome = take_is_old b k v origin p o.value o.was h all.0; left = λ a l. beside a l (a == origin) })
        where
          beside : (a : ℕ) → is_linked m.nodelets a k ≡ true → (t : Bool) → Old b (if t then rest else incoming a)
          beside a l true = all.1
          beside a l false = old a l

  core_is_old : (b k : ℕ) (c : Core V P) (d : Advance V P) → IsOld b c → AdvanceIsOld b k d → IsOld (b + 1) (core_after c k d).core
  core_is_old b k c d old new = record {
    nodes = λ j h. node_of j h (j == k);
    links = λ o j l. each_append (λ p. m.sent_at p ≤ b + 1) _ _ (stays o j l (j == k) refl) (sends o j (o == k));
  }
    where
      node_of : (j : ℕ) → j < m.nodelets → (t : Bool) → m.stamp_of (if t then d.outcome.node else c.nodes j) ≤ b + 1
      node_of j h true = new.outcome.node
      node_of j h false = let le = old.nodes j h in omega arith

      stays : (o j : ℕ) → is_linked m.nodelets o j ≡ true → (t : Bool) → (j == k) ≡ t → Old (b + 1) (if t then d.left o else c.links o j)
      stays o j l true e = older b (b + 1) (d.left o) (omega arith) (new.left o (subst (λ z. is_linked m.nodelets o z ≡ true) (eqb-true _ _ e) l))
      stays o j l false e = older b (b + 1) (c.links o j) (omega arith) (old.links o j l)

      sends : (o j : ℕ) → (t : Bool) → Old (b + 1) (if t then d.outcome.sent j else [])
      sends o j true = new.outcome.sent j
      sends o j false = tt

  record AfterIsOld (b : ℕ) (a : After V P) : Type 0 where
    core : IsOld (b + 1) a.core
    entry : a.entry.entry.stamp ≤ b + 1

  after_is_old : (b : ℕ) (c : Core V P) (event : Event) (a : After V P) → after m c event ≡ Some a → IsOld b c → AfterIsOld b a
  after_is_old b c event a e old =
      let k : ℕ = nodelet_of event in
      let d = from_map (core_after c k) (advance m (c.nodes k) (λ o. c.links o k) event) a e in
      let h = under (c.nodes k) (λ o. c.links o k) event d.value d.was in
      let new = advance_is_old b (c.nodes k) (λ o. c.links o k) event d.value d.was (old.nodes k h) (λ o l. old.links o k l) in
      subst (AfterIsOld b) d.is (record { core = core_is_old b k c d.value old new; entry = new.outcome.entry })

  -- one entry more, and one stamp more
  extended : (b : ℕ) (x : Placed) (l : List Placed) → x.entry.stamp ≤ b + 1 → Each (λ (y : Placed). y.entry.stamp ≤ (b + 1) + length l) l → Each (λ (y : Placed). y.entry.stamp ≤ b + length (x ∷ l)) (x ∷ l)
  extended b x l h all = (omega arith, each_then (λ (y : Placed). y.entry.stamp ≤ (b + 1) + length l) (λ (y : Placed). y.entry.stamp ≤ b + length (x ∷ l)) (λ y q. omega arith) l all)

  counted : (b : ℕ) (events : List Event) (c : Core V P) (end : Played V P) → play m events c ≡ Some end → IsOld b c → Each (λ (x : Placed). x.entry.stamp ≤ b + length end.told) end.told
  counted b [] c end e old = subst (λ (y : Played V P). Each (λ (x : Placed). x.entry.stamp ≤ b + length y.told) y.told) (some_is _ _ e) tt
  counted b (event ∷ events) c end e old =
      let a = from_then (λ (y : After V P). option_map (told_first y.entry) (play m events y.core)) (after m c event) end e in
      let q = from_map (told_first a.value.entry) (play m events a.value.core) end a.next in
      let new = after_is_old b c event a.value a.was old in
      let first : a.value.entry.entry.stamp ≤ b + 1 = new.entry in
      let rest = counted (b + 1) events a.value.core q.value q.was new.core in
      subst (λ (y : Played V P). Each (λ (x : Placed). x.entry.stamp ≤ b + length y.told) y.told) q.is (extended b a.value.entry q.value.told first rest)

module _ {V B P : Type 0} (m : Machine V B P) (start : ℕ → V) (events : List Event) (end : Played V P) (fresh : (k : ℕ) → k < m.nodelets → m.stamp_of (start k) ≡ 0) (e : play m events (starting start) ≡ Some end) where
  no_stamps : IsOld m 0 (starting start)
  no_stamps = record { nodes = λ k q. (let z = fresh k q in omega arith); links = λ o k l. tt }

  pub each_counted : Each (λ (x : Placed). x.entry.stamp ≤ length end.told) end.told
  each_counted = each_then (λ (x : Placed). x.entry.stamp ≤ 0 + length end.told) (λ (x : Placed). x.entry.stamp ≤ length end.told) (λ x q. omega arith) end.told (counted m 0 events (starting start) end e no_stamps)

pub stamps_are_counted : (V B P : Type 0) → StampsAreCounted V B P
stamps_are_counted V B P m start events end fresh e i d h = each_at (λ (x : Placed). x.entry.stamp ≤ length end.told) end.told (each_counted m start events end fresh e) i d h
