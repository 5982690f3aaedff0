-- A nodelet that has been at an event has the stamp of the last entry that tells of one there.
use Rattle.std.proofs.Common.{◌≡◌, ℕ, ◌≤◌, List, [], ◌∷◌, Some, refl, sym, ap, ◌∙◌, subst, arith, Bool, true, false, option_map}
use Rattle.std.specs.Prelude.{if◌then◌else◌, ◌==◌, filter, map}
use Rattle.std.specs.Option.{option_map_or}
use Rattle.std.proofs.lemmas.Bool.{eqb-true, eq-eqb}
use Rattle.word_ops.specs.declared.step.Entry.{Entry}
use Rattle.word_ops.specs.declared.step.NodeEvent.{NodeEvent}
use Rattle.word_ops.specs.declared.step.NodeEvent.TheVariants as node
use Rattle.merge_law.specs.declared.event.Event.{Event}
use Rattle.merge_law.specs.declared.event.Event.TheVariants.{Run, Take}
use Rattle.merge_law.specs.Machine.{Raw, stamped}
use Rattle.merge_law.specs.Core.{After, Played, core_after, leaving, but_from, after, told_first, play}
use Rattle.merge_law.specs.Merge.{entry_of, is_of, entries_of}
use Rattle.merge_law.proofs.Somes.{from_map, from_then, some_is, swapped}
use Rattle.world_model.specs.Step.{last_of}
use Rattle.core_model.specs.Contexts.{Body}
use Rattle.core_model.specs.Nodes.{Setup, Node}
use Rattle.core_model.specs.Machine.{Packet, machine_of}
use Rattle.core_model.specs.Core.{Core}
use Rattle.core_model.proofs.Events.LegalEvent.{run_stamp, HasRun, take_stamp, taken, HasTaken, happened}

-- ---- the last of entries

-- the stamp of the last of these entries, and another where there is none
abbrev pub last_stamped : ℕ → List Entry → ℕ
last_stamped stamp [] = stamp
last_stamped stamp (x ∷ xs) = last_stamped x.stamp xs

-- the last entry has this stamp
abbrev pub is_last_stamp : ℕ → List Entry → Bool
is_last_stamp stamp part = option_map_or (λ (entry : Entry). entry.stamp == stamp) (last_of part) false

last_is : (x : Entry) (xs : List Entry) → (y : Entry) × (last_of (x ∷ xs) ≡ Some y) × (y.stamp ≡ last_stamped x.stamp xs)
last_is x [] = (x, refl, refl)
last_is x (y ∷ ys) = last_is y ys

-- a stamp that is not 0 is that of an entry
pub last_has_stamp : (stamp : ℕ) (part : List Entry) → 1 ≤ stamp → last_stamped 0 part ≡ stamp → is_last_stamp stamp part ≡ true
last_has_stamp stamp [] some e = absurd (omega arith)
last_has_stamp stamp (x ∷ xs) some e =
    let last = last_is x xs in
    ap (λ o. option_map_or (λ (entry : Entry). entry.stamp == stamp) o false) last.1 ∙ eq-eqb last.0.stamp stamp (last.2 ∙ e)

-- ---- an event

-- the nodelet of an entry has the entry's stamp, and each other one the stamp that it had
abbrev Stamps : Core → After Node Packet → Type 0
Stamps c a = (k : ℕ) → (a.core.nodes k).stamp ≡ (if is_of k a.entry then a.entry.entry.stamp else (c.nodes k).stamp)

module _ (u : Setup) where
  outcome_stamps : (c : Core) (k stamp : ℕ) (event : ℕ → NodeEvent) (left : ℕ → List Packet) (raw : Raw Node Body) → Stamps c (core_after c k (leaving left (stamped (machine_of u) k stamp event raw)))
  outcome_stamps c k stamp event left raw j = go (j == k) refl
    where
      go : (t : Bool) → (j == k) ≡ t → (if t then (stamped (machine_of u) k stamp event raw).node else c.nodes j).stamp ≡ (if k == j then stamp else (c.nodes j).stamp)
      go true e = ap (λ t. if t then stamp else (c.nodes j).stamp) (sym (eq-eqb k j (sym (eqb-true j k e))))
      go false e = ap (λ t. if t then stamp else (c.nodes j).stamp) (sym (swapped k j e))

  event_stamps : (c : Core) (event : Event) (a : After Node Packet) → after (machine_of u) c event ≡ Some a → Stamps c a
  event_stamps c (Run k q) a e =
      let h : HasRun u c k q a = happened u c (Run k q) a e in
      subst (λ (y : After Node Packet). Stamps c y) h.is (outcome_stamps c k (run_stamp c k) (λ count. node.Run q count) (λ o. c.links o k) h.raw)
  event_stamps c (Take from k) a e =
      let h : HasTaken u c from k a = happened u c (Take from k) a e in
      subst (λ (y : After Node Packet). Stamps c y) h.is
      (outcome_stamps c k (take_stamp c k h.packet) (λ _. node.Take from) (but_from from h.rest (λ o. c.links o k)) (taken u c from k h.packet))

  -- ---- events that follow each other

  -- from these nodes on each nodelet comes to the stamp of its last entry
  abbrev EndsStamped : Core → Played Node Packet → Type 0
  EndsStamped c played = (k : ℕ) → last_stamped (c.nodes k).stamp (entries_of k played.told) ≡ (played.core.nodes k).stamp

  first_stamped : (c : Core) (a : After Node Packet) (rest : Played Node Packet) → Stamps c a → EndsStamped a.core rest → EndsStamped c (told_first a.entry rest)
  first_stamped c a rest stamps ends k = go (is_of k a.entry) refl
    where
      go : (t : Bool) → is_of k a.entry ≡ t → last_stamped (c.nodes k).stamp (map entry_of (if t then a.entry ∷ filter (is_of k) rest.told else filter (is_of k) rest.told)) ≡ (rest.core.nodes k).stamp
      go true e = ap (λ s. last_stamped s (entries_of k rest.told)) (sym (stamps k ∙ ap (λ t. if t then a.entry.entry.stamp else (c.nodes k).stamp) e)) ∙ ends k
      go false e = ap (λ s. last_stamped s (entries_of k rest.told)) (sym (stamps k ∙ ap (λ t. if t then a.entry.entry.stamp else (c.nodes k).stamp) e)) ∙ ends k

  pub play_stamped : (events : List Event) (c : Core) (played : Played Node Packet) → play (machine_of u) events c ≡ Some played → EndsStamped c played
  play_stamped [] c played e = subst (λ (y : Played Node Packet). EndsStamped c y) (some_is _ _ e) (λ k. refl)
  play_stamped (event ∷ events) c played e =
      let first = from_then (λ (a : After Node Packet). option_map (told_first a.entry) (play (machine_of u) events a.core)) (after (machine_of u) c event) played e in
      let rest = from_map (told_first first.value.entry) (play (machine_of u) events first.value.core) played first.next in
      subst (λ (y : Played Node Packet). EndsStamped c y) rest.is
      (first_stamped c first.value rest.value (event_stamps c event first.value first.was) (play_stamped events first.value.core rest.value rest.was))
