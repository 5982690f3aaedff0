-- No stamp passes the last one, and no packet's stamp that of the nodelet that sent it.
use Rattle.std.proofs.Common.{◌≡◌, ℕ, ◌+◌, ◌≤◌, List, [], ◌∷◌, ◌++◌, map, Some, refl, ap, ◌∙◌, subst, arith, Bool, true, false, option_map, nat_lt, max}
use Rattle.std.specs.Prelude.{if◌then◌else◌, ◌==◌}
use Rattle.std.proofs.lemmas.Bool.{eqb-true}
use Rattle.std.proofs.lemmas.Bool.Decides.{nat_tests}
use Rattle.word_ops.specs.declared.step.NodeEvent.{NodeEvent}
use Rattle.word_ops.specs.declared.step.NodeEvent.TheVariants as node
use Rattle.merge_law.specs.declared.event.Event.{Event}
use Rattle.merge_law.specs.declared.event.Event.TheVariants.{Run, Take}
use Rattle.merge_law.specs.Machine.{Raw, last_stamp, is_linked, stamped}
use Rattle.merge_law.specs.Core.{After, Played, leaving, but_from, core_after, after, told_first, play}
use Rattle.merge_law.proofs.Pairs.{Each, each_then, each_append}
use Rattle.merge_law.proofs.Somes.{from_map, from_then, some_is}
use Rattle.core_model.specs.Contexts.{Body}
use Rattle.core_model.specs.Nodes.{Setup, Node}
use Rattle.core_model.specs.Machine.{Packet, packet_of, stamped_node, machine_of}
use Rattle.core_model.specs.Core.{Core, start_core}
use Rattle.core_model.specs.Laws.{IsPlayed}
use Rattle.core_model.proofs.Actions.Sights.{both_true}
use Rattle.core_model.proofs.Events.LegalEvent.{run_stamp, take_stamp, taken, Happened, happened}

abbrev pub NotAfter : ℕ → Packet → Type 0
NotAfter s p = p.stamp ≤ s

pub record IsInTime (c : Core) : Type 0 where
  pub bounded : (k : ℕ) → (c.nodes k).stamp ≤ last_stamp
  pub sent : (k j : ℕ) → Each (NotAfter (c.nodes k).stamp) (c.links k j)

-- ---- numbers

next_within : (a b : ℕ) → nat_lt a b ≡ true → a + 1 ≤ b
next_within a b e = grind (arith, nat_tests)

later_within : (a b c : ℕ) → nat_lt a c ≡ true → nat_lt b c ≡ true → max a b + 1 ≤ c
later_within a b c e f = let g = next_within a c e in let h = next_within b c f in omega arith

-- ---- what an event leaves

each-packet : (s : ℕ) (bodies : List Body) → Each (NotAfter s) (map (packet_of s) bodies)
each-packet s [] = tt
each-packet s (b ∷ bodies) = (omega arith, each-packet s bodies)

module _ (u : Setup) where
  -- nodelet k sends with a new stamp, and has no more to take than before
  goes_on : (c : Core) → IsInTime c → (k s : ℕ) (event : ℕ → NodeEvent) (raw : Raw Node Body) (left : ℕ → List Packet) → (c.nodes k).stamp ≤ s → s ≤ last_stamp →
      ((t o : ℕ) → Each (NotAfter t) (c.links o k) → Each (NotAfter t) (left o)) → IsInTime (core_after c k (leaving left (stamped (machine_of u) k s event raw))).core
  goes_on c timed k s event raw left later under fewer = record { bounded = λ j. at j (j == k); sent = λ o j. from o j (o == k) refl }
    where
      at : (j : ℕ) (t : Bool) → (if t then stamped_node s raw.node else c.nodes j).stamp ≤ last_stamp
      at j true = under
      at j false = timed.bounded j

      kept : (t o j : ℕ) (b : Bool) → (j == k) ≡ b → Each (NotAfter t) (c.links o j) → Each (NotAfter t) (if b then left o else c.links o j)
      kept t o j true f all = fewer t o (subst (λ a. Each (NotAfter t) (c.links o a)) (eqb-true _ _ f) all)
      kept t o j false f all = all

      new : (bodies : List Body) (t : Bool) → Each (NotAfter s) (if t then map (packet_of s) bodies else [])
      new bodies true = each-packet s bodies
      new bodies false = tt

      from : (o j : ℕ) (b : Bool) → (o == k) ≡ b →
          Each (NotAfter (if b then stamped_node s raw.node else c.nodes o).stamp) ((if j == k then left o else c.links o j) ++ (if b then (if is_linked u.nodelets k j then map (packet_of s) (raw.bodies j) else []) else []))
      from o j false f = each_append (NotAfter (c.nodes o).stamp) _ [] (kept (c.nodes o).stamp o j (j == k) refl (timed.sent o j)) tt
      from o j true f = each_append (NotAfter s) _ _
          (kept s o j (j == k) refl (each_then (NotAfter (c.nodes o).stamp) (NotAfter s) (λ p le. more p le) (c.links o j) (timed.sent o j)))
          (new (raw.bodies j) (is_linked u.nodelets k j))
        where
          more : (p : Packet) → p.stamp ≤ (c.nodes o).stamp → p.stamp ≤ s
          more p le = let is : (c.nodes o).stamp ≡ (c.nodes k).stamp = ap (λ a. (c.nodes a).stamp) (eqb-true _ _ f) in omega arith

  -- what is left behind a first packet
  fewer_behind : (c : Core) (from k : ℕ) (p : Packet) (rest : List Packet) → c.links from k ≡ p ∷ rest → (t o : ℕ) → Each (NotAfter t) (c.links o k) → Each (NotAfter t) (but_from from rest (λ a. c.links a k) o)
  fewer_behind c from k p rest is t o all = by (o == from) refl
    where
      by : (b : Bool) → (o == from) ≡ b → Each (NotAfter t) (if b then rest else c.links o k)
      by false f = all
      by true f =
          let whole : Each (NotAfter t) (p ∷ rest) = subst (λ (l : List Packet). Each (NotAfter t) l) (ap (λ a. c.links a k) (eqb-true _ _ f) ∙ is) all in whole.1

  event_in_time : (c : Core) → IsInTime c → (event : Event) (a : After Node Packet) → after (machine_of u) c event ≡ Some a → IsInTime a.core
  event_in_time c timed event a e = by event (happened u c event a e)
    where
      by : (other : Event) → Happened u c other a → IsInTime a.core
      by (Run k q) h = subst (λ (y : After Node Packet). IsInTime y.core) h.is
          (goes_on c timed k (run_stamp c k) (λ count. node.Run q count) h.raw (λ o. c.links o k) (omega arith) (next_within (c.nodes k).stamp last_stamp h.in_time) (λ t o all. all))
      by (Take from k) h =
          let tests = both_true (nat_lt (c.nodes k).stamp last_stamp) (nat_lt h.packet.stamp last_stamp) h.in_time in
          subst (λ (y : After Node Packet). IsInTime y.core) h.is
          (goes_on c timed k (take_stamp c k h.packet) (λ _. node.Take from) (taken u c from k h.packet) (but_from from h.rest (λ o. c.links o k)) (omega arith)
          (later_within (c.nodes k).stamp h.packet.stamp last_stamp tests.0 tests.1) (fewer_behind c from k h.packet h.rest h.first))

  play_in_time : (events : List Event) (c : Core) (played : Played Node Packet) → IsInTime c → play (machine_of u) events c ≡ Some played → IsInTime played.core
  play_in_time [] c played timed e = subst (λ (y : Played Node Packet). IsInTime y.core) (some_is _ _ e) timed
  play_in_time (event ∷ events) c played timed e =
      let first = from_then (λ (a : After Node Packet). option_map (told_first a.entry) (play (machine_of u) events a.core)) (after (machine_of u) c event) played e in
      let rest = from_map (told_first first.value.entry) (play (machine_of u) events first.value.core) played first.next in
      subst (λ (y : Played Node Packet). IsInTime y.core) rest.is
      (play_in_time events first.value.core rest.value (event_in_time c timed event first.value first.was) rest.was)

  -- legal events keep to the stamps
  pub always_in_time : (events : List Event) (played : Played Node Packet) → IsPlayed u events played → IsInTime played.core
  always_in_time events played legal = play_in_time events (start_core u) played (record { bounded = λ k. omega arith; sent = λ k j. tt }) legal
