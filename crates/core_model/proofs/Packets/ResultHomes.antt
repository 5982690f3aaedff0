-- The result of a child travels only to the home that its ticket names.
use Rattle.std.proofs.Common.{◌≡◌, ℕ, ◌+◌, List, [], ◌∷◌, ◌++◌, map, Some, refl, sym, ◌∙◌, subst, Bool, true, false, ◌&&◌, nat_lt, max, option_map}
use Rattle.std.specs.Prelude.{if◌then◌else◌, ◌==◌}
use Rattle.std.specs.List.{list_all}
use Rattle.std.proofs.lemmas.Bool.{eqb-true}
use Rattle.std.proofs.lemmas.List.Folds.{list_all-append}
use Rattle.word_ops.specs.declared.step.NodeEvent.{NodeEvent}
use Rattle.word_ops.specs.declared.step.NodeEvent.TheVariants as node
use Rattle.merge_law.specs.declared.event.Event.{Event}
use Rattle.merge_law.specs.declared.event.Event.TheVariants.{Run, Take}
use Rattle.merge_law.specs.Machine.{Raw, Outcome, last_stamp, is_linked, stamped, run_at, take_at}
use Rattle.merge_law.specs.Events.{nodelet_of}
use Rattle.merge_law.specs.Core.{Advance, After, Played, leaving, but_from, take_first, advance, core_after, after, told_first, play}
use Rattle.merge_law.proofs.Somes.{FromIf, FromMap, from_if, from_map, from_then, some_is}
use Rattle.core_model.specs.Contexts.{Body}
use Rattle.core_model.specs.Nodes.{Setup, Node}
use Rattle.core_model.specs.Runs.{run}
use Rattle.core_model.specs.Takes.{take}
use Rattle.core_model.specs.Machine.{Packet, packet_of, machine_of}
use Rattle.core_model.specs.Core.{Core, start_core}
use Rattle.core_model.specs.Laws.{IsPlayed}
use Rattle.core_model.proofs.Actions.Sights.{both_true}
use Rattle.core_model.proofs.Packets.SentResults.{goes_to, AllGo, run_goes, take_goes}

-- all that travels on a link to nodelet k
abbrev pub Goes : ℕ → List Packet → Type 0
Goes k ps = list_all (λ p. goes_to k p.body) ps ≡ true

abbrev pub IsAddressed : Core → Type 0
IsAddressed c = (a k : ℕ) → Goes k (c.links a k)

packets_go : (k stamp : ℕ) (bodies : List Body) → list_all (goes_to k) bodies ≡ true → Goes k (map (packet_of stamp) bodies)
packets_go k stamp [] e = refl
packets_go k stamp (b ∷ bs) e =
    let first : goes_to k b ≡ true = (both_true (goes_to k b) (list_all (goes_to k) bs) e).0 in
    let rest : Goes k (map (packet_of stamp) bs) = packets_go k stamp bs (both_true (goes_to k b) (list_all (goes_to k) bs) e).1 in rw (first, rest) refl

appended_go : (k : ℕ) (a b : List Packet) → Goes k a → Goes k b → Goes k (a ++ b)
appended_go k a b e f = list_all-append (λ (p : Packet). goes_to k p.body) a b ∙ rw (e, f) refl

stamped_go : (u : Setup) (k stamp : ℕ) (event : ℕ → NodeEvent) (raw : Raw Node Body) → AllGo raw.bodies → (j : ℕ) → Goes j ((stamped (machine_of u) k stamp event raw).sent j)
stamped_go u k stamp event raw h j =
    elim (is_linked u.nodelets k j) as (λ t. Goes j (if t then map (packet_of stamp) (raw.bodies j) else [])) [ true ↦ packets_go j stamp (raw.bodies j) (h j) | false ↦ refl ]

record Leaves (k : ℕ) (d : Advance Node Packet) : Type 0 where
  left : (o : ℕ) → Goes k (d.left o)
  sent : (j : ℕ) → Goes j (d.outcome.sent j)

module _ (u : Setup) where
  advance_goes : (c : Core) → IsAddressed c → (event : Event) (d : Advance Node Packet) →
      advance (machine_of u) (c.nodes (nodelet_of event)) (λ o. c.links o (nodelet_of event)) event ≡ Some d → Leaves (nodelet_of event) d
  advance_goes c addressed (Run k q) d e =
      subst (λ (y : Advance Node Packet). Leaves k y) ran.is
      (subst (λ (y : Outcome Node Packet). Leaves k (leaving (λ o. c.links o k) y)) made.is
      (record { left = λ o. addressed o k; sent = λ j. stamped_go u k s (λ count. node.Run q count) made.value (run_goes u k (c.nodes k) q made.value made.was) j }))
    where
      s : ℕ
      s = (c.nodes k).stamp + 1

      inner : FromIf (nat_lt k u.nodelets) (option_map (leaving (λ o. c.links o k)) (run_at (machine_of u) k (c.nodes k) q)) d
      inner = from_if (nat_lt k u.nodelets) (option_map (leaving (λ o. c.links o k)) (run_at (machine_of u) k (c.nodes k) q)) d e

      ran : FromMap (leaving (λ o. c.links o k)) (run_at (machine_of u) k (c.nodes k) q) d
      ran = from_map (leaving (λ o. c.links o k)) (run_at (machine_of u) k (c.nodes k) q) d inner.was

      in_time : FromIf (nat_lt (c.nodes k).stamp last_stamp) (option_map (stamped (machine_of u) k s (λ count. node.Run q count)) (run u k (c.nodes k) q)) ran.value
      in_time = from_if (nat_lt (c.nodes k).stamp last_stamp) (option_map (stamped (machine_of u) k s (λ count. node.Run q count)) (run u k (c.nodes k) q)) ran.value ran.was

      made : FromMap (stamped (machine_of u) k s (λ count. node.Run q count)) (run u k (c.nodes k) q) ran.value
      made = from_map (stamped (machine_of u) k s (λ count. node.Run q count)) (run u k (c.nodes k) q) ran.value in_time.was
  advance_goes c addressed (Take from k) d e = go (c.links from k) (addressed from k) inner.was
    where
      inner : FromIf (is_linked u.nodelets from k) (take_first (machine_of u) k (c.nodes k) from (λ o. c.links o k) (c.links from k)) d
      inner = from_if (is_linked u.nodelets from k) (take_first (machine_of u) k (c.nodes k) from (λ o. c.links o k) (c.links from k)) d e

      go : (l : List Packet) → Goes k l → take_first (machine_of u) k (c.nodes k) from (λ o. c.links o k) l ≡ Some d → Leaves k d
      go [] f g = absurd cc
      go (p ∷ left) f g =
          subst (λ (y : Advance Node Packet). Leaves k y) took.is
          (subst (λ (y : Outcome Node Packet). Leaves k (leaving (but_from from left (λ o. c.links o k)) y)) (some_is _ _ in_time.was)
          (record {
            left = λ o. elim (o == from) as (λ t. Goes k (if t then left else c.links o k)) [ true ↦ (both_true (goes_to k p.body) (list_all (λ (y : Packet). goes_to k y.body) left) f).1 | false ↦ addressed o k ];
            sent = λ j. stamped_go u k s (λ _. node.Take from) (take u k (c.nodes k) from p.body) (take_goes u k (c.nodes k) from p.body) j;
          }))
        where
          s : ℕ
          s = max (c.nodes k).stamp p.stamp + 1

          took : FromMap (leaving (but_from from left (λ o. c.links o k))) (take_at (machine_of u) k (c.nodes k) from p) d
          took = from_map (leaving (but_from from left (λ o. c.links o k))) (take_at (machine_of u) k (c.nodes k) from p) d g

          in_time : FromIf (nat_lt (c.nodes k).stamp last_stamp && nat_lt p.stamp last_stamp) (option_map (stamped (machine_of u) k s (λ _. node.Take from)) (Some (take u k (c.nodes k) from p.body))) took.value
          in_time = from_if (nat_lt (c.nodes k).stamp last_stamp && nat_lt p.stamp last_stamp) (option_map (stamped (machine_of u) k s (λ _. node.Take from)) (Some (take u k (c.nodes k) from p.body))) took.value took.was

  event_goes : (c : Core) → IsAddressed c → (event : Event) (a : After Node Packet) → after (machine_of u) c event ≡ Some a → IsAddressed a.core
  event_goes c addressed event a e = subst (λ (y : After Node Packet). IsAddressed y.core) outer.is (λ o j. appended_go j (if j == k then outer.value.left o else c.links o j) (if o == k then outer.value.outcome.sent j else []) (stays o j (j == k) refl) (sends o j (o == k)))
    where
      k : ℕ
      k = nodelet_of event

      outer : FromMap (core_after c k) (advance (machine_of u) (c.nodes k) (λ o. c.links o k) event) a
      outer = from_map (core_after c k) (advance (machine_of u) (c.nodes k) (λ o. c.links o k) event) a e

      leaves : Leaves k outer.value
      leaves = advance_goes c addressed event outer.value outer.was

      stays : (o j : ℕ) (t : Bool) → (j == k) ≡ t → Goes j (if t then outer.value.left o else c.links o j)
      stays o j true f = subst (λ i. Goes i (outer.value.left o)) (sym (eqb-true _ _ f)) (leaves.left o)
      stays o j false f = addressed o j

      sends : (o j : ℕ) (t : Bool) → Goes j (if t then outer.value.outcome.sent j else [])
      sends o j true = leaves.sent j
      sends o j false = refl

  play_goes : (events : List Event) (c : Core) (played : Played Node Packet) → IsAddressed c → play (machine_of u) events c ≡ Some played → IsAddressed played.core
  play_goes [] c played addressed e = subst (λ (y : Played Node Packet). IsAddressed y.core) (some_is _ _ e) addressed
  play_goes (event ∷ events) c played addressed e =
      let first = from_then (λ (a : After Node Packet). option_map (told_first a.entry) (play (machine_of u) events a.core)) (after (machine_of u) c event) played e in
      let rest = from_map (told_first first.value.entry) (play (machine_of u) events first.value.core) played first.next in
      subst (λ (y : Played Node Packet). IsAddressed y.core) rest.is (play_goes events first.value.core rest.value (event_goes c addressed event first.value first.was) rest.was)

  -- after legal events each result on a link goes to its ticket's home
  pub all_addressed : (events : List Event) (played : Played Node Packet) → IsPlayed u events played → IsAddressed played.core
  all_addressed events played legal = play_goes events (start_core u) played (λ a k. refl) legal
