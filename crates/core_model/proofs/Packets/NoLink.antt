-- Where there is no link nothing ever travels.
use Rattle.std.proofs.Common.{◌≡◌, ℕ, List, [], ◌∷◌, ◌++◌, Some, refl, sym, ap, ◌∙◌, subst, Bool, true, false, option_map, nat_lt}
use Rattle.std.specs.Prelude.{if◌then◌else◌, ◌==◌}
use Rattle.std.proofs.lemmas.Bool.{eqb-true}
use Rattle.merge_law.specs.declared.event.Event.{Event}
use Rattle.merge_law.specs.declared.event.Event.TheVariants.{Run, Take}
use Rattle.merge_law.specs.Machine.{is_linked, run_at, take_at}
use Rattle.merge_law.specs.Events.{nodelet_of}
use Rattle.merge_law.specs.Core.{Advance, After, Played, leaving, but_from, take_first, advance, core_after, after, told_first, play}
use Rattle.merge_law.proofs.Somes.{FromIf, FromMap, from_if, from_map, from_then, some_is}
use Rattle.merge_law.proofs.Stamps.{IsStamped, advance_is}
use Rattle.core_model.specs.Nodes.{Setup, Node}
use Rattle.core_model.specs.Machine.{Packet, machine_of}
use Rattle.core_model.specs.Core.{Core, start_core}
use Rattle.core_model.specs.Laws.{IsPlayed}

abbrev pub IsApart : Setup → Core → Type 0
IsApart u c = (a b : ℕ) → is_linked u.nodelets a b ≡ false → c.links a b ≡ []

module _ (u : Setup) where
  -- what an event leaves to be taken
  left_apart : (c : Core) → IsApart u c → (event : Event) (d : Advance Node Packet) → advance (machine_of u) (c.nodes (nodelet_of event)) (λ o. c.links o (nodelet_of event)) event ≡ Some d →
      (o : ℕ) → is_linked u.nodelets o (nodelet_of event) ≡ false → d.left o ≡ []
  left_apart c apart (Run k q) d e o ne =
      let i = from_if (nat_lt k u.nodelets) (option_map (leaving (λ a. c.links a k)) (run_at (machine_of u) k (c.nodes k) q)) d e in
      let m = from_map (leaving (λ a. c.links a k)) (run_at (machine_of u) k (c.nodes k) q) d i.was in
      ap (λ (y : Advance Node Packet). y.left o) (sym m.is) ∙ apart o k ne
  left_apart c apart (Take from k) d e o ne = go (c.links from k) i.was
    where
      i : FromIf (is_linked u.nodelets from k) (take_first (machine_of u) k (c.nodes k) from (λ a. c.links a k) (c.links from k)) d
      i = from_if (is_linked u.nodelets from k) (take_first (machine_of u) k (c.nodes k) from (λ a. c.links a k) (c.links from k)) d e

      other : (left : List Packet) (t : Bool) → (o == from) ≡ t → (if t then left else c.links o k) ≡ []
      other left false f = apart o k ne
      other left true f = absurd (let z : true ≡ false = sym i.test ∙ ap (λ a. is_linked u.nodelets a k) (sym (eqb-true _ _ f)) ∙ ne in cc)

      go : (l : List Packet) → take_first (machine_of u) k (c.nodes k) from (λ a. c.links a k) l ≡ Some d → d.left o ≡ []
      go [] f = absurd cc
      go (p ∷ left) f =
          let m = from_map (leaving (but_from from left (λ a. c.links a k))) (take_at (machine_of u) k (c.nodes k) from p) d f in
          ap (λ (y : Advance Node Packet). y.left o) (sym m.is) ∙ other left (o == from) refl

  event_apart : (c : Core) → IsApart u c → (event : Event) (a : After Node Packet) → after (machine_of u) c event ≡ Some a → IsApart u a.core
  event_apart c apart event a e = subst (λ (y : After Node Packet). IsApart u y.core) outer.is (λ o j ne. both o j ne)
    where
      outer : FromMap (core_after c (nodelet_of event)) (advance (machine_of u) (c.nodes (nodelet_of event)) (λ o. c.links o (nodelet_of event)) event) a
      outer = from_map (core_after c (nodelet_of event)) (advance (machine_of u) (c.nodes (nodelet_of event)) (λ o. c.links o (nodelet_of event)) event) a e

      stamped : IsStamped (machine_of u) (nodelet_of event) (c.nodes (nodelet_of event)) outer.value.outcome
      stamped = advance_is (machine_of u) (c.nodes (nodelet_of event)) (λ o. c.links o (nodelet_of event)) event outer.value outer.was

      stays : (o j : ℕ) → is_linked u.nodelets o j ≡ false → (t : Bool) → (j == nodelet_of event) ≡ t → (if t then outer.value.left o else c.links o j) ≡ []
      stays o j ne true f = left_apart c apart event outer.value outer.was o (ap (is_linked u.nodelets o) (sym (eqb-true _ _ f)) ∙ ne)
      stays o j ne false f = apart o j ne

      goes : (o j : ℕ) → is_linked u.nodelets o j ≡ false → (t : Bool) → (o == nodelet_of event) ≡ t → (if t then outer.value.outcome.sent j else []) ≡ []
      goes o j ne true f = stamped.apart j (ap (λ y. is_linked u.nodelets y j) (sym (eqb-true _ _ f)) ∙ ne)
      goes o j ne false f = refl

      both : (o j : ℕ) → is_linked u.nodelets o j ≡ false → (core_after c (nodelet_of event) outer.value).core.links o j ≡ []
      both o j ne = ap (λ l. l ++ (if o == nodelet_of event then outer.value.outcome.sent j else [])) (stays o j ne (j == nodelet_of event) refl) ∙ goes o j ne (o == nodelet_of event) refl

  play_apart : (events : List Event) (c : Core) (played : Played Node Packet) → IsApart u c → play (machine_of u) events c ≡ Some played → IsApart u played.core
  play_apart [] c played apart e = subst (λ (y : Played Node Packet). IsApart u y.core) (some_is _ _ e) apart
  play_apart (event ∷ events) c played apart e =
      let first = from_then (λ (a : After Node Packet). option_map (told_first a.entry) (play (machine_of u) events a.core)) (after (machine_of u) c event) played e in
      let rest = from_map (told_first first.value.entry) (play (machine_of u) events first.value.core) played first.next in
      subst (λ (y : Played Node Packet). IsApart u y.core) rest.is (play_apart events first.value.core rest.value (event_apart c apart event first.value first.was) rest.was)

  -- of two numbers that are not linked the one never sends to the other
  pub links_apart : (events : List Event) (played : Played Node Packet) → IsPlayed u events played → IsApart u played.core
  links_apart events played legal = play_apart events (start_core u) played (λ a b ne. refl) legal
