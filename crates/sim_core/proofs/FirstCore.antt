-- A core before any event is the one that it should be.
use Rattle.std.proofs.Common.{◌≡◌, ℕ, List, [], ◌∷◌, length, map, Option, Some, None, refl, ap, ◌∙◌, arith, eqb-true}
use Rattle.std.proofs.Math.Path.{fun_ext}
use Rattle.std.specs.Prelude.{true, ◌==◌, slice_get}
use Rattle.std.specs.List.{list_all}
use Rattle.word_ops.specs.declared.rules.Rules.{Rules}
use Rattle.threadlet_code.specs.declared.code.Code.{Code}
use Rattle.threadlet_state.specs.declared.packet.Packet as sent
use Rattle.nodelet_core.specs.declared.nodelet.Nodelet.{Nodelet}
use Rattle.core_model.specs.Nodes.{Node}
use Rattle.core_model.specs.Start.{start_node}
use Rattle.core_model.specs.Machine.{Packet}
use Rattle.nodelet_core.specs.Kept.{all_fit, packet_fits, packet_in}
use Rattle.sim_core.specs.declared.link.Link.{Link}
use Rattle.sim_core.specs.declared.outgoing.Outgoing.{Outgoing}
use Rattle.core_model.specs.Core.{Core, start_core}
use Rattle.sim_core.specs.code.Links.{packets_of, packets_by, packets_to, is_clear, are_clear}
use Rattle.sim_core.specs.code.Numbered.{AreFirst, AreNumbered, setup_with}
use Rattle.sim_core.specs.Kept.{node_by, packets_from, link_fits, outgoing_fits}
use Rattle.sim_core.proofs.AtPlaces.{list_all_by_place, list_all_at_place, list_all_follows}

-- ---- links

-- A link on which no packet is has none.
pub clear_none : (link : Link) → is_clear link ≡ true → packets_of link ≡ []
clear_none link e = none (packets_of link) e
  where
    none : (ps : List sent.Packet) → (length ps == 0) ≡ true → ps ≡ []
    none [] e = refl
    none (p ∷ ps) e = let h = eqb-true (length (p ∷ ps)) 0 e in absurd (omega (arith, h))

-- Where no packet is on the links from a nodelet, none goes anywhere.
pub clear_nowhere : (outgoing : Outgoing) (to : ℕ) → are_clear outgoing ≡ true → packets_to outgoing to ≡ []
clear_nowhere outgoing to clear = go (slice_get outgoing.links.items to) refl
  where
    go : (o : Option Link) → slice_get outgoing.links.items to ≡ o → packets_by o ≡ []
    go None e = refl
    go (Some link) e = clear_none link (list_all_at_place is_clear outgoing.links.items to link clear e)

pub clear_from_none : (links : List Outgoing) (origin to : ℕ) → list_all are_clear links ≡ true → packets_from (slice_get links origin) to ≡ []
clear_from_none links origin to clear = go (slice_get links origin) refl
  where
    go : (o : Option Outgoing) → slice_get links origin ≡ o → packets_from o to ≡ []
    go None e = refl
    go (Some outgoing) e = clear_nowhere outgoing to (list_all_at_place are_clear links origin outgoing clear e)

-- What is on no link fits any code.
pub clear_fits : (code : Code) (links : List Outgoing) → list_all are_clear links ≡ true → list_all (outgoing_fits code) links ≡ true
clear_fits code links clear =
    list_all_follows are_clear (outgoing_fits code) links
    (λ outgoing e. list_all_follows is_clear (link_fits code) outgoing.links.items (λ link h. ap (list_all (packet_fits code)) (clear_none link h)) e) clear

-- ---- the core

module _ (code : Code) (n turns : ℕ) (rules : Rules) (nodes : List Nodelet) (links : List Outgoing) where
  abbrev core : (ℕ → Node) → (ℕ → ℕ → List Packet) → Core
  core at on = record { nodes = at; links = on }

  -- First nodelets with no packet between them are the core before any event.
  pub first_core : AreFirst code n turns rules nodes → list_all are_clear links ≡ true
      → core (λ k. node_by (setup_with code n turns rules) k (slice_get nodes k)) (λ origin to. map (packet_in code) (packets_from (slice_get links origin) to))
      ≡ start_core (setup_with code n turns rules)
  first_core first clear =
      ap (λ at. core at (λ origin to. map (packet_in code) (packets_from (slice_get links origin) to))) (fun_ext (λ k. node k (slice_get nodes k) refl))
      ∙ ap (λ on. core (start_node (setup_with code n turns rules)) on) (fun_ext (λ origin. fun_ext (λ to. ap (map (packet_in code)) (clear_from_none links origin to clear))))
    where
      node : (k : ℕ) (o : Option Nodelet) → slice_get nodes k ≡ o → node_by (setup_with code n turns rules) k o ≡ start_node (setup_with code n turns rules) k
      node k None e = refl
      node k (Some v) e = (first k v e).node

  pub first_fits : AreFirst code n turns rules nodes → list_all (all_fit code) nodes ≡ true
  first_fits first = list_all_by_place (all_fit code) nodes (λ k v e. (first k v e).fits)

  pub first_numbered : AreFirst code n turns rules nodes → AreNumbered n turns rules nodes
  first_numbered first k v e = (first k v e).numbered
