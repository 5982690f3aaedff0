-- The names that a core in code has are its census.
use Rattle.std.proofs.Common.{◌≡◌, ℕ, List, [], ◌∷◌, length, map, refl, sym, ap, ◌∙◌}
use Rattle.std.specs.Prelude.{true, slice_get, flat_map, filter_map}
use Rattle.std.specs.List.{list_all, cons_option}
use Rattle.word_ops.specs.declared.name.Name.{Name}
use Rattle.word_ops.specs.Report.{below}
use Rattle.threadlet_code.specs.declared.code.Code.{Code}
use Rattle.threadlet_state.specs.declared.context.Context as carried
use Rattle.threadlet_state.specs.declared.packet.Packet as sent
use Rattle.threadlet_state.specs.declared.packet.Body as sent_body
use Rattle.threadlet_state.specs.declared.packet.Body.TheVariants as by
use Rattle.nodelet_core.specs.declared.nodelet.Nodelet.{Nodelet}
use Rattle.core_model.specs.Contexts.{Context}
use Rattle.nodelet_core.specs.Carried.{context_in, body_in}
use Rattle.nodelet_core.specs.code.Standing.{names_of}
use Rattle.core_model.specs.Nodes.{Setup}
use Rattle.core_model.specs.Machine.{Packet}
use Rattle.nodelet_core.specs.Kept.{carried_at, names_at, packet_in}
use Rattle.sim_core.specs.declared.outgoing.Outgoing.{Outgoing}
use Rattle.core_model.specs.Core.{traveller}
use Rattle.sim_core.specs.code.Links.{packets_of, packets_by, has_links}
use Rattle.sim_core.specs.code.Named.{carried_name, names_on, names_from}
use Rattle.sim_core.specs.Kept.{node_by, packets_from}
use Rattle.sim_core.proofs.AtPlaces.{flat_map_by_place, list_all_at_place}
use Rattle.std.proofs.Common.{eqb-true}

-- ---- names

-- Contexts have the names that the code carries.
pub same_names : (code : Code) (contexts : List carried.Context) → map (λ (x : Context). x.name) (map (context_in code) contexts) ≡ names_of contexts
same_names code [] = refl
same_names code (x ∷ xs) = ap (λ names. x.name ∷ names) (same_names code xs)

same_traveller : (code : Code) (body : sent_body.Body) → traveller (body_in code body) ≡ carried_name body
same_traveller code (by.Ctx x) = refl
same_traveller code (by.Op name op address word at) = refl
same_traveller code (by.Ack name late) = refl
same_traveller code (by.Done ticket result) = refl
same_traveller code (by.Grant name first count) = refl

-- So do packets.
pub same_travellers : (code : Code) (ps : List sent.Packet) → filter_map (λ (p : Packet). traveller p.body) (map (packet_in code) ps) ≡ filter_map (λ (p : sent.Packet). carried_name p.body) ps
same_travellers code [] = refl
same_travellers code (p ∷ ps) =
    ap (λ o. cons_option o (filter_map (λ (q : Packet). traveller q.body) (map (packet_in code) ps))) (same_traveller code p.body)
    ∙ ap (cons_option (carried_name p.body)) (same_travellers code ps)

-- ---- nodelets and links

module _ (u : Setup) (nodes : List Nodelet) (links : List Outgoing) where
  -- Those of the nodelets.
  pub standing_named : length nodes ≡ u.nodelets → flat_map (λ k. map (λ (x : Context). x.name) (node_by u k (slice_get nodes k)).contexts) (below u.nodelets) ≡ flat_map names_at nodes
  standing_named count =
      ap (λ n. flat_map (λ k. map (λ (x : Context). x.name) (node_by u k (slice_get nodes k)).contexts) (below n)) (sym count)
      ∙ flat_map_by_place (λ k. map (λ (x : Context). x.name) (node_by u k (slice_get nodes k)).contexts) names_at nodes
      (λ k v e. ap (λ o. map (λ (x : Context). x.name) (node_by u k o).contexts) e ∙ same_names u.code (carried_at v))

  -- Those on the links from one of them.
  pub outgoing_named : (outgoing : Outgoing) → has_links u.nodelets outgoing ≡ true
      → flat_map (λ to. filter_map (λ (p : Packet). traveller p.body) (map (packet_in u.code) (packets_by (slice_get outgoing.links.items to)))) (below u.nodelets) ≡ names_from outgoing
  outgoing_named outgoing linked =
      ap (λ n. flat_map (λ to. filter_map (λ (p : Packet). traveller p.body) (map (packet_in u.code) (packets_by (slice_get outgoing.links.items to)))) (below n)) (sym (eqb-true _ _ linked))
      ∙ flat_map_by_place (λ to. filter_map (λ (p : Packet). traveller p.body) (map (packet_in u.code) (packets_by (slice_get outgoing.links.items to)))) names_on outgoing.links.items
      (λ to link e. ap (λ o. filter_map (λ (p : Packet). traveller p.body) (map (packet_in u.code) (packets_by o))) e ∙ same_travellers u.code (packets_of link))

  -- Those on all links.
  pub travelling_named : length links ≡ u.nodelets → list_all (has_links u.nodelets) links ≡ true
      → flat_map (λ origin. flat_map (λ to. filter_map (λ (p : Packet). traveller p.body) (map (packet_in u.code) (packets_from (slice_get links origin) to))) (below u.nodelets)) (below u.nodelets) ≡ flat_map names_from links
  travelling_named count linked =
      ap (λ n. flat_map row (below n)) (sym count)
      ∙ flat_map_by_place row names_from links
      (λ origin outgoing e. ap (λ o. flat_map (λ to. filter_map (λ (p : Packet). traveller p.body) (map (packet_in u.code) (packets_from o to))) (below u.nodelets)) e
      ∙ outgoing_named outgoing (list_all_at_place (has_links u.nodelets) links origin outgoing linked e))
    where
      row : ℕ → List Name
      row origin = flat_map (λ to. filter_map (λ (p : Packet). traveller p.body) (map (packet_in u.code) (packets_from (slice_get links origin) to))) (below u.nodelets)
