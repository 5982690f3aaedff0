-- Which events are legal, by what the code tests.
use Rattle.std.proofs.Common.{◌≡◌, ℕ, ◌<◌, List, [], ◌∷◌, Option, Some, None, refl, sym, ap, ◌∙◌, Bool, true, false, ◌&&◌, nat_lt, is_some, option_map}
use Rattle.std.specs.Prelude.{if◌then◌else◌, slice_get, map}
use Rattle.std.specs.List.{list_all}
use Rattle.std.proofs.lemmas.Bool.{lt-ltb}
use Rattle.word_ops.specs.declared.name.Name.{Name}
use Rattle.word_ops.specs.declared.step.NodeEvent.TheVariants as node
use Rattle.merge_law.specs.declared.event.Event.TheVariants.{Run, Take}
use Rattle.merge_law.specs.Machine.{last_stamp, is_linked, stamped, run_at, take_at}
use Rattle.merge_law.specs.Core.{leaving, but_from, take_first, advance, core_after}
use Rattle.threadlet_code.specs.declared.code.Code.{Code}
use Rattle.threadlet_state.specs.declared.packet.Packet as sent
use Rattle.nodelet_core.specs.declared.nodelet.Nodelet.{Nodelet}
use Rattle.core_model.specs.Nodes.{Setup, Node}
use Rattle.core_model.specs.Runs.{run}
use Rattle.core_model.specs.Machine.{Packet, machine_of}
use Rattle.nodelet_core.specs.Kept.{node_of, setup_of, all_fit, packet_in}
use Rattle.sim_core.specs.declared.machine.Core.{Core as Kept}
use Rattle.core_model.specs.Core.{Core, is_legal}
use Rattle.sim_core.specs.code.Numbered.{IsNumbered, setup_with}
use Rattle.sim_core.specs.Kept.{setup_in, node_by, packets_from, outgoing_fits, core_in, core_fits}
use Rattle.core_model.proofs.Events.LegalEvent.{run_stamp, take_stamp, taken}
use Rattle.sim_core.proofs.AtPlaces.{list_all_at_place}
use Rattle.core_model.proofs.Actions.Sights.{both_true}

some_mapped : {A B : Type 0} (f : A → B) (o : Option A) → is_some (option_map f o) ≡ is_some o
some_mapped f None = refl
some_mapped f (Some x) = refl

some_chosen : {A : Type 0} (t : Bool) (o : Option A) → is_some (if t then o else None) ≡ (t && is_some o)
some_chosen true o = refl
some_chosen false o = refl

pub and_true : (t : Bool) → (t && true) ≡ t
and_true true = refl
and_true false = refl

pub and_false : (t : Bool) → (t && false) ≡ false
and_false true = refl
and_false false = refl

module _ (u : Setup) (c : Core) where
  -- A run is legal where the stamp can rise and the context can go on.
  pub run_legal : (k : ℕ) (q : Name) → is_legal u c (Run k q) ≡ (nat_lt k u.nodelets && (nat_lt (c.nodes k).stamp last_stamp && is_some (run u k (c.nodes k) q)))
  run_legal k q =
      some_mapped (core_after c k) (advance (machine_of u) (c.nodes k) (λ o. c.links o k) (Run k q))
      ∙ some_chosen (nat_lt k u.nodelets) (option_map (leaving (λ o. c.links o k)) (run_at (machine_of u) k (c.nodes k) q))
      ∙ ap (λ t. nat_lt k u.nodelets && t)
      (some_mapped (leaving (λ o. c.links o k)) (run_at (machine_of u) k (c.nodes k) q)
      ∙ some_chosen (nat_lt (c.nodes k).stamp last_stamp) (option_map (stamped (machine_of u) k (run_stamp c k) (λ count. node.Run q count)) (run u k (c.nodes k) q))
      ∙ ap (λ t. nat_lt (c.nodes k).stamp last_stamp && t) (some_mapped (stamped (machine_of u) k (run_stamp c k) (λ count. node.Run q count)) (run u k (c.nodes k) q)))

  module _ (origin k : ℕ) where
    -- A take is legal only on a link.
    pub take_legal : is_legal u c (Take origin k) ≡ (is_linked u.nodelets origin k && is_some (take_first (machine_of u) k (c.nodes k) origin (λ o. c.links o k) (c.links origin k)))
    take_legal =
        some_mapped (core_after c k) (advance (machine_of u) (c.nodes k) (λ o. c.links o k) (Take origin k))
        ∙ some_chosen (is_linked u.nodelets origin k) (take_first (machine_of u) k (c.nodes k) origin (λ o. c.links o k) (c.links origin k))

    -- Nothing can be taken from an empty link.
    pub none_to_take : is_linked u.nodelets origin k ≡ true → c.links origin k ≡ [] → is_legal u c (Take origin k) ≡ false
    none_to_take linked none =
        take_legal
        ∙ ap (λ t. t && is_some (take_first (machine_of u) k (c.nodes k) origin (λ o. c.links o k) (c.links origin k))) linked
        ∙ ap (λ l. is_some (take_first (machine_of u) k (c.nodes k) origin (λ o. c.links o k) l)) none

    -- The first packet can be taken where both stamps can rise.
    pub first_to_take : is_linked u.nodelets origin k ≡ true → (p : Packet) (rest : List Packet) → c.links origin k ≡ p ∷ rest →
        is_legal u c (Take origin k) ≡ (nat_lt (c.nodes k).stamp last_stamp && nat_lt p.stamp last_stamp)
    first_to_take linked p rest first =
        take_legal
        ∙ ap (λ t. t && is_some (take_first (machine_of u) k (c.nodes k) origin (λ o. c.links o k) (c.links origin k))) linked
        ∙ ap (λ l. is_some (take_first (machine_of u) k (c.nodes k) origin (λ o. c.links o k) l)) first
        ∙ some_mapped (leaving (but_from origin rest (λ o. c.links o k))) (take_at (machine_of u) k (c.nodes k) origin p)
        ∙ some_chosen (nat_lt (c.nodes k).stamp last_stamp && nat_lt p.stamp last_stamp) (option_map (stamped (machine_of u) k (take_stamp c k p) (λ _. node.Take origin)) (Some (taken u c origin k p)))
        ∙ and_true (nat_lt (c.nodes k).stamp last_stamp && nat_lt p.stamp last_stamp)

-- ---- a core that the code keeps

module _ (code : Code) (kept : Kept) (k : ℕ) (v : Nodelet) (there : slice_get kept.nodes.items k ≡ Some v) where
  pub numbered_there : IsNumbered kept.count kept.turns kept.rules k v
  numbered_there = kept.numbered k v there

  pub setup_there : setup_of code v ≡ setup_in code kept
  setup_there =
      ap (λ n. setup_with code n v.turns v.rules) numbered_there.nodelets
      ∙ ap (λ turns. setup_with code kept.count turns v.rules) numbered_there.turns_same
      ∙ ap (setup_with code kept.count kept.turns) numbered_there.rules_same

  pub node_there : (core_in code kept).nodes k ≡ node_of code v
  node_there = ap (node_by (setup_in code kept) k) there

  -- What can go on there, as the nodelet itself tells.
  pub goes_there : (q : Name) → run (setup_of code v) v.number (node_of code v) q ≡ run (setup_in code kept) k ((core_in code kept).nodes k) q
  goes_there q =
      ap (λ u. run u v.number (node_of code v) q) setup_there
      ∙ ap (λ n. run (setup_in code kept) n (node_of code v) q) numbered_there.number
      ∙ ap (λ w. run (setup_in code kept) k w q) (sym node_there)

  pub fits_there : core_fits code kept ≡ true → all_fit code v ≡ true
  fits_there fits = list_all_at_place (all_fit code) kept.nodes.items k v ((both_true (list_all (all_fit code) kept.nodes.items) (list_all (outgoing_fits code) kept.links.items) fits).0) there

  -- A run at a nodelet that is there is legal where its stamp can rise and the context can go on.
  pub run_legal_there : (q : Name) → k < kept.count →
      is_legal (setup_in code kept) (core_in code kept) (Run k q) ≡ (nat_lt v.stamp last_stamp && is_some (run (setup_of code v) v.number (node_of code v) q))
  run_legal_there q inside =
      run_legal (setup_in code kept) (core_in code kept) k q
      ∙ ap (λ t. t && (nat_lt ((core_in code kept).nodes k).stamp last_stamp && is_some (run (setup_in code kept) k ((core_in code kept).nodes k) q))) (lt-ltb k kept.count inside)
      ∙ ap (λ (w : Node). nat_lt w.stamp last_stamp && is_some (run (setup_in code kept) k ((core_in code kept).nodes k) q)) node_there
      ∙ ap (λ o. nat_lt v.stamp last_stamp && is_some o) (sym (goes_there q))

-- A take is legal where there is a first packet, and the stamps can rise.
module _ (code : Code) (kept : Kept) (origin k : ℕ) (linked : is_linked kept.count origin k ≡ true) where
  pub none_to_take_there : packets_from (slice_get kept.links.items origin) k ≡ [] → is_legal (setup_in code kept) (core_in code kept) (Take origin k) ≡ false
  none_to_take_there none = none_to_take (setup_in code kept) (core_in code kept) origin k linked (ap (map (packet_in code)) none)

  pub first_to_take_there : (p : sent.Packet) (rest : List sent.Packet) → packets_from (slice_get kept.links.items origin) k ≡ p ∷ rest →
      is_legal (setup_in code kept) (core_in code kept) (Take origin k) ≡ (nat_lt ((core_in code kept).nodes k).stamp last_stamp && nat_lt p.stamp last_stamp)
  first_to_take_there p rest first =
      first_to_take (setup_in code kept) (core_in code kept) origin k linked (packet_in code p) (map (packet_in code) rest) (ap (map (packet_in code)) first)
