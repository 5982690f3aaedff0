-- What a core that the code keeps is once one of its nodelets and the links from it are changed.
use Rattle.std.proofs.Common.{◌≡◌, ℕ, zero, suc, List, [], ◌∷◌, ◌++◌, map, Option, Some, None, Result, Ok, Err, refl, sym, ap, ◌∙◌, subst, Bool, true, false, ◌&&◌}
use Rattle.std.proofs.Math.Path.{fun_ext}
use Rattle.std.specs.Prelude.{if◌then◌else◌, ◌==◌, slice_get, slice_set, OnOk, OnErr}
use Rattle.std.specs.List.{list_all}
use Rattle.std.proofs.lemmas.Bool.{eqb-true}
use Rattle.std.proofs.lemmas.List.{append-nil, map-append}
use Rattle.std.proofs.lemmas.Option.{slice_get_within}
use Rattle.word_ops.specs.declared.rules.Rules.{Rules}
use Rattle.word_ops.specs.declared.step.Entry.{Entry}
use Rattle.merge_law.specs.declared.event.Event.{Event}
use Rattle.merge_law.specs.Events.{nodelet_of}
use Rattle.merge_law.specs.Machine.{Outcome}
use Rattle.merge_law.specs.Core as merge
use Rattle.merge_law.proofs.Somes.{same_number}
use Rattle.threadlet_code.specs.declared.code.Code.{Code}
use Rattle.threadlet_state.specs.declared.packet.Packet as sent
use Rattle.nodelet_core.specs.declared.nodelet.Nodelet.{Nodelet}
use Rattle.core_model.specs.Nodes.{Node}
use Rattle.core_model.specs.Machine.{Packet, machine_of}
use Rattle.nodelet_core.specs.Kept.{node_of, packet_in, all_fit, packet_fits, SameSettings}
use Rattle.nodelet_core.specs.Kept as nodelet
use Rattle.sim_core.specs.declared.link.Link.{Link}
use Rattle.sim_core.specs.declared.outgoing.Outgoing.{Outgoing}
use Rattle.sim_core.specs.declared.machine.Core.{Core as Kept}
use Rattle.core_model.specs.Core.{Core}
use Rattle.sim_core.specs.code.Links.{packets_to, packets_by}
use Rattle.sim_core.specs.code.Numbered.{IsNumbered, AreNumbered}
use Rattle.sim_core.specs.Kept.{setup_in, node_by, packets_from, core_in, link_fits, outgoing_fits}
use Rattle.sim_core.specs.Advanced.{SameRun, entries_in, entries_at, HasAdvanced, IsUnchanged}
use Rattle.sim_core.proofs.AtPlaces.{list_all_by_place, list_all_at_place}
use Rattle.core_model.proofs.Actions.Sights.{both_true}
use Rattle.sim_core.proofs.Linked.{at_changed, at_other}
use Rattle.sim_core.proofs.Playing.{same_setup}

-- ---- small facts

-- What follows from a result, whichever it is.
pub in_either : {A E P Q R : Type 0} (r : Result A E) → OnOk r P → OnErr r Q → (P → R) → (Q → R) → R
in_either (Ok x) ok err f g = f ok
in_either (Err e) ok err f g = g err

pub differ : (j k : ℕ) → (j == k) ≡ false → j ≡ k → ⊥
differ j k e same = let wrong : true ≡ false = sym (same_number k) ∙ ap (λ i. i == k) (sym same) ∙ e in cc

pub all_changed : {A : Type 0} (p : A → Bool) (xs : List A) (k : ℕ) (x : A) → list_all p xs ≡ true → p x ≡ true → list_all p (slice_set xs k x) ≡ true
all_changed p [] k x all e = refl
all_changed p (y ∷ xs) zero x all e = rw (e, (both_true (p y) (list_all p xs) all).1) refl
all_changed p (y ∷ xs) (suc k) x all e = rw ((both_true (p y) (list_all p xs) all).0, all_changed p xs k x (both_true (p y) (list_all p xs) all).1 e) refl

-- A nodelet with the settings of the one in its place has that place's number.
pub changed_numbered : (n turns : ℕ) (rules : Rules) (nodes : List Nodelet) (k : ℕ) (v w : Nodelet) → SameSettings v w → slice_get nodes k ≡ Some v →
    AreNumbered n turns rules nodes → AreNumbered n turns rules (slice_set nodes k w)
changed_numbered n turns rules nodes k v w same was all j x e = go (j == k) refl
  where
    old : IsNumbered n turns rules k v
    old = all k v was

    new : IsNumbered n turns rules k w
    new = record {
      number = same.number ∙ old.number;
      nodelets = same.nodelets ∙ old.nodelets;
      turns_same = same.turns ∙ old.turns_same;
      rules_same = same.rules ∙ old.rules_same;
    }

    go : (t : Bool) → (j == k) ≡ t → IsNumbered n turns rules j x
    go false f = all j x (sym (at_other nodes k j w (differ j k f)) ∙ e)
    go true f =
        let is : w ≡ x = let z : Some w ≡ Some x = sym (at_changed nodes k w (slice_get_within nodes k v was)) ∙ ap (slice_get (slice_set nodes k w)) (sym (eqb-true j k f)) ∙ e in cc in
        subst (λ (i : ℕ). IsNumbered n turns rules i x) (sym (eqb-true j k f)) (subst (λ (y : Nodelet). IsNumbered n turns rules k y) is new)

-- ---- what fits

module _ (code : Code) (links : List Outgoing) where
  pub packets_fit : list_all (outgoing_fits code) links ≡ true → (o j : ℕ) → list_all (packet_fits code) (packets_from (slice_get links o) j) ≡ true
  packets_fit all o j = from (slice_get links o) refl
    where
      on : (outgoing : Outgoing) → outgoing_fits code outgoing ≡ true → (l : Option Link) → slice_get outgoing.links.items j ≡ l → list_all (packet_fits code) (packets_by l) ≡ true
      on outgoing fits None e = refl
      on outgoing fits (Some link) e = list_all_at_place (link_fits code) outgoing.links.items j link fits e

      from : (g : Option Outgoing) → slice_get links o ≡ g → list_all (packet_fits code) (packets_from g j) ≡ true
      from None e = refl
      from (Some outgoing) e = on outgoing (list_all_at_place (outgoing_fits code) links o outgoing all e) (slice_get outgoing.links.items j) refl

  pub fit_by_packets : ((o j : ℕ) → list_all (packet_fits code) (packets_from (slice_get links o) j) ≡ true) → list_all (outgoing_fits code) links ≡ true
  fit_by_packets all =
      list_all_by_place (outgoing_fits code) links (λ o outgoing e.
      list_all_by_place (link_fits code) outgoing.links.items (λ j link f.
      ap (λ l. list_all (packet_fits code) (packets_by l)) (sym f) ∙ ap (λ g. list_all (packet_fits code) (packets_from g j)) (sym e) ∙ all o j))

-- All fits still where a changed nodelet does, and what is on the links.
pub fits_after : (code : Code) (nodes : List Nodelet) (links : List Outgoing) (k : ℕ) (w : Nodelet) → list_all (all_fit code) nodes ≡ true → all_fit code w ≡ true →
    ((o j : ℕ) → list_all (packet_fits code) (packets_from (slice_get links o) j) ≡ true) → (list_all (all_fit code) (slice_set nodes k w) && list_all (outgoing_fits code) links) ≡ true
fits_after code nodes links k w fits here packets = rw (all_changed (all_fit code) nodes k w fits here, fit_by_packets code links packets) refl

-- ---- the links from one nodelet changed

-- Where the links from a nodelet are others, their packets are on them.
pub put_at : (links : List Outgoing) (k : ℕ) (old new : Outgoing) → slice_get links k ≡ Some old → (o j : ℕ) →
    packets_from (slice_get (slice_set links k new) o) j ≡ (if o == k then packets_to new j else packets_from (slice_get links o) j)
put_at links k old new was o j = go (o == k) refl
  where
    go : (t : Bool) → (o == k) ≡ t → packets_from (slice_get (slice_set links k new) o) j ≡ (if t then packets_to new j else packets_from (slice_get links o) j)
    go true f = ap (λ i. packets_from (slice_get (slice_set links k new) i) j) (eqb-true o k f) ∙ ap (λ g. packets_from g j) (at_changed links k new (slice_get_within links k old was))
    go false f = ap (λ g. packets_from g j) (at_other links k o new (differ o k f))

-- What is sent from a nodelet goes behind what was on its links.
pub sent_on : (links : List Outgoing) (k : ℕ) (old new : Outgoing) (more : ℕ → List sent.Packet) → slice_get links k ≡ Some old → ((j : ℕ) → packets_to new j ≡ packets_to old j ++ more j) → (o j : ℕ) →
    packets_from (slice_get (slice_set links k new) o) j ≡ packets_from (slice_get links o) j ++ (if o == k then more j else [])
sent_on links k old new more was sends o j = put_at links k old new was o j ∙ go (o == k) refl
  where
    go : (t : Bool) → (o == k) ≡ t → (if t then packets_to new j else packets_from (slice_get links o) j) ≡ packets_from (slice_get links o) j ++ (if t then more j else [])
    go true f = sends j ∙ ap (λ g. packets_from g j ++ more j) (sym (ap (slice_get links) (eqb-true o k f) ∙ was))
    go false f = sym (append-nil (packets_from (slice_get links o) j))

-- ---- one nodelet changed

module _ (code : Code) (before after_it : Kept) (k : ℕ) (v w : Nodelet) (was : slice_get before.nodes.items k ≡ Some v) (nodes_are : after_it.nodes.items ≡ slice_set before.nodes.items k w) (same : SameRun before after_it) where
  is : slice_get after_it.nodes.items k ≡ Some w
  is = ap (λ xs. slice_get xs k) nodes_are ∙ at_changed before.nodes.items k w (slice_get_within before.nodes.items k v was)

  others : (j : ℕ) → (j == k) ≡ false → slice_get after_it.nodes.items j ≡ slice_get before.nodes.items j
  others j e = ap (λ xs. slice_get xs j) nodes_are ∙ at_other before.nodes.items k j w (differ j k e)

  nodes_after : (n : Node) → node_of code w ≡ n → (j : ℕ) → (core_in code after_it).nodes j ≡ (if j == k then n else (core_in code before).nodes j)
  nodes_after n e j = go (j == k) refl
    where
      go : (t : Bool) → (j == k) ≡ t → node_by (setup_in code after_it) j (slice_get after_it.nodes.items j) ≡ (if t then n else node_by (setup_in code before) j (slice_get before.nodes.items j))
      go true f = ap (λ i. node_by (setup_in code after_it) i (slice_get after_it.nodes.items i)) (eqb-true j k f) ∙ ap (node_by (setup_in code after_it) k) is ∙ e
      go false f = ap (λ u. node_by u j (slice_get after_it.nodes.items j)) (same_setup code before after_it same) ∙ ap (node_by (setup_in code before) j) (others j f)

  entries_after : (more : List Entry) → w.entries ≡ v.entries ++ more → (j : ℕ) → entries_at after_it j ≡ entries_at before j ++ (if j == k then more else [])
  entries_after more e j = go (j == k) refl
    where
      go : (t : Bool) → (j == k) ≡ t → entries_at after_it j ≡ entries_at before j ++ (if t then more else [])
      go true f = ap (entries_at after_it) (eqb-true j k f) ∙ ap entries_in is ∙ e ∙ ap (λ es. es ++ more) (sym (ap (entries_at before) (eqb-true j k f) ∙ ap entries_in was))
      go false f = ap entries_in (others j f) ∙ sym (append-nil (entries_at before j))

  abbrev core_by : (ℕ → Node) → (ℕ → ℕ → List Packet) → Core
  core_by nodes links = record { nodes = nodes; links = links }

  unchanged_nodes : (by : Code) → nodelet.IsUnchanged v w → (j : ℕ) → (core_in by after_it).nodes j ≡ (core_in by before).nodes j
  unchanged_nodes by unchanged j = go (j == k) refl
    where
      go : (t : Bool) → (j == k) ≡ t → node_by (setup_in by after_it) j (slice_get after_it.nodes.items j) ≡ node_by (setup_in by before) j (slice_get before.nodes.items j)
      go true f =
          ap (λ i. node_by (setup_in by after_it) i (slice_get after_it.nodes.items i)) (eqb-true j k f) ∙ ap (node_by (setup_in by after_it) k) is
          ∙ unchanged.node by
          ∙ sym (ap (λ i. node_by (setup_in by before) i (slice_get before.nodes.items i)) (eqb-true j k f) ∙ ap (node_by (setup_in by before) k) was)
      go false f = ap (λ u. node_by u j (slice_get after_it.nodes.items j)) (same_setup by before after_it same) ∙ ap (node_by (setup_in by before) j) (others j f)

  unchanged_entries : nodelet.IsUnchanged v w → (j : ℕ) → entries_at after_it j ≡ entries_at before j
  unchanged_entries unchanged j = go (j == k) refl
    where
      go : (t : Bool) → (j == k) ≡ t → entries_at after_it j ≡ entries_at before j
      go true f = ap (entries_at after_it) (eqb-true j k f) ∙ ap entries_in is ∙ unchanged.entries ∙ sym (ap (entries_at before) (eqb-true j k f) ∙ ap entries_in was)
      go false f = ap entries_in (others j f)

  -- Where the nodelet is as it was, and what is on the links, so is the core.
  pub still : nodelet.IsUnchanged v w → ((o j : ℕ) → packets_from (slice_get after_it.links.items o) j ≡ packets_from (slice_get before.links.items o) j) → IsUnchanged before after_it
  still unchanged links = record {
    settings = same;
    core = λ by. ap (λ nodes. core_by nodes (core_in by after_it).links) (fun_ext (unchanged_nodes by unchanged)) ∙ ap (core_by (core_in by before).nodes) (fun_ext (λ o. fun_ext (λ j. ap (map (packet_in by)) (links o j))));
    entries = unchanged_entries unchanged;
  }

  module _ (left more : ℕ → List sent.Packet)
      (links_are : (o j : ℕ) → packets_from (slice_get after_it.links.items o) j ≡ (if j == k then left o else packets_from (slice_get before.links.items o) j) ++ (if o == k then more j else []))
      (outcome : Outcome Node Packet) (left_in : ℕ → List Packet) (stays : (o : ℕ) → map (packet_in code) (left o) ≡ left_in o) where
    links_after : ((j : ℕ) → map (packet_in code) (more j) ≡ outcome.sent j) → (o j : ℕ) →
        (core_in code after_it).links o j ≡ (if j == k then left_in o else (core_in code before).links o j) ++ (if o == k then outcome.sent j else [])
    links_after told o j =
        ap (map (packet_in code)) (links_are o j)
        ∙ map-append (packet_in code) (if j == k then left o else packets_from (slice_get before.links.items o) j) (if o == k then more j else [])
        ∙ ap (λ l. l ++ map (packet_in code) (if o == k then more j else [])) (old (j == k))
        ∙ ap (λ l. (if j == k then left_in o else (core_in code before).links o j) ++ l) (new (o == k))
      where
        old : (t : Bool) → map (packet_in code) (if t then left o else packets_from (slice_get before.links.items o) j) ≡ (if t then left_in o else (core_in code before).links o j)
        old true = stays o
        old false = refl

        new : (t : Bool) → map (packet_in code) (if t then more j else []) ≡ (if t then outcome.sent j else [])
        new true = told j
        new false = refl

    -- An outcome at the nodelet is what the event leaves.
    pub advanced : (event : Event) → nodelet_of event ≡ k → node_of code w ≡ outcome.node → w.entries ≡ v.entries ++ outcome.entry ∷ [] → ((j : ℕ) → map (packet_in code) (more j) ≡ outcome.sent j) →
        merge.after (machine_of (setup_in code before)) (core_in code before) event ≡ Some (merge.core_after (core_in code before) k (merge.leaving left_in outcome)) → HasAdvanced code before after_it event
    advanced event at node entries told legal = record {
      settings = same;
      left = merge.core_after (core_in code before) k (merge.leaving left_in outcome);
      legal = legal;
      core = ap (λ nodes. core_by nodes (core_in code after_it).links) (fun_ext (nodes_after outcome.node node)) ∙ ap (core_by (λ j. if j == k then outcome.node else (core_in code before).nodes j)) (fun_ext (λ o. fun_ext (links_after told o)));
      entries = λ j. entries_after (outcome.entry ∷ []) entries j ∙ ap (λ i. entries_at before j ++ (if j == i then outcome.entry ∷ [] else [])) (sym at);
    }
