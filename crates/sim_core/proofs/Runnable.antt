-- A legal run at a nodelet of a core that the code keeps.
use Rattle.std.proofs.Common.{◌≡◌, ◌≢◌, ℕ, ◌<◌, List, [], ◌++◌, Option, Some, None, Result, Ok, Err, refl, sym, ap, ◌∙◌, subst, arith, Bool, true, false, ◌&&◌, nat_lt, is_some, option_map, get_or}
use Rattle.std.specs.Prelude.{if◌then◌else◌, ◌==◌, slice_get, slice_set, OnErr}
use Rattle.std.specs.List.{list_all}
use Rattle.std.proofs.lemmas.Bool.{eqb-true, lt-ltb}
use Rattle.std.proofs.lemmas.Bool.Decides.{nat_tests}
use Rattle.std.proofs.lemmas.List.{append-nil}
use Rattle.std.proofs.lemmas.List.Folds.{list_all-append}
use Rattle.std.proofs.lemmas.Option.{slice_get_read}
use Rattle.word_ops.specs.declared.name.Name.{Name}
use Rattle.merge_law.specs.declared.event.Event.TheVariants.{Run}
use Rattle.merge_law.specs.Machine.{last_stamp, run_at}
use Rattle.merge_law.specs.Core as merge
use Rattle.threadlet_code.specs.declared.code.Code.{Code}
use Rattle.threadlet_state.specs.declared.packet.Packet as sent
use Rattle.nodelet_core.specs.declared.nodelet.Nodelet.{Nodelet}
use Rattle.nodelet_core.specs.declared.next.Next.TheVariants.{Goes}
use Rattle.core_model.specs.Runs.{run}
use Rattle.core_model.specs.Machine.{machine_of}
use Rattle.nodelet_core.specs.Kept.{node_of, setup_of, packet_in, all_fit, packet_fits, next_by, SameSettings}
use Rattle.nodelet_core.specs.Kept as nodelet
use Rattle.nodelet_core.specs.Left.{HasRun}
use Rattle.sim_core.specs.declared.outgoing.Outgoing.{Outgoing}
use Rattle.sim_core.specs.declared.machine.Core.{Core as Kept}
use Rattle.core_model.specs.Core.{is_legal}
use Rattle.sim_core.specs.code.Links.{packets_to, reaches, has_links}
use Rattle.sim_core.specs.Kept.{setup_in, packets_from, core_in, outgoing_fits, core_fits}
use Rattle.sim_core.specs.Advanced.{SameRun, HasAdvanced, IsUnchanged}
use Rattle.sim_core.proofs.AtPlaces.{list_all_at_place}
use Rattle.core_model.proofs.Actions.Sights.{both_true}
use Rattle.sim_core.proofs.Linked.{all_reached}
use Rattle.sim_core.proofs.Legal.{run_legal, run_legal_there, numbered_there, setup_there, node_there}
use Rattle.sim_core.proofs.Outcomes.{packets_fit, sent_on, fits_after, still, advanced}

goes_on : {A : Type 0} (o : Option A) → is_some o ≡ true → next_by o ≡ Goes
goes_on None e = absurd (let wrong : false ≡ true = e in cc)
goes_on (Some x) e = refl

pub on_err_both : {T E P Q R : Type 0} (r : Result T E) → OnErr r P → OnErr r Q → (P → Q → R) → OnErr r R
on_err_both (Ok x) p q f = tt
on_err_both (Err e) p q f = f p q

-- ---- what a run needs

module _ (code : Code) (kept : Kept) (k : ℕ) (q : Name) (legal : is_legal (setup_in code kept) (core_in code kept) (Run k q) ≡ true) where
  pub run_inside : k < kept.count
  run_inside =
      let test : nat_lt k kept.count ≡ true =
      (both_true (nat_lt k kept.count) (nat_lt ((core_in code kept).nodes k).stamp last_stamp && is_some (run (setup_in code kept) k ((core_in code kept).nodes k) q)) (sym (run_legal (setup_in code kept) (core_in code kept) k q) ∙ legal)).0 in
      grind (arith, nat_tests)

  module _ (v : Nodelet) (read : v ≡ get_or kept.nodes.items k v) where
    pub node_read : slice_get kept.nodes.items k ≡ Some v
    node_read = slice_get_read kept.nodes.items kept.count k v (sym kept.nodes_count) run_inside read

    tests : (nat_lt v.stamp last_stamp && is_some (run (setup_of code v) v.number (node_of code v) q)) ≡ true
    tests = sym (run_legal_there code kept k v node_read q run_inside) ∙ legal

    pub stamp_rises : v.stamp < last_stamp
    stamp_rises = let test : nat_lt v.stamp last_stamp ≡ true = (both_true (nat_lt v.stamp last_stamp) (is_some (run (setup_of code v) v.number (node_of code v) q)) tests).0 in grind (arith, nat_tests)

    pub context_goes : next_by (run (setup_of code v) v.number (node_of code v) q) ≡ Goes
    context_goes = goes_on (run (setup_of code v) v.number (node_of code v) q) (both_true (nat_lt v.stamp last_stamp) (is_some (run (setup_of code v) v.number (node_of code v) q)) tests).1

-- The links from a nodelet reach all others.
pub reaches_others : (kept : Kept) (k : ℕ) (v : Nodelet) (out : Outgoing) → slice_get kept.nodes.items k ≡ Some v → slice_get kept.links.items k ≡ Some out → (j : ℕ) → j < v.nodelets → j ≢ v.number → reaches out j ≡ true
reaches_others kept k v out was links j inside other =
    all_reached kept.count out j (list_all_at_place (has_links kept.count) kept.links.items k out kept.all_linked links)
    (subst (λ (n : ℕ). j < n) ((kept.numbered k v was).nodelets) inside)

-- ---- what is sent from a nodelet

module _ (code : Code) (before after_it : Kept) (k : ℕ) (v w : Nodelet) (was : slice_get before.nodes.items k ≡ Some v) (nodes_are : after_it.nodes.items ≡ slice_set before.nodes.items k w) (same : SameRun before after_it)
    (links : List Outgoing) (out out_after : Outgoing) (links_was : slice_get links k ≡ Some out) (links_are : after_it.links.items ≡ slice_set links k out_after) where
  pub sent_after : (more : ℕ → List sent.Packet) → ((j : ℕ) → packets_to out_after j ≡ packets_to out j ++ more j) → (o j : ℕ) →
      packets_from (slice_get after_it.links.items o) j ≡ packets_from (slice_get links o) j ++ (if o == k then more j else [])
  sent_after more sends o j = ap (λ ls. packets_from (slice_get ls o) j) links_are ∙ sent_on links k out out_after more links_was sends o j

module _ (code : Code) (before : Kept) (fits : core_fits code before ≡ true) (k : ℕ) (w : Nodelet) (here : all_fit code w ≡ true) (links : List Outgoing) (links_fit : list_all (outgoing_fits code) links ≡ true)
    (out out_after : Outgoing) (links_was : slice_get links k ≡ Some out) where
  -- All fits still where what is sent does.
  pub sent_fits : (more : ℕ → List sent.Packet) → ((j : ℕ) → packets_to out_after j ≡ packets_to out j ++ more j) → ((j : ℕ) → list_all (packet_fits code) (more j) ≡ true) →
      (list_all (all_fit code) (slice_set before.nodes.items k w) && list_all (outgoing_fits code) (slice_set links k out_after)) ≡ true
  sent_fits more sends more_fit = fits_after code before.nodes.items (slice_set links k out_after) k w
      (both_true (list_all (all_fit code) before.nodes.items) (list_all (outgoing_fits code) before.links.items) fits).0 here (λ o j.
      ap (list_all (packet_fits code)) (sent_on links k out out_after more links_was sends o j)
      ∙ list_all-append (packet_fits code) (packets_from (slice_get links o) j) (if o == k then more j else [])
      ∙ ap (λ t. t && list_all (packet_fits code) (if o == k then more j else [])) (packets_fit code links links_fit o j)
      ∙ new (o == k) j)
    where
      new : (t : Bool) (j : ℕ) → (true && list_all (packet_fits code) (if t then more j else [])) ≡ true
      new true j = more_fit j
      new false j = refl

  pub unsent_fits : ((j : ℕ) → packets_to out_after j ≡ packets_to out j) →
      (list_all (all_fit code) (slice_set before.nodes.items k w) && list_all (outgoing_fits code) (slice_set links k out_after)) ≡ true
  unsent_fits unsent = sent_fits (λ j. []) (λ j. unsent j ∙ sym (append-nil (packets_to out j))) (λ j. refl)

pub links_fit : (code : Code) (kept : Kept) → core_fits code kept ≡ true → list_all (outgoing_fits code) kept.links.items ≡ true
links_fit code kept fits = (both_true (list_all (all_fit code) kept.nodes.items) (list_all (outgoing_fits code) kept.links.items) fits).1

-- ---- what a run leaves

module _ (code : Code) (before after_it : Kept) (k : ℕ) (v w : Nodelet) (was : slice_get before.nodes.items k ≡ Some v) (nodes_are : after_it.nodes.items ≡ slice_set before.nodes.items k w) (same : SameRun before after_it)
    (out out_after : Outgoing) (links_was : slice_get before.links.items k ≡ Some out) (links_are : after_it.links.items ≡ slice_set before.links.items k out_after) where
  pub ran : (q : Name) → k < before.count → HasRun code v w (packets_to out) (packets_to out_after) q → HasAdvanced code before after_it (Run k q)
  ran q inside h =
      advanced code before after_it k v w was nodes_are same (λ o. packets_from (slice_get before.links.items o) k) h.had.more links_after h.outcome (λ o. (core_in code before).links o k) (λ o. refl)
      (Run k q) refl h.had.node h.had.entries h.had.told legal
    where
      links_after : (o j : ℕ) → packets_from (slice_get after_it.links.items o) j ≡ (if j == k then packets_from (slice_get before.links.items o) k else packets_from (slice_get before.links.items o) j) ++ (if o == k then h.had.more j else [])
      links_after o j =
          sent_after code before after_it k v w was nodes_are same before.links.items out out_after links_was links_are h.had.more h.had.sent o j
          ∙ ap (λ l. l ++ (if o == k then h.had.more j else [])) (go (j == k) refl)
        where
          go : (t : Bool) → (j == k) ≡ t → packets_from (slice_get before.links.items o) j ≡ (if t then packets_from (slice_get before.links.items o) k else packets_from (slice_get before.links.items o) j)
          go true f = ap (packets_from (slice_get before.links.items o)) (eqb-true j k f)
          go false f = refl

      runs : run_at (machine_of (setup_in code before)) k ((core_in code before).nodes k) q ≡ Some h.outcome
      runs =
          sym (ap (λ u. run_at (machine_of u) v.number (node_of code v) q) (setup_there code before k v was)
          ∙ ap (λ n. run_at (machine_of (setup_in code before)) n (node_of code v) q) ((numbered_there code before k v was).number)
          ∙ ap (λ x. run_at (machine_of (setup_in code before)) k x q) (sym (node_there code before k v was)))
          ∙ h.runs

      legal : merge.after (machine_of (setup_in code before)) (core_in code before) (Run k q) ≡ Some (merge.core_after (core_in code before) k (merge.leaving (λ o. (core_in code before).links o k) h.outcome))
      legal =
          ap (λ t. option_map (merge.core_after (core_in code before) k) (if t then option_map (merge.leaving (λ o. (core_in code before).links o k)) (run_at (machine_of (setup_in code before)) k ((core_in code before).nodes k) q) else None)) (lt-ltb k before.count inside)
          ∙ ap (λ o. option_map (merge.core_after (core_in code before) k) (option_map (merge.leaving (λ o. (core_in code before).links o k)) o)) runs

  pub unsent_still : nodelet.IsUnchanged v w → ((j : ℕ) → packets_to out_after j ≡ packets_to out j) → IsUnchanged before after_it
  unsent_still unchanged unsent = still code before after_it k v w was nodes_are same unchanged (λ o j.
      sent_after code before after_it k v w was nodes_are same before.links.items out out_after links_was links_are (λ j. []) (λ i. unsent i ∙ sym (append-nil (packets_to out i))) o j
      ∙ none (o == k) (packets_from (slice_get before.links.items o) j))
    where
      none : (t : Bool) (l : List sent.Packet) → l ++ (if t then [] else []) ≡ l
      none true l = append-nil l
      none false l = append-nil l
