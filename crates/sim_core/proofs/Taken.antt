-- A legal take at a nodelet of a core that the code keeps.
use Rattle.std.proofs.Common.{◌≡◌, ◌≢◌, ℕ, ◌<◌, List, [], ◌∷◌, ◌++◌, map, Some, None, refl, sym, ap, ◌∙◌, subst, arith, Bool, true, false, ◌&&◌, nat_lt, is_some, option_map, get_or, drop}
use Rattle.std.specs.Prelude.{if◌then◌else◌, ◌==◌, slice_get, slice_set}
use Rattle.std.specs.List.{list_all}
use Rattle.std.proofs.lemmas.Bool.{eqb-true}
use Rattle.std.proofs.lemmas.Bool.Decides.{nat_tests}
use Rattle.std.proofs.lemmas.List.{append-nil, length-set}
use Rattle.std.proofs.lemmas.Option.{slice_get_read}
use Rattle.merge_law.specs.declared.event.Event.TheVariants.{Take}
use Rattle.merge_law.specs.Machine.{last_stamp, is_linked, take_at}
use Rattle.merge_law.specs.Core as merge
use Rattle.threadlet_code.specs.declared.code.Code.{Code}
use Rattle.threadlet_code.specs.Breaches.{is_sound}
use Rattle.threadlet_state.specs.declared.packet.Packet as sent
use Rattle.nodelet_core.specs.declared.nodelet.Nodelet.{Nodelet}
use Rattle.nodelet_core.specs.Carried.{body_in}
use Rattle.core_model.specs.Nodes.{Node}
use Rattle.core_model.specs.Takes.{can_come}
use Rattle.core_model.specs.Machine.{machine_of}
use Rattle.nodelet_core.specs.Kept.{node_of, packet_in, body_fits, packet_fits}
use Rattle.nodelet_core.specs.Left.{HasTaken, IsAwaited}
use Rattle.sim_core.specs.declared.outgoing.Outgoing.{Outgoing}
use Rattle.sim_core.specs.declared.machine.Core.{Core as Kept}
use Rattle.core_model.specs.Core.{Core, is_legal}
use Rattle.sim_core.specs.code.Links.{packets_to}
use Rattle.sim_core.specs.Kept.{setup_in, packets_from, core_in, outgoing_fits, core_fits}
use Rattle.sim_core.specs.Advanced.{SameRun, HasAdvanced, IsReached}
use Rattle.core_model.proofs.Actions.Sights.{both_true}
use Rattle.core_model.proofs.Packets.FirstCanCome.{first_can_come}
use Rattle.sim_core.proofs.Linked.{Ends, ends_of, at_changed, at_other, first_and_rest, no_first, outgoing_there, packets_there}
use Rattle.sim_core.proofs.Legal.{take_legal, none_to_take_there, first_to_take_there, numbered_there, setup_there, node_there}
use Rattle.sim_core.proofs.Outcomes.{differ, packets_fit, fit_by_packets, put_at, sent_on, advanced}
use Rattle.sim_core.proofs.Runnable.{links_fit, sent_after}

module _ (code : Code) (kept : Kept) (origin k : ℕ) (legal : is_legal (setup_in code kept) (core_in code kept) (Take origin k) ≡ true) where
  pub take_linked : is_linked kept.count origin k ≡ true
  take_linked = (both_true (is_linked kept.count origin k) (is_some (merge.take_first (machine_of (setup_in code kept)) k ((core_in code kept).nodes k) origin (λ o. (core_in code kept).links o k) ((core_in code kept).links origin k)))
      (sym (take_legal (setup_in code kept) (core_in code kept) origin k) ∙ legal)).0

  pub take_ends : Ends kept.count origin k
  take_ends = ends_of kept.count origin k take_linked

  pub taker_read : (v : Nodelet) → v ≡ get_or kept.nodes.items k v → slice_get kept.nodes.items k ≡ Some v
  taker_read v read = slice_get_read kept.nodes.items kept.count k v (sym kept.nodes_count) take_ends.there read

  -- The links from the nodelet that takes are what they were.
  pub taker_links : (out1 outk : Outgoing) → outk ≡ get_or (slice_set kept.links.items origin out1) k outk → slice_get (slice_set kept.links.items origin out1) k ≡ Some outk
  taker_links out1 outk read = slice_get_read (slice_set kept.links.items origin out1) kept.count k outk (sym (length-set kept.links.items origin out1 ∙ kept.links_count)) take_ends.there read

  pub taker_links_were : (out1 outk : Outgoing) → outk ≡ get_or (slice_set kept.links.items origin out1) k outk → slice_get kept.links.items k ≡ Some outk
  taker_links_were out1 outk read = sym (at_other kept.links.items origin k out1 (λ e. take_ends.other (sym e))) ∙ taker_links out1 outk read

  -- A packet waits there.
  pub one_waits : {A : Type 0} (out : Outgoing) → out ≡ get_or kept.links.items origin out → slice_get (packets_to out k) 0 ≡ None → A
  one_waits out read none =
      let e : false ≡ true = sym (none_to_take_there code kept origin k take_linked (packets_there kept origin k take_linked out read ∙ no_first (packets_to out k) none)) ∙ legal in cc

  module _ (out : Outgoing) (read : out ≡ get_or kept.links.items origin out) (p : sent.Packet) (first : Some p ≡ slice_get (packets_to out k) 0) where
    abbrev rest : List sent.Packet
    rest = drop 1 (packets_to out k)

    pub out_was : slice_get kept.links.items origin ≡ Some out
    out_was = outgoing_there kept origin k take_linked out read

    pub packets_first : packets_from (slice_get kept.links.items origin) k ≡ p ∷ rest
    packets_first = packets_there kept origin k take_linked out read ∙ first_and_rest (packets_to out k) p (sym first)

    stamps : (nat_lt ((core_in code kept).nodes k).stamp last_stamp && nat_lt p.stamp last_stamp) ≡ true
    stamps = sym (first_to_take_there code kept origin k take_linked p rest packets_first) ∙ legal

    pub packet_stamp : p.stamp < last_stamp
    packet_stamp = let test : nat_lt p.stamp last_stamp ≡ true = (both_true (nat_lt ((core_in code kept).nodes k).stamp last_stamp) (nat_lt p.stamp last_stamp) stamps).1 in grind (arith, nat_tests)

    pub taker_stamp : (v : Nodelet) → slice_get kept.nodes.items k ≡ Some v → v.stamp < last_stamp
    taker_stamp v was =
        let test : nat_lt v.stamp last_stamp ≡ true = ap (λ (x : Node). nat_lt x.stamp last_stamp) (sym (node_there code kept k v was)) ∙ (both_true (nat_lt ((core_in code kept).nodes k).stamp last_stamp) (nat_lt p.stamp last_stamp) stamps).0 in
        grind (arith, nat_tests)

    module _ (fits : core_fits code kept ≡ true) where
      first_fit : (packet_fits code p && list_all (packet_fits code) rest) ≡ true
      first_fit = sym (ap (list_all (packet_fits code)) packets_first) ∙ packets_fit code kept.links.items (links_fit code kept fits) origin k

      pub packet_fit : body_fits code p.body ≡ true
      packet_fit = (both_true (packet_fits code p) (list_all (packet_fits code) rest) first_fit).0

      pub rest_fit : list_all (packet_fits code) rest ≡ true
      rest_fit = (both_true (packet_fits code p) (list_all (packet_fits code) rest) first_fit).1

    -- The first packet is awaited, since it can come.
    pub awaited : is_sound code ≡ true → IsReached code kept → (v : Nodelet) → slice_get kept.nodes.items k ≡ Some v → IsAwaited v origin p
    awaited sound reached v was = record {
      there = subst (λ (n : ℕ). origin < n) (sym (numbered_there code kept k v was).nodelets) take_ends.origin_there;
      other = λ e. take_ends.other (e ∙ (numbered_there code kept k v was).number);
      code = code;
      comes =
          ap (λ u. can_come u v.number (node_of code v) (body_in code p.body)) (setup_there code kept k v was)
          ∙ ap (λ n. can_come (setup_in code kept) n (node_of code v) (body_in code p.body)) ((numbered_there code kept k v was).number)
          ∙ ap (λ x. can_come (setup_in code kept) k x (body_in code p.body)) (sym (node_there code kept k v was) ∙ ap (λ (c : Core). c.nodes k) reached.core)
          ∙ first_can_come (setup_in code kept) sound kept.some reached.events reached.played reached.plays origin k (packet_in code p) (map (packet_in code) rest)
          (ap (λ (c : Core). c.links origin k) (sym reached.core) ∙ ap (map (packet_in code)) packets_first);
    }

    module _ (out1 : Outgoing) (rest_is : packets_to out1 k ≡ rest) (elsewhere : (j : ℕ) → j ≢ k → packets_to out1 j ≡ packets_to out j) where
      abbrev left : ℕ → List sent.Packet
      left o = if o == origin then rest else packets_from (slice_get kept.links.items o) k

      -- What is on the links once the packet is taken.
      middle : (o j : ℕ) → packets_from (slice_get (slice_set kept.links.items origin out1) o) j ≡ (if j == k then left o else packets_from (slice_get kept.links.items o) j)
      middle o j = put_at kept.links.items origin out out1 out_was o j ∙ go (o == origin) refl (j == k) refl
        where
          go : (t : Bool) → (o == origin) ≡ t → (s : Bool) → (j == k) ≡ s →
              (if t then packets_to out1 j else packets_from (slice_get kept.links.items o) j) ≡ (if s then (if t then rest else packets_from (slice_get kept.links.items o) k) else packets_from (slice_get kept.links.items o) j)
          go true e true f = ap (packets_to out1) (eqb-true j k f) ∙ rest_is
          go true e false f = elsewhere j (differ j k f) ∙ sym (ap (λ g. packets_from g j) (ap (slice_get kept.links.items) (eqb-true o origin e) ∙ out_was))
          go false e true f = ap (packets_from (slice_get kept.links.items o)) (eqb-true j k f)
          go false e false f = refl

      pub middle_fit : core_fits code kept ≡ true → list_all (outgoing_fits code) (slice_set kept.links.items origin out1) ≡ true
      middle_fit fits = fit_by_packets code (slice_set kept.links.items origin out1) (λ o j. ap (list_all (packet_fits code)) (middle o j) ∙ go o j (j == k) (o == origin))
        where
          go : (o j : ℕ) (s t : Bool) → list_all (packet_fits code) (if s then (if t then rest else packets_from (slice_get kept.links.items o) k) else packets_from (slice_get kept.links.items o) j) ≡ true
          go o j true true = rest_fit fits
          go o j true false = packets_fit code kept.links.items (links_fit code kept fits) o k
          go o j false t = packets_fit code kept.links.items (links_fit code kept fits) o j

      -- A packet that is put back is on its link again.
      pub put_back_same : (outk outk_after out1_read out2 : Outgoing) → outk ≡ get_or (slice_set kept.links.items origin out1) k outk → ((j : ℕ) → packets_to outk_after j ≡ packets_to outk j) →
          out1_read ≡ get_or (slice_set (slice_set kept.links.items origin out1) k outk_after) origin out1_read →
          packets_to out2 k ≡ p ∷ packets_to out1_read k → ((j : ℕ) → j ≢ k → packets_to out2 j ≡ packets_to out1_read j) →
          (o j : ℕ) → packets_from (slice_get (slice_set (slice_set (slice_set kept.links.items origin out1) k outk_after) origin out2) o) j ≡ packets_from (slice_get kept.links.items o) j
      put_back_same outk outk_after out1_read out2 outk_read unsent read_again back others o j =
          put_at sending origin out1_read out2 again o j ∙ go (o == origin) refl (j == k) refl
        where
          taking : List Outgoing
          taking = slice_set kept.links.items origin out1

          sending : List Outgoing
          sending = slice_set taking k outk_after

          again : slice_get sending origin ≡ Some out1_read
          again = slice_get_read sending kept.count origin out1_read (sym (length-set taking k outk_after ∙ length-set kept.links.items origin out1 ∙ kept.links_count)) take_ends.origin_there read_again

          same_out : out1_read ≡ out1
          same_out =
              let there : Some out1_read ≡ Some out1 = sym again ∙ at_other taking k origin outk_after take_ends.other
              ∙ at_changed kept.links.items origin out1 (subst (λ (n : ℕ). origin < n) (sym kept.links_count) take_ends.origin_there) in cc

          at_origin : (i : ℕ) → (o == origin) ≡ true → packets_from (slice_get kept.links.items o) i ≡ packets_to out i
          at_origin i e = ap (λ g. packets_from g i) (ap (slice_get kept.links.items) (eqb-true o origin e) ∙ out_was)

          go : (t : Bool) → (o == origin) ≡ t → (s : Bool) → (j == k) ≡ s →
              (if t then packets_to out2 j else packets_from (slice_get sending o) j) ≡ packets_from (slice_get kept.links.items o) j
          go true e true f =
              ap (packets_to out2) (eqb-true j k f) ∙ back ∙ ap (λ l. p ∷ packets_to l k) same_out ∙ ap (λ l. p ∷ l) rest_is
              ∙ sym packets_first ∙ ap (packets_from (slice_get kept.links.items origin)) (sym (eqb-true j k f)) ∙ ap (λ i. packets_from (slice_get kept.links.items i) j) (sym (eqb-true o origin e))
          go true e false f = others j (differ j k f) ∙ ap (λ l. packets_to l j) same_out ∙ elsewhere j (differ j k f) ∙ sym (at_origin j e)
          go false e s f =
              sent_on taking k outk outk_after (λ i. []) (taker_links out1 outk outk_read) (λ i. unsent i ∙ sym (append-nil (packets_to outk i))) o j
              ∙ none (o == k) (packets_from (slice_get taking o) j)
              ∙ ap (λ g. packets_from g j) (at_other kept.links.items origin o out1 (differ o origin e))
            where
              none : (t : Bool) (l : List sent.Packet) → l ++ (if t then [] else []) ≡ l
              none true l = append-nil l
              none false l = append-nil l

      pub has_taken : (after_it : Kept) (v w : Nodelet) → slice_get kept.nodes.items k ≡ Some v → after_it.nodes.items ≡ slice_set kept.nodes.items k w → SameRun kept after_it →
          (outk outk_after : Outgoing) → outk ≡ get_or (slice_set kept.links.items origin out1) k outk → after_it.links.items ≡ slice_set (slice_set kept.links.items origin out1) k outk_after →
          HasTaken code v w (packets_to outk) (packets_to outk_after) origin p → HasAdvanced code kept after_it (Take origin k)
      has_taken after_it v w was nodes_are same outk outk_after outk_read links_are h =
          advanced code kept after_it k v w was nodes_are same left h.had.more
          (λ o j. sent_after code kept after_it k v w was nodes_are same (slice_set kept.links.items origin out1) outk outk_after (taker_links out1 outk outk_read) links_are h.had.more h.had.sent o j
          ∙ ap (λ l. l ++ (if o == k then h.had.more j else [])) (middle o j))
          h.outcome (merge.but_from origin (map (packet_in code) rest) (λ o. (core_in code kept).links o k)) (λ o. stays o (o == origin))
          (Take origin k) refl h.had.node h.had.entries h.had.told leaves
        where
          stays : (o : ℕ) (t : Bool) → map (packet_in code) (if t then rest else packets_from (slice_get kept.links.items o) k) ≡ (if t then map (packet_in code) rest else (core_in code kept).links o k)
          stays o true = refl
          stays o false = refl

          takes : take_at (machine_of (setup_in code kept)) k ((core_in code kept).nodes k) origin (packet_in code p) ≡ Some h.outcome
          takes =
              sym (ap (λ u. take_at (machine_of u) v.number (node_of code v) origin (packet_in code p)) (setup_there code kept k v was)
              ∙ ap (λ n. take_at (machine_of (setup_in code kept)) n (node_of code v) origin (packet_in code p)) ((numbered_there code kept k v was).number)
              ∙ ap (λ x. take_at (machine_of (setup_in code kept)) k x origin (packet_in code p)) (sym (node_there code kept k v was)))
              ∙ h.takes

          leaves : merge.after (machine_of (setup_in code kept)) (core_in code kept) (Take origin k)
              ≡ Some (merge.core_after (core_in code kept) k (merge.leaving (merge.but_from origin (map (packet_in code) rest) (λ o. (core_in code kept).links o k)) h.outcome))
          leaves =
              ap (λ t. option_map (merge.core_after (core_in code kept) k) (if t then merge.take_first (machine_of (setup_in code kept)) k ((core_in code kept).nodes k) origin (λ o. (core_in code kept).links o k) ((core_in code kept).links origin k) else None)) take_linked
              ∙ ap (λ l. option_map (merge.core_after (core_in code kept) k) (merge.take_first (machine_of (setup_in code kept)) k ((core_in code kept).nodes k) origin (λ o. (core_in code kept).links o k) l)) (ap (map (packet_in code)) packets_first)
              ∙ ap (λ o. option_map (merge.core_after (core_in code kept) k) (option_map (merge.leaving (merge.but_from origin (map (packet_in code) rest) (λ o. (core_in code kept).links o k))) o)) takes
