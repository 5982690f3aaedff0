-- The rank after an event, from what the event changes at its nodelet.
use Rattle.std.proofs.Common.{◌≡◌, ℕ, ◌+◌, ◌-◌, ◌*◌, ◌<◌, ◌≤◌, List, [], ◌∷◌, ◌++◌, map, refl, ap, ◌∙◌, arith, Bool, true, false}
use Rattle.std.specs.Prelude.{sum_by, if◌then◌else◌, ◌==◌, nat_lt}
use Rattle.std.proofs.lemmas.Bool.{eq-eqb}
use Rattle.std.proofs.lemmas.List.Sums.{sum_by-append, sum_by-cons}
use Rattle.word_ops.specs.declared.step.NodeEvent.{NodeEvent}
use Rattle.merge_law.specs.Machine.{Raw, is_linked, stamped}
use Rattle.merge_law.specs.Core.{Advance, leaving, but_from, core_after}
use Rattle.core_model.specs.Contexts.{Body}
use Rattle.core_model.specs.Nodes.{Setup, Node}
use Rattle.core_model.specs.Effects.{nothing, only_to, to_all}
use Rattle.core_model.specs.Machine.{Packet, packet_of, machine_of}
use Rattle.core_model.specs.Core.{Core}
use Rattle.core_model.specs.Rank.{context_rank, body_rank, turn_weight, node_rank, rank}
use Rattle.core_model.proofs.Invariant.Sums.{total, total-sum, total-zero, total-one}
use Rattle.core_model.proofs.Rank.Sums.{sum-below, total-below, total-each, total-one_most, total-alone}
use Rattle.core_model.proofs.Invariant.Views.{after_run, after_take}

-- ---- what counts at a nodelet

-- its turns and strands
abbrev pub own : Setup → ℕ → Node → ℕ
own u k v = turn_weight u * (u.turns - v.served) + sum_by (context_rank u k) v.contexts

-- packets to it
abbrev pub load : Setup → ℕ → List Packet → ℕ
load u k ps = sum_by (λ p. body_rank u k p.body) ps

-- packets to it on all links
abbrev pub loads : Setup → ℕ → (ℕ → List Packet) → ℕ
loads u k links = total u.nodelets (λ o. load u k (links o))

-- what an event sends
abbrev pub carried : Setup → (ℕ → List Body) → ℕ
carried u bodies = total u.nodelets (λ j. sum_by (body_rank u j) (bodies j))

module _ (u : Setup) where
  load-append : (k : ℕ) (xs ys : List Packet) → load u k (xs ++ ys) ≡ load u k xs + load u k ys
  load-append k xs ys = sum_by-append (λ p. body_rank u k p.body) xs ys

  node_is : (c : Core) (k : ℕ) → node_rank u c k ≡ own u k (c.nodes k) + loads u k (λ o. c.links o k)
  node_is c k = ap (λ s. own u k (c.nodes k) + s) (sum-below (λ o. load u k (c.links o k)) u.nodelets)

  -- packets that are sent along one link count at its end
  more_loads : (k : ℕ) (links : ℕ → List Packet) (j : ℕ) (sent : List Packet) → loads u j (λ o. links o ++ (if o == k then sent else [])) ≤ loads u j links + load u j sent
  more_loads k links j sent =
      let both = total-sum u.nodelets (λ o. load u j (links o)) more in
      let parts = total-below u.nodelets (λ o. load u j (links o ++ (if o == k then sent else []))) (λ o. load u j (links o) + more o) (λ o less. each o) in
      let alone = total-alone u.nodelets k more (λ o ne. ap (λ t. load u j (if t then sent else [])) ne) in
      let here : more k ≡ load u j sent = ap (λ t. load u j (if t then sent else [])) (eq-eqb k k refl) in
      omega arith
    where
      more : ℕ → ℕ
      more o = load u j (if o == k then sent else [])

      each : (o : ℕ) → load u j (links o ++ (if o == k then sent else [])) ≤ load u j (links o) + load u j (if o == k then sent else [])
      each o = let e = load-append j (links o) (if o == k then sent else []) in omega arith

  module _ (c : Core) (k : ℕ) (inside : k < u.nodelets) (advance : Advance Node Packet) where
    abbrev after : Core
    after = (core_after c k advance).core

    abbrev sends : ℕ → ℕ
    sends j = load u j (advance.outcome.sent j)

    node_after : (j : ℕ) (t : Bool) → (j == k) ≡ t → node_rank u after j ≤ (if t then own u j advance.outcome.node + loads u j advance.left else node_rank u c j) + sends j
    node_after j true e =
        let is = node_is after j in
        let node : own u j (after.nodes j) ≡ own u j advance.outcome.node = ap (λ t. own u j (if t then advance.outcome.node else c.nodes j)) e in
        let links : loads u j (λ o. after.links o j) ≡ loads u j (λ o. advance.left o ++ (if o == k then advance.outcome.sent j else [])) =
        ap (λ t. loads u j (λ o. (if t then advance.left o else c.links o j) ++ (if o == k then advance.outcome.sent j else []))) e in
        let more = more_loads k advance.left j (advance.outcome.sent j) in omega arith
    node_after j false e =
        let is = node_is after j in
        let was = node_is c j in
        let node : own u j (after.nodes j) ≡ own u j (c.nodes j) = ap (λ t. own u j (if t then advance.outcome.node else c.nodes j)) e in
        let links : loads u j (λ o. after.links o j) ≡ loads u j (λ o. c.links o j ++ (if o == k then advance.outcome.sent j else [])) =
        ap (λ t. loads u j (λ o. (if t then advance.left o else c.links o j) ++ (if o == k then advance.outcome.sent j else []))) e in
        let more = more_loads k (λ o. c.links o j) j (advance.outcome.sent j) in omega arith

    -- what the nodelet has less the core has less, but for what is sent
    pub rank-after : rank u after + (own u k (c.nodes k) + loads u k (λ o. c.links o k)) ≤ rank u c + (total u.nodelets sends + (own u k advance.outcome.node + loads u k advance.left))
    rank-after =
        let one = total-one_most u.nodelets (λ j. node_rank u c j + sends j) (node_rank u after) k inside (λ j ne. node_after j false ne) in
        let here : node_rank u after k ≤ own u k advance.outcome.node + loads u k advance.left + sends k = node_after k true (eq-eqb k k refl) in
        let was = node_is c k in
        let both = total-sum u.nodelets (node_rank u c) sends in
        let all = sum-below (node_rank u c) u.nodelets in
        let all' = sum-below (node_rank u after) u.nodelets in
        omega arith

  -- ---- events

  load-packets : (j stamp : ℕ) (bodies : List Body) → load u j (map (packet_of stamp) bodies) ≡ sum_by (body_rank u j) bodies
  load-packets j stamp [] = refl
  load-packets j stamp (b ∷ bs) =
      let ih = load-packets j stamp bs in
      let e = sum_by-cons (λ (p : Packet). body_rank u j p.body) (packet_of stamp b) (map (packet_of stamp) bs) in
      let d = sum_by-cons (body_rank u j) b bs in omega arith

  module _ (c : Core) (k : ℕ) (inside : k < u.nodelets) (stamp : ℕ) (event : ℕ → NodeEvent) (raw : Raw Node Body) where
    abbrev out : ℕ → List Packet
    out = (stamped (machine_of u) k stamp event raw).sent

    sent_most : total u.nodelets (λ j. load u j (out j)) ≤ carried u raw.bodies
    sent_most = total-below u.nodelets (λ j. load u j (out j)) (λ j. sum_by (body_rank u j) (raw.bodies j)) (λ j less. go j (is_linked u.nodelets k j))
      where
        go : (j : ℕ) (t : Bool) → load u j (if t then map (packet_of stamp) (raw.bodies j) else []) ≤ sum_by (body_rank u j) (raw.bodies j)
        go j true = let e = load-packets j stamp (raw.bodies j) in omega arith
        go j false = omega arith

    -- a run lowers the rank where its nodelet has less, what it sends included
    pub run_lowers : own u k raw.node + carried u raw.bodies < own u k (c.nodes k) → rank u (after_run u c k stamp event raw) < rank u c
    run_lowers less =
        let balance = rank-after c k inside (leaving (λ o. c.links o k) (stamped (machine_of u) k stamp event raw)) in
        let most = sent_most in
        let node : own u k (stamped (machine_of u) k stamp event raw).node ≡ own u k raw.node = refl in
        omega arith

    -- and a take, where the packet counts before it
    pub take_lowers : (origin : ℕ) → origin < u.nodelets → (first : Packet) (rest : List Packet) → c.links origin k ≡ first ∷ rest →
        own u k raw.node + carried u raw.bodies < own u k (c.nodes k) + body_rank u k first.body → rank u (after_take u c origin k rest stamp event raw) < rank u c
    take_lowers origin there first rest is less =
        let balance = rank-after c k inside (leaving (but_from origin rest (λ a. c.links a k)) (stamped (machine_of u) k stamp event raw)) in
        let most = sent_most in
        let node : own u k (stamped (machine_of u) k stamp event raw).node ≡ own u k raw.node = refl in
        let one = total-one u.nodelets (λ o. load u k (c.links o k)) (λ o. load u k (but_from origin rest (λ a. c.links a k) o)) origin there
        (λ o ne. ap (λ t. load u k (if t then rest else c.links o k)) ne) in
        let left : load u k (but_from origin rest (λ a. c.links a k) origin) ≡ load u k rest = ap (λ t. load u k (if t then rest else c.links origin k)) (eq-eqb origin origin refl) in
        let taken : load u k (c.links origin k) ≡ body_rank u k first.body + load u k rest = ap (load u k) is ∙ sum_by-cons (λ (p : Packet). body_rank u k p.body) first rest in
        omega arith

  -- ---- what is sent

  pub carried-nothing : carried u nothing ≡ 0
  carried-nothing = total-zero u.nodelets (λ j. sum_by (body_rank u j) []) (λ j. refl)

  pub carried-only : (to : ℕ) (body : Body) → carried u (only_to to body) ≤ body_rank u to body
  carried-only to body =
      let alone = total-alone u.nodelets to (λ j. sum_by (body_rank u j) (only_to to body j)) (λ j ne. ap (λ t. sum_by (body_rank u j) (if t then body ∷ [] else [])) ne) in
      let here : sum_by (body_rank u to) (only_to to body to) ≡ sum_by (body_rank u to) (body ∷ []) = ap (λ t. sum_by (body_rank u to) (if t then body ∷ [] else [])) (eq-eqb to to refl) in
      let one = sum_by-cons (body_rank u to) body [] in omega arith

  -- the same to each nodelet
  pub carried-all : (m : ℕ) (body : Body) → ((j : ℕ) → body_rank u j body ≡ m) → carried u (to_all u.nodelets body) ≤ u.nodelets * m
  carried-all m body same = total-each u.nodelets m (λ j. sum_by (body_rank u j) (to_all u.nodelets body j)) (λ j. go j (nat_lt j u.nodelets))
    where
      go : (j : ℕ) (t : Bool) → sum_by (body_rank u j) (if t then body ∷ [] else []) ≤ m
      go j true = let one = sum_by-cons (body_rank u j) body [] in let is = same j in omega arith
      go j false = omega arith
