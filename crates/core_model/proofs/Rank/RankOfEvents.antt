-- Each legal event lowers the rank.
use Rattle.std.proofs.Common.{◌≡◌, ℕ, suc, ◌+◌, ◌-◌, ◌*◌, ◌<◌, ◌≤◌, Option, Some, None, refl, ap, ◌∙◌, subst, arith, Bool, true, false}
use Rattle.std.specs.Prelude.{sum_by, if◌then◌else◌}
use Rattle.word_ops.specs.declared.place.Pos.{Pos}
use Rattle.word_ops.specs.declared.name.Name.{Name}
use Rattle.word_ops.specs.declared.step.NodeEvent.TheVariants as node
use Rattle.merge_law.specs.declared.event.Event.{Event}
use Rattle.merge_law.specs.declared.event.Event.TheVariants.{Run, Take}
use Rattle.merge_law.specs.Core.{After}
use Rattle.world_model.specs.World.{Item, Operation, Grant}
use Rattle.threadlet_code.specs.Breaches.{is_sound}
use Rattle.core_model.specs.Contexts.{Context, Body, Arrival, Issued, Ack, Returned, with_context, context_of}
use Rattle.core_model.specs.Nodes.{Setup, Node, is_granted, with_acknowledged, applied_here}
use Rattle.core_model.specs.Effects.{nothing, only_to, operated}
use Rattle.core_model.specs.Takes.{with_item, late_of, made_late, take}
use Rattle.core_model.specs.Machine.{Packet}
use Rattle.core_model.specs.Core.{Core}
use Rattle.core_model.specs.Laws.{EventsLowerRank}
use Rattle.core_model.specs.Rank.{context_rank, body_rank, turn_weight, rank}
use Rattle.core_model.proofs.Invariant.ContextsByName.{context_of-name}
use Rattle.core_model.proofs.Events.Play.{linked_is}
use Rattle.core_model.proofs.Census.ContextOrder.{Ascending}
use Rattle.core_model.proofs.Census.OrderKept.{AreInOrder, contexts_in_order}
use Rattle.core_model.proofs.Events.LegalEvent.{run_stamp, HasRun, take_stamp, taken, HasTaken, Happened, happened}
use Rattle.core_model.proofs.Rank.Sums.{sum-with, sum-in_place}
use Rattle.core_model.proofs.Rank.Balance.{own, carried, run_lowers, take_lowers, carried-nothing, carried-only}
use Rattle.core_model.proofs.Rank.RankOfRuns.{ran_lowers}

-- ---- a packet is taken

module _ (u : Setup) (k : ℕ) (v : Node) where
  abbrev ranked : Context → ℕ
  ranked = context_rank u k

  -- the same turns and strands count the same
  own_same : (v' : Node) → v'.contexts ≡ v.contexts → v'.served ≡ v.served → own u k v' ≡ own u k v
  own_same v' e f = ap (λ l. turn_weight u * (u.turns - v'.served) + sum_by ranked l) e ∙ ap (λ s. turn_weight u * (u.turns - s) + sum_by ranked v.contexts) f

  item_contexts : (item : Item) → ((with_item u v item).contexts ≡ v.contexts) × ((with_item u v item).served ≡ v.served)
  item_contexts (Grant extent) = (refl, refl)
  item_contexts (Operation op a word at) = go (is_granted u.rules v a)
    where
      go : (t : Bool) → ((if t then operated v op a word else applied_here v).contexts ≡ v.contexts) × ((if t then operated v op a word else applied_here v).served ≡ v.served)
      go true = (refl, refl)
      go false = (refl, refl)

  late_lowers : Ascending v.contexts → (name : Name) (at : Pos) (o : Option Context) → context_of name v.contexts ≡ o → own u k (made_late (with_acknowledged v name) at o) ≤ own u k v
  late_lowers up name at None e = let same : own u k (with_acknowledged v name) ≡ own u k v = refl in omega arith
  late_lowers up name at (Some x) e =
      let named : x.name ≡ name = context_of-name name v.contexts x e in
      let place : sum_by ranked (made_late (with_acknowledged v name) at (Some x)).contexts + ranked x ≡ ranked x + sum_by ranked v.contexts =
      sum-in_place ranked _ v.contexts x up (ap (λ n. context_of n v.contexts) named ∙ e) in
      ends (turn_weight u * (u.turns - v.served)) (sum_by ranked (made_late (with_acknowledged v name) at (Some x)).contexts) (sum_by ranked v.contexts) (ranked x) place
    where
      ends : (t s s' r : ℕ) → s + r ≡ r + s' → t + s ≤ t + s'
      ends t s s' r e1 = omega arith

  take_lowers_own : Ascending v.contexts → (origin : ℕ) (body : Body) → own u k (take u k v origin body).node + carried u (take u k v origin body).bodies < own u k v + body_rank u k body
  take_lowers_own up origin (Arrival x) =
      let none = carried-nothing u in
      let more = sum-with ranked x v.contexts in
      ends (turn_weight u * (u.turns - v.served)) (sum_by ranked (with_context x v.contexts)) (sum_by ranked v.contexts) (ranked x) (carried u nothing) more none
    where
      ends : (t s s' r c : ℕ) → s ≤ r + s' → c ≡ 0 → t + s + c < t + s' + suc r
      ends t s s' r c e1 e2 = omega arith
  take_lowers_own up origin (Issued name item) =
      let same = own_same (with_item u v item) (item_contexts item).0 (item_contexts item).1 in
      let one : carried u (only_to origin (Ack name (late_of u v item))) ≤ 1 = carried-only u origin (Ack name (late_of u v item)) in
      ends (own u k (with_item u v item)) (own u k v) (carried u (only_to origin (Ack name (late_of u v item)))) same one
    where
      ends : (a b c : ℕ) → a ≡ b → c ≤ 1 → a + c < b + 2
      ends a b c e1 e2 = omega arith
  take_lowers_own up origin (Ack name None) = let none = carried-nothing u in ends (own u k v) (carried u nothing) none
    where
      ends : (a c : ℕ) → c ≡ 0 → a + c < a + 1
      ends a c e1 = omega arith
  take_lowers_own up origin (Ack name (Some at)) =
      let none = carried-nothing u in
      let most = late_lowers up name at (context_of name v.contexts) refl in
      ends (own u k (made_late (with_acknowledged v name) at (context_of name v.contexts))) (own u k v) (carried u nothing) most none
    where
      ends : (a b c : ℕ) → a ≤ b → c ≡ 0 → a + c < b + 1
      ends a b c e1 e2 = omega arith
  take_lowers_own up origin (Returned t value) = let none = carried-nothing u in ends (own u k v) (carried u nothing) none
    where
      ends : (a c : ℕ) → c ≡ 0 → a + c < a + 1
      ends a c e1 = omega arith

-- ---- events

module _ (u : Setup) (sound : is_sound u.code ≡ true) (c : Core) (ordered : AreInOrder c) where
  abbrev Falls : After Node Packet → Type 0
  Falls a = rank u a.core < rank u c

  run_falls : (k : ℕ) (q : Name) (a : After Node Packet) → HasRun u c k q a → Falls a
  run_falls k q a r = subst (λ (y : After Node Packet). Falls y) r.is
      (run_lowers u c k r.inside (run_stamp c k) (λ count. node.Run q count) r.raw (ran_lowers u sound k (c.nodes k) (ordered k) q r.raw r.made))

  take_falls : (from k : ℕ) (a : After Node Packet) → HasTaken u c from k a → Falls a
  take_falls from k a t =
      let there = linked_is u.nodelets from k t.linked in
      let origin = linked_is u.nodelets k from there.back in
      subst (λ (y : After Node Packet). Falls y) t.is
      (take_lowers u c k there.inside (take_stamp c k t.packet) (λ _. node.Take from) (taken u c from k t.packet) from origin.inside t.packet t.rest t.first
      (take_lowers_own u k (c.nodes k) (ordered k) from t.packet.body))

  pub event_falls : (event : Event) (a : After Node Packet) → Happened u c event a → Falls a
  event_falls (Run k q) a r = run_falls k q a r
  event_falls (Take from k) a t = take_falls from k a t

pub events_lower_rank : EventsLowerRank
events_lower_rank u sound some events played is event left e =
    event_falls u sound played.core (contexts_in_order u events played is) event left (happened u played.core event left e)
