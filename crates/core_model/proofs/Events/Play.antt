-- Every legal event keeps the invariant, and so do events one after the other.
use Rattle.std.proofs.Common.{◌≡◌, ℕ, ◌<◌, ◌≤◌, List, [], ◌∷◌, Option, Some, None, refl, ap, ◌∙◌, subst, arith, Bool, true, false, ◌&&◌, not, nat_lt, option_map, option_and_then}
use Rattle.std.specs.Prelude.{◌==◌}
use Rattle.std.proofs.lemmas.Bool.Decides.{nat_tests}
use Rattle.word_ops.specs.declared.step.Step.{Step}
use Rattle.word_ops.specs.declared.step.NodeEvent.{NodeEvent}
use Rattle.word_ops.specs.declared.step.NodeEvent.TheVariants as node
use Rattle.merge_law.specs.declared.event.Event.{Event}
use Rattle.merge_law.specs.declared.event.Event.TheVariants.{Run, Take}
use Rattle.merge_law.specs.Machine.{is_linked}
use Rattle.merge_law.specs.Core.{After, Played, after, told_first, play}
use Rattle.merge_law.specs.Merge.{steps_of}
use Rattle.merge_law.proofs.Somes.{from_map, from_then, some_is, swapped}
use Rattle.world_model.specs.World.{Operation, Grant, World}
use Rattle.world_model.specs.Run.{run_from}
use Rattle.threadlet_code.specs.Breaches.{is_sound}
use Rattle.core_model.specs.Contexts.{Body, Arrival, Issued, Ack, Returned}
use Rattle.core_model.specs.Nodes.{Setup, Node}
use Rattle.core_model.specs.Takes.{take}
use Rattle.core_model.specs.Machine.{Packet, packet_of, machine_of}
use Rattle.core_model.specs.Core.{Core, setting_of}
use Rattle.core_model.proofs.Invariant.Links.{with_first}
use Rattle.core_model.proofs.Invariant.Views.{after_take}
use Rattle.core_model.proofs.Events.LegalEvent.{run_stamp, HasRun, take_stamp, HasTaken, happened}
use Rattle.core_model.proofs.Invariant.Statement.{Invariant}
use Rattle.core_model.proofs.Invariant.OtherStrands.{Kept, stepped}
use Rattle.core_model.proofs.Events.Run.{run_kept}
use Rattle.core_model.proofs.Events.TakeContext.{arrival_kept}
use Rattle.core_model.proofs.Events.TakeOperation.{grant_kept, operation_kept}
use Rattle.core_model.proofs.Events.TakeAcknowledgement.{ack_kept}
use Rattle.core_model.proofs.Events.TakeResult.{return_kept}

-- both ends of a link are nodelets, and there is one back
pub record Linked (n from k : ℕ) : Type 0 where
  pub inside : k < n
  pub back : is_linked n k from ≡ true

pub linked_is : (n from k : ℕ) → is_linked n from k ≡ true → Linked n from k
linked_is n from k e = go (nat_lt from n) refl (nat_lt k n) refl (from == k) refl e
  where
    go : (r : Bool) → nat_lt from n ≡ r → (s : Bool) → nat_lt k n ≡ s → (t : Bool) → (from == k) ≡ t → (r && s && not t) ≡ true → Linked n from k
    go true f true g false h i = let z : (k == from) ≡ false = swapped k from h in record { inside = grind (arith, nat_tests); back = rw (g, f, z) refl }
    go true f true g true h i = absurd cc
    go true f false g t h i = absurd cc
    go false f s g t h i = absurd cc

module _ (u : Setup) (sound : is_sound u.code ≡ true) (some : 1 ≤ u.nodelets) where
  abbrev KeptAfter : World → After Node Packet → Type 0
  KeptAfter w a = Kept u w a.core a.entry.entry.step

  -- a packet is taken
  take_kept : (c : Core) (w : World) → Invariant u c w → (from k : ℕ) → is_linked u.nodelets from k ≡ true → (stamp sent_at : ℕ) (body : Body) (left : List Packet) → c.links from k ≡ packet_of sent_at body ∷ left →
      (event : ℕ → NodeEvent) → Kept u w (after_take u c from k left stamp event (take u k (c.nodes k) from body)) (take u k (c.nodes k) from body).step
  take_kept c w inv from k linked stamp sent_at (Arrival x) left first event = arrival_kept u c w inv from k stamp event sent_at x left first
  take_kept c w inv from k linked stamp sent_at (Ack q late) left first event = ack_kept u c w inv from k stamp event sent_at q late left first
  take_kept c w inv from k linked stamp sent_at (Returned t value) left first event = return_kept u c w inv from k stamp event sent_at t value left first
  take_kept c w inv from k linked stamp sent_at (Issued q (Grant extent)) left first event =
      let l = linked_is u.nodelets from k linked in grant_kept u c w inv from k l.back l.inside some stamp event sent_at q left extent first
  take_kept c w inv from k linked stamp sent_at (Issued q (Operation op a word at)) left first event =
      let l = linked_is u.nodelets from k linked in operation_kept u c w inv from k l.back l.inside some stamp event sent_at q left op a word at first

  pub event_kept : (c : Core) (w : World) → Invariant u c w → (event : Event) (a : After Node Packet) → after (machine_of u) c event ≡ Some a → KeptAfter w a
  event_kept c w inv (Run k q) a e =
      let h : HasRun u c k q a = happened u c (Run k q) a e in
      subst (λ (y : After Node Packet). KeptAfter w y) h.is
      (run_kept u sound c w inv k h.inside q some (run_stamp c k) (λ count. node.Run q count) h.raw h.made)
  event_kept c w inv (Take from k) a e =
      let h : HasTaken u c from k a = happened u c (Take from k) a e in
      subst (λ (y : After Node Packet). KeptAfter w y) h.is
      (take_kept c w inv from k h.linked (take_stamp c k h.packet) h.packet.stamp h.packet.body h.rest h.first (λ _. node.Take from))

  -- ---- events that follow each other

  pub record KeptBy (w : World) (played : Played Node Packet) : Type 0 where
    pub world : World
    pub leads : run_from (setting_of u) w (steps_of played.told) ≡ Some world
    pub holds : Invariant u played.core world

  first_step : (w v : World) (a : After Node Packet) (rest : Played Node Packet) → stepped u w a.entry.entry.step ≡ Some v → KeptBy v rest → KeptBy w (told_first a.entry rest)
  first_step w v a rest e kept = go a.entry.entry.step refl e
    where
      go : (o : Option Step) → a.entry.entry.step ≡ o → stepped u w o ≡ Some v → KeptBy w (told_first a.entry rest)
      go None f g = record {
        world = kept.world;
        leads = ap (λ o. run_from (setting_of u) w (with_first o (steps_of rest.told))) f
            ∙ subst (λ (y : World). run_from (setting_of u) y (steps_of rest.told) ≡ Some kept.world) (let z : v ≡ w = cc in z) kept.leads;
        holds = kept.holds;
      }
      go (Some t) f g = record {
        world = kept.world;
        leads = ap (λ o. run_from (setting_of u) w (with_first o (steps_of rest.told))) f
            ∙ ap (option_and_then (λ y. run_from (setting_of u) y (steps_of rest.told))) g ∙ kept.leads;
        holds = kept.holds;
      }

  pub play_kept : (events : List Event) (c : Core) (w : World) (played : Played Node Packet) → Invariant u c w → play (machine_of u) events c ≡ Some played → KeptBy w played
  play_kept [] c w played inv e = subst (λ (y : Played Node Packet). KeptBy w y) (some_is _ _ e) (record { world = w; leads = refl; holds = inv })
  play_kept (event ∷ events) c w played inv e =
      let first = from_then (λ (a : After Node Packet). option_map (told_first a.entry) (play (machine_of u) events a.core)) (after (machine_of u) c event) played e in
      let rest = from_map (told_first first.value.entry) (play (machine_of u) events first.value.core) played first.next in
      let kept = event_kept c w inv event first.value first.was in
      subst (λ (y : Played Node Packet). KeptBy w y) rest.is
      (first_step w kept.world first.value rest.value kept.leads (play_kept events first.value.core kept.world rest.value kept.holds rest.was))
