-- The nodelets have counted the traffic of the run.
use Rattle.std.proofs.Common.{◌≡◌, ℕ, ◌+◌, ◌≤◌, List, [], ◌∷◌, Some, refl, sym, ap, ◌∙◌, subst, arith, Bool, true, false, count_by}
use Rattle.std.specs.Prelude.{if◌then◌else◌, ◌==◌}
use Rattle.std.specs.Option.{option_map_or}
use Rattle.std.proofs.lemmas.Bool.{eqb-true}
use Rattle.word_ops.specs.declared.step.NodeEvent.TheVariants as node
use Rattle.merge_law.specs.declared.event.Event.{Event}
use Rattle.merge_law.specs.declared.event.Event.TheVariants.{Run, Take}
use Rattle.merge_law.specs.Machine.{is_linked}
use Rattle.merge_law.specs.Core.{After, after}
use Rattle.world_model.specs.World.{Item, Operation, Grant, Strand, World, strand_of}
use Rattle.world_model.specs.Laws.{NamesDiffer}
use Rattle.world_model.specs.Traffic.{moves_in, operations_of}
use Rattle.threadlet_code.specs.Breaches.{is_sound}
use Rattle.core_model.specs.Contexts.{Body, Arrival, Issued, Ack, Returned}
use Rattle.core_model.specs.Nodes.{Setup, Node}
use Rattle.core_model.specs.Takes.{take}
use Rattle.core_model.specs.Machine.{Packet, packet_of, machine_of}
use Rattle.core_model.specs.Core.{Core, setting_of}
use Rattle.core_model.specs.Reached.{stepped}
use Rattle.core_model.proofs.Invariant.Statement.{Invariant}
use Rattle.core_model.proofs.Invariant.Links.{parts}
use Rattle.core_model.proofs.Invariant.Views.{view, item_of}
use Rattle.core_model.proofs.Events.TakeItem.{HasItem, the_item}
use Rattle.core_model.proofs.Events.LegalEvent.{run_stamp, HasRun, take_stamp, taken, HasTaken, happened}
use Rattle.core_model.proofs.Events.Play.{Linked, linked_is}
use Rattle.core_model.proofs.Traffic.Notes.{is_pair, is_number}
use Rattle.core_model.proofs.Traffic.TakeNotes.{worked_by, take_notes}
use Rattle.core_model.proofs.Traffic.StepCounts.{AreAt, nothing_at, worked_at}
use Rattle.core_model.proofs.Traffic.EventCounts.{births_told, posts_told, dones_told, turns_told, applied_told, lists, counted_as, Counts}
use Rattle.core_model.proofs.Traffic.RunCounts.{run_counts}
use Rattle.core_model.proofs.Traffic.CountsByPlay.{told_of, Adds}

-- ---- takes

module _ (u : Setup) (some : 1 ≤ u.nodelets) (c : Core) (w : World) (inv : Invariant u c w) (from k : ℕ) (linked : is_linked u.nodelets from k ≡ true) (stamp : ℕ) where
  counted_take : (body : Body) → Counts k (c.nodes k) (take u k (c.nodes k) from body).node (lists [] [] [] [] [] (worked_by k body))
  counted_take body = record { upto = (take u k (c.nodes k) from body).node; tallies = refl; served = refl; notes = take_notes u k (c.nodes k) from body; here = at body }
    where
      at : (b : Body) → AreAt k [] [] [] [] [] (worked_by k b)
      at (Arrival x) = nothing_at k
      at (Issued q (Operation op a word p)) = worked_at k
      at (Issued q (Grant extent)) = nothing_at k
      at (Ack q late) = nothing_at k
      at (Returned t value) = nothing_at k

  -- what is taken is what its strand has first pending here
  worked_is : (w' : World) (sent_at : ℕ) (body : Body) (left : List Packet) → c.links from k ≡ packet_of sent_at body ∷ left → told_of (applied_told u w w') (take u k (c.nodes k) from body).step ≡ worked_by k body
  worked_is w' sent_at (Arrival x) left first = refl
  worked_is w' sent_at (Ack q late) left first = refl
  worked_is w' sent_at (Returned t value) left first = refl
  worked_is w' sent_at (Issued q item) left first =
      ap (λ o. option_map_or (λ (s : Strand). operations_of k (s.pending k)) o []) h.known ∙ ap (operations_of k) h.pending ∙ by item
    where
      l : Linked u.nodelets from k
      l = linked_is u.nodelets from k linked

      h : HasItem u inv.tickets (view c q) q (strand_of w q) from k item (parts (item_of q) left)
      h = the_item u c w inv from k l.back l.inside some stamp (λ _. node.Take from) sent_at q item left first

      by : (i : Item) → operations_of k (i ∷ parts (item_of q) left) ≡ worked_by k (Issued q i)
      by (Operation op a word p) = refl
      by (Grant extent) = refl

  take_counts : (w' : World) (p : Packet) (left : List Packet) → c.links from k ≡ p ∷ left → Counts k (c.nodes k) (take u k (c.nodes k) from p.body).node (counted_as u w w' (take u k (c.nodes k) from p.body).step)
  take_counts w' p left first = by p.body first (counted_take p.body)
    where
      by : (body : Body) → c.links from k ≡ packet_of p.stamp body ∷ left → Counts k (c.nodes k) (take u k (c.nodes k) from body).node (lists [] [] [] [] [] (worked_by k body)) →
          Counts k (c.nodes k) (take u k (c.nodes k) from body).node (counted_as u w w' (take u k (c.nodes k) from body).step)
      by (Arrival x) f h = h
      by (Ack q late) f h = h
      by (Returned t value) f h = h
      by (Issued q item) f h = subst (λ rs. Counts k (c.nodes k) (take u k (c.nodes k) from (Issued q item)).node (lists [] [] [] [] [] rs)) (sym (worked_is w' p.stamp (Issued q item) left f)) h

-- ---- events

-- an event changes one nodelet, which counts what its step counts as
record CountsEvent (u : Setup) (c : Core) (w w' : World) (a : After Node Packet) : Type 0 where
  pub at : ℕ
  pub left : Node
  pub is : (j : ℕ) → a.core.nodes j ≡ (if j == at then left else c.nodes j)
  pub counts : Counts at (c.nodes at) left (counted_as u w w' a.entry.entry.step)

module _ (u : Setup) (sound : is_sound u.code ≡ true) (some : 1 ≤ u.nodelets) where
  event_counts : (c : Core) (w : World) → Invariant u c w → NamesDiffer w.strands → (event : Event) (a : After Node Packet) → after (machine_of u) c event ≡ Some a →
      (w' : World) → stepped (setting_of u) w a.entry.entry.step ≡ Some w' → Invariant u a.core w' → CountsEvent u c w w' a
  event_counts c w inv names (Run k q) a e = subst (λ (y : After Node Packet). (w' : World) → stepped (setting_of u) w y.entry.entry.step ≡ Some w' → Invariant u y.core w' → CountsEvent u c w w' y) h.is
      (λ w' leads now.
      let counts = run_counts u sound some c w inv k h.inside q names h.raw h.made w' leads now in
      record {
        at = k;
        left = record h.raw.node { stamp = run_stamp c k };
        is = λ j. refl;
        counts = record { upto = counts.upto; tallies = counts.tallies; served = counts.served; notes = counts.notes; here = counts.here };
      })
    where
      h : HasRun u c k q a
      h = happened u c (Run k q) a e
  event_counts c w inv names (Take from k) a e = subst (λ (y : After Node Packet). (w' : World) → stepped (setting_of u) w y.entry.entry.step ≡ Some w' → Invariant u y.core w' → CountsEvent u c w w' y) h.is
      (λ w' leads now.
      let counts = take_counts u some c w inv from k h.linked (take_stamp c k h.packet) w' h.packet h.rest h.first in
      record {
        at = k;
        left = record (taken u c from k h.packet).node { stamp = take_stamp c k h.packet };
        is = λ j. refl;
        counts = record { upto = counts.upto; tallies = counts.tallies; served = counts.served; notes = counts.notes; here = counts.here };
      })
    where
      h : HasTaken u c from k a
      h = happened u c (Take from k) a e

  -- what is counted at nodelet j
  added : {A : Type 0} (f : Node → ℕ) (j : ℕ) (p : A → Bool) (l : List A) (c : Core) (w w' : World) (a : After Node Packet) (h : CountsEvent u c w w' a) →
      (j ≡ h.at → f h.left ≡ f (c.nodes j) + count_by p l) → ((j == h.at) ≡ false → count_by p l ≡ 0) → f (a.core.nodes j) ≡ f (c.nodes j) + count_by p l
  added f j p l c w w' a h same other = ap f (h.is j) ∙ go (j == h.at) refl
    where
      go : (t : Bool) → (j == h.at) ≡ t → f (if t then h.left else c.nodes j) ≡ f (c.nodes j) + count_by p l
      go true e = same (eqb-true _ _ e)
      go false e = let z = other e in omega arith

  pub moves_add : (i j : ℕ) → Adds u sound some (λ (v : Node). v.tallies.moves i) j moves_in (is_pair i j)
  moves_add i j c w inv names event a e w' leads now =
      let h = event_counts c w inv names event a e w' leads now in
      added (λ (v : Node). v.tallies.moves i) j (is_pair i j) (told_of (moves_in w w') a.entry.entry.step) c w w' a h
      (λ is. subst (λ m. h.left.tallies.moves i ≡ (c.nodes m).tallies.moves i + count_by (is_pair i m) (told_of (moves_in w w') a.entry.entry.step)) (sym is) (ap (λ t. t.moves i) h.counts.tallies ∙ h.counts.notes.moved i))
      (λ ne. h.counts.here.moved i j ne)

  pub births_add : (i j : ℕ) → Adds u sound some (λ (v : Node). v.tallies.births j) i (births_told u) (is_pair i j)
  births_add i j c w inv names event a e w' leads now =
      let h = event_counts c w inv names event a e w' leads now in
      added (λ (v : Node). v.tallies.births j) i (is_pair i j) (told_of (births_told u w w') a.entry.entry.step) c w w' a h
      (λ is. subst (λ m. h.left.tallies.births j ≡ (c.nodes m).tallies.births j + count_by (is_pair m j) (told_of (births_told u w w') a.entry.entry.step)) (sym is) (ap (λ t. t.births j) h.counts.tallies ∙ h.counts.notes.bore j))
      (λ ne. h.counts.here.bore i j ne)

  pub posts_add : (i j : ℕ) → Adds u sound some (λ (v : Node). v.tallies.posts j) i (posts_told u) (is_pair i j)
  posts_add i j c w inv names event a e w' leads now =
      let h = event_counts c w inv names event a e w' leads now in
      added (λ (v : Node). v.tallies.posts j) i (is_pair i j) (told_of (posts_told u w w') a.entry.entry.step) c w w' a h
      (λ is. subst (λ m. h.left.tallies.posts j ≡ (c.nodes m).tallies.posts j + count_by (is_pair m j) (told_of (posts_told u w w') a.entry.entry.step)) (sym is) (ap (λ t. t.posts j) h.counts.tallies ∙ h.counts.notes.posted j))
      (λ ne. h.counts.here.posted i j ne)

  pub dones_add : (i j : ℕ) → Adds u sound some (λ (v : Node). v.tallies.dones j) i (dones_told u) (is_pair i j)
  dones_add i j c w inv names event a e w' leads now =
      let h = event_counts c w inv names event a e w' leads now in
      added (λ (v : Node). v.tallies.dones j) i (is_pair i j) (told_of (dones_told u w w') a.entry.entry.step) c w w' a h
      (λ is. subst (λ m. h.left.tallies.dones j ≡ (c.nodes m).tallies.dones j + count_by (is_pair m j) (told_of (dones_told u w w') a.entry.entry.step)) (sym is) (ap (λ t. t.dones j) h.counts.tallies ∙ h.counts.notes.done j))
      (λ ne. h.counts.here.done i j ne)

  pub turns_add : (k : ℕ) → Adds u sound some (λ (v : Node). v.served) k (turns_told u) (is_number k)
  turns_add k c w inv names event a e w' leads now =
      let h = event_counts c w inv names event a e w' leads now in
      added (λ (v : Node). v.served) k (is_number k) (told_of (turns_told u w w') a.entry.entry.step) c w w' a h
      (λ is. subst (λ m. h.left.served ≡ (c.nodes m).served + count_by (is_number m) (told_of (turns_told u w w') a.entry.entry.step)) (sym is) (h.counts.served ∙ h.counts.notes.turned))
      (λ ne. h.counts.here.turned k ne)

  pub applied_add : (k : ℕ) → Adds u sound some (λ (v : Node). v.tallies.applied) k (applied_told u) (is_number k)
  applied_add k c w inv names event a e w' leads now =
      let h = event_counts c w inv names event a e w' leads now in
      added (λ (v : Node). v.tallies.applied) k (is_number k) (told_of (applied_told u w w') a.entry.entry.step) c w w' a h
      (λ is. subst (λ m. h.left.tallies.applied ≡ (c.nodes m).tallies.applied + count_by (is_number m) (told_of (applied_told u w w') a.entry.entry.step)) (sym is) (ap (λ t. t.applied) h.counts.tallies ∙ h.counts.notes.worked))
      (λ ne. h.counts.here.worked k ne)
