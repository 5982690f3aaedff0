-- A context goes on behind an action that leaves nothing pending.
use Rattle.std.proofs.Common.{◌≡◌, ℕ, ◌+◌, ◌⊎◌, List, [], Option, Some, None, refl, sym, ap, ◌∙◌, subst, arith, false, filter_map, ℤ}
use Rattle.word_ops.specs.declared.name.Name.{Name}
use Rattle.word_ops.specs.declared.ticket.Ticket.{Ticket}
use Rattle.word_ops.specs.declared.step.NodeEvent.{NodeEvent}
use Rattle.word_ops.specs.Naming.{same_name}
use Rattle.merge_law.specs.Machine.{Raw, stamped}
use Rattle.world_model.specs.World.{Status, Live, Ended, Trapped, Strand}
use Rattle.threadlet_code.specs.Machine.{State}
use Rattle.core_model.specs.Contexts.{Context, Body, context_of}
use Rattle.core_model.specs.Nodes.{Setup, Node, moved_from}
use Rattle.core_model.specs.Effects.{Effect}
use Rattle.core_model.specs.Runs.{went_on}
use Rattle.core_model.specs.Machine.{machine_of}
use Rattle.core_model.specs.Core.{Core}
use Rattle.core_model.proofs.Invariant.ContextsByName.{context_of-with, context_of-with_other}
use Rattle.core_model.proofs.Invariant.Links.{sent-none}
use Rattle.core_model.proofs.Invariant.Sums.{total, total-zero}
use Rattle.core_model.proofs.Invariant.Views.{View, view, arrival_of, item_of, ack_of, after_run, view-after_run, sending, sending-nothing}
use Rattle.core_model.proofs.Invariant.Statement.{ByStatus, Known}
use Rattle.core_model.proofs.Invariant.StandingStrand.{Stands}
use Rattle.core_model.proofs.Actions.StrandAfter.{none_of, same-sending, Continues, goes_on}
use Rattle.core_model.proofs.Actions.StayOrLeave.{KeepsShared}
use Rattle.core_model.proofs.Actions.WordActions.{moved-part}

-- what is known of a strand is known under other tickets that give it the same
pub known-ticket : (u : Setup) (T T' : Name → Option Ticket) (v : View) (q : Name) (o : Option Strand) → T' q ≡ T q → Known u T v q o → Known u T' v q o
known-ticket u T T' v q None e known = known
known-ticket u T T' v q (Some s) e known = (known.0, by s.status known.1)
  where
    by : (t : Status) → ByStatus u T v q s t → ByStatus u T' v q s t
    by Live l = record {
      x = l.x;
      spot = l.spot;
      stands = l.stands;
      travels = l.travels;
      name = l.name;
      home = l.home;
      place = l.place;
      ticket = l.ticket ∙ sym e;
      state = l.state;
      late = l.late;
      bound = l.bound;
    }
    by (Ended value) g = g
    by (Trapped kind at) g = g

abbrev pub AreNone : {A : Type 0} → (Body → Option A) → (ℕ → List Body) → Type 0
AreNone f bodies = (d : ℕ) → filter_map f (bodies d) ≡ []

module _ (u : Setup) (T : Name → Option Ticket) (c : Core) (k : ℕ) (x : Context) (count : ℕ) (resume : List ℤ → State) (e : Effect) (stamp : ℕ) (event : ℕ → NodeEvent) where
  abbrev v : Node
  v = c.nodes k

  abbrev raw : Raw Node Body
  raw = went_on k x count resume e

  abbrev x' : Context
  x' = record x { place = k; state = resume e.answer }

  abbrev after : Core
  after = after_run u c k stamp event raw

  pub resumed-keeps : KeepsShared e.node (stamped (machine_of u) k stamp event raw).node
  resumed-keeps = record {
    cells = moved-part (λ (y : Node). y.cells) k x.place e.node (λ t. refl);
    granted = moved-part (λ (y : Node). y.granted) k x.place e.node (λ t. refl);
    cursors = moved-part (λ (y : Node). y.cursors) k x.place e.node (λ t. refl);
    pieces = moved-part (λ (y : Node). y.pieces) k x.place e.node (λ t. refl);
    served = moved-part (λ (y : Node). y.served) k x.place e.node (λ t. refl);
  }

  counts : (moved_from k x.place e.node).under_way ≡ e.node.under_way
  counts = moved-part (λ (y : Node). y.under_way) k x.place e.node (λ t. refl)

  contexts : (moved_from k x.place e.node).contexts ≡ e.node.contexts
  contexts = moved-part (λ (y : Node). y.contexts) k x.place e.node (λ t. refl)

  pub resumed-other : (r : Name) → same_name r x.name ≡ false → context_of r (raw.node).contexts ≡ context_of r e.node.contexts
  resumed-other r ne = context_of-with_other r x' (moved_from k x.place e.node).contexts ne ∙ ap (context_of r) contexts

  pub resumed-count : (r : Name) → (raw.node).under_way r ≡ e.node.under_way r
  resumed-count r = ap (λ f. f r) counts

  -- strands of which nothing changed
  pub resumed-view : (r : Name) → same_name r x.name ≡ false → context_of r e.node.contexts ≡ context_of r v.contexts → e.node.under_way r ≡ v.under_way r →
      AreNone (arrival_of r) e.sends → AreNone (item_of r) e.sends → AreNone (ack_of r) e.sends → view after r ≡ view c r
  resumed-view r ne e1 e2 a i l = view-after_run u c k stamp event raw r ∙ sending-nothing (view c r) k _ _ _ _ _ (resumed-other r ne ∙ e1) (resumed-count r ∙ e2)
      (λ d. sent-none (arrival_of r) u.nodelets k e.sends d (a d)) (λ d. sent-none (item_of r) u.nodelets k e.sends d (i d)) (λ d. sent-none (ack_of r) u.nodelets k e.sends d (l d))

  -- and the strand that went on
  pub resumed-known : (q : Name) (s s' : Strand) → Stands u T (view c q) q s k x → (s.place ≡ k) ⊎ ((view c q).under_way s.place ≡ 0) → e.node.under_way q ≡ v.under_way q →
      AreNone (arrival_of q) e.sends → AreNone (item_of q) e.sends → AreNone (ack_of q) e.sends → Continues u T s s' k x' none_of → Known u T (view after q) q (Some s')
  resumed-known q s s' here how same a i l goes = subst (λ (y : View). Known u T y q (Some s')) (sym view_is) (goes_on u T (view c q) q s k x here how none_of (λ d le. refl) s' x' refl refl refl refl refl goes)
    where
      found : context_of q (raw.node).contexts ≡ Some x'
      found = subst (λ (r : Name). context_of r (raw.node).contexts ≡ Some x') here.name (context_of-with x' (moved_from k x.place e.node).contexts)

      raised : (raw.node).under_way q ≡ v.under_way q + total u.nodelets (λ d. 0)
      raised = resumed-count q ∙ same ∙ (let z = total-zero u.nodelets (λ d. 0) (λ d. refl) in omega arith)

      view_is : view after q ≡ sending (view c q) k (Some x') ((view c q).under_way k + total u.nodelets (λ d. 0)) none_of none_of none_of
      view_is = view-after_run u c k stamp event raw q ∙ same-sending (view c q) k _ _ _ _ _ _ _ _ _ _ found raised
          (λ d. sent-none (arrival_of q) u.nodelets k e.sends d (a d)) (λ d. sent-none (item_of q) u.nodelets k e.sends d (i d)) (λ d. sent-none (ack_of q) u.nodelets k e.sends d (l d))
