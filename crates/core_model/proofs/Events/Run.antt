-- A run of a context at a nodelet keeps the invariant.
use Rattle.std.proofs.Common.{◌≡◌, ℕ, suc, ◌<◌, ◌≤◌, Some, sym, ap, ◌∙◌, true}
use Rattle.word_ops.specs.declared.name.Name.{Name}
use Rattle.word_ops.specs.declared.step.NodeEvent.{NodeEvent}
use Rattle.merge_law.specs.Machine.{Raw}
use Rattle.world_model.specs.Action.{Action}
use Rattle.world_model.specs.World.{World, strand_of}
use Rattle.threadlet_code.specs.Breaches.{is_sound}
use Rattle.threadlet_code.specs.Machine as code
use Rattle.threadlet_code.specs.Running.{due}
use Rattle.core_model.specs.Contexts.{Context, Body}
use Rattle.core_model.specs.Nodes.{Setup, Node}
use Rattle.core_model.specs.Runs.{action_in, is_free, run}
use Rattle.core_model.specs.Core.{Core}
use Rattle.core_model.proofs.Invariant.Views.{view, after_run}
use Rattle.core_model.proofs.Invariant.StrandStates.{halted_is, halted_due, halted_step}
use Rattle.core_model.proofs.Invariant.Statement.{Invariant}
use Rattle.core_model.proofs.Invariant.StandingStrand.{Present, present}
use Rattle.core_model.proofs.Invariant.OtherStrands.{Kept}
use Rattle.core_model.proofs.Actions.DueContext.{Before}
use Rattle.core_model.proofs.Actions.Ways.{done_way}
use Rattle.core_model.proofs.Actions.StayOrLeave.{waits_kept}
use Rattle.core_model.proofs.Actions.RunOutcomes.{halted, silent_of, IsAt, Ways, ran_by}
use Rattle.core_model.proofs.Events.RunByWay.{outside_kept, refused_kept, sent_away_kept, asked_kept, last_kept}

module _ (u : Setup) (sound : is_sound u.code ≡ true) (c : Core) (w : World) (inv : Invariant u c w) (k : ℕ) (inside : k < u.nodelets) (q : Name) where
  due_next : (x : Context) → due u.code (halted u x) ≡ code.step u.code (halted u x)
  due_next x = halted_due u.code sound x.state ∙ sym (halted_step u.code sound x.state)

  -- a context that stands at a nodelet before an action is that of a strand of the world
  pub before : (x : Context) (action : Action) → IsAt u k (c.nodes k) q x action → Before u c w inv k q x (halted u x) action
  before x action at = record {
    s = p.s;
    known = p.known;
    here = p.here;
    inside = inside;
    is = halted_is u.code sound p.s x.state p.here.state;
    same = halted_due u.code sound x.state;
    next = ap action_in (due_next x) ∙ at.next;
  }
    where
      p : Present u inv.tickets (view c q) q (strand_of w q) k x
      p = present u inv.tickets (view c q) q (strand_of w q) k x (inv.each q) at.found

  module _ (some : 1 ≤ u.nodelets) (stamp : ℕ) (event : ℕ → NodeEvent) where
    abbrev v : Node
    v = c.nodes k

    abbrev Goal : Raw Node Body → Type 0
    Goal raw = Kept u w (after_run u c k stamp event raw) raw.step

    ways : Ways u k v q Goal
    ways = record {
      refused = λ x action at kind pos way. refused_kept u sound some c w inv k q x (halted u x) action (before x action at) stamp event (silent_of u x) kind pos way;
      sent = λ x action at to way. sent_away_kept u sound some c w inv k q x (halted u x) action (before x action at) stamp event (silent_of u x) to way;
      stays = λ x action at way less is. waits_kept u sound c w inv k q x (halted u x) action (before x action at) stamp event (suc less);
      outside_of = λ x action at way pos out. outside_kept u sound some c w inv k q x (halted u x) action (before x action at) stamp event (silent_of u x) pos
          (done_way u.nodelets u.turns _ action (is_free k v x.ticket action) way) out;
      asked = λ x action at way out resume is sorted. asked_kept u sound some c w inv k q x (halted u x) stamp event (suc (silent_of u x)) action (before x action at) resume sorted (due_next x ∙ is) is
          (is_free k v x.ticket action) (done_way u.nodelets u.turns _ action (is_free k v x.ticket action) way) out;
      last = λ x action at way out is sorted. last_kept u sound some c w inv k q x (halted u x) stamp event (suc (silent_of u x)) action (before x action at) sorted
          (is_free k v x.ticket action) (done_way u.nodelets u.turns _ action (is_free k v x.ticket action) way);
    }

    pub run_kept : (raw : Raw Node Body) → run u k v q ≡ Some raw → Goal raw
    run_kept raw e = ran_by u k v q Goal ways raw e
