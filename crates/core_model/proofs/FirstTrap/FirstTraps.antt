-- Each nodelet keeps the first trap that the entries tell of at it.
use Rattle.std.proofs.Common.{◌≡◌, ℕ, suc, ◌<◌, ◌≤◌, List, Option, Some, None, refl, sym, ap, ◌∙◌, subst, arith, Bool, true, false, ℤ, option_and_then}
use Rattle.std.specs.Prelude.{if◌then◌else◌, ◌==◌}
use Rattle.std.specs.Option.{option_or}
use Rattle.std.proofs.lemmas.Bool.{eqb-true}
use Rattle.std.proofs.lemmas.Bool.Decides.{eqb_tells}
use Rattle.word_ops.specs.declared.place.Pos.{Pos}
use Rattle.word_ops.specs.declared.name.Name.{Name}
use Rattle.word_ops.specs.declared.step.Step.TheVariants.{Act}
use Rattle.word_ops.specs.declared.step.NodeEvent.{NodeEvent}
use Rattle.word_ops.specs.declared.step.NodeEvent.TheVariants as node
use Rattle.word_ops.specs.declared.ending.TrapKind.{TrapKind}
use Rattle.merge_law.specs.declared.event.Event.TheVariants.{Run, Take}
use Rattle.merge_law.specs.Machine.{Raw}
use Rattle.merge_law.specs.Core.{After}
use Rattle.merge_law.proofs.Somes.{same_number, some_is}
use Rattle.world_model.specs.Action.{Action, End, Trap}
use Rattle.world_model.specs.World.{Status, Live, Ended, Trapped, Strand, World, strand_of, with_strand, with_trap}
use Rattle.world_model.specs.Step.{step}
use Rattle.world_model.specs.Run.{start}
use Rattle.world_model.proofs.Names.{lookup-same}
use Rattle.threadlet_code.specs.Breaches.{is_sound}
use Rattle.threadlet_code.specs.Machine.{State}
use Rattle.core_model.specs.declared.trapped.Trapped.{Trapped as Kept}
use Rattle.core_model.specs.Contexts.{Context, Body, Arrival, Issued, Ack, Returned, context_of}
use Rattle.core_model.specs.Nodes.{Setup, Node, moved_from}
use Rattle.core_model.specs.Effects.{effect}
use Rattle.core_model.specs.Runs.{sight_at, is_free, went_on, trapped, last_done, run}
use Rattle.core_model.specs.Takes.{take}
use Rattle.core_model.specs.Machine.{Packet}
use Rattle.core_model.specs.Core.{Core, start_core, setting_of}
use Rattle.core_model.specs.Reached.{stepped, kept_trap, trapped_in, trapped_at}
use Rattle.core_model.specs.Laws.{FirstTrapsAreTold}
use Rattle.core_model.proofs.Invariant.ContextsByName.{context_of-with}
use Rattle.core_model.proofs.Invariant.Views.{view, after_run}
use Rattle.core_model.proofs.Invariant.Statement.{Invariant}
use Rattle.core_model.proofs.Invariant.StandingStrand.{Present, present}
use Rattle.core_model.proofs.Actions.DueContext.{Before}
use Rattle.core_model.proofs.Actions.Ways.{IsDone, done_way}
use Rattle.core_model.proofs.Actions.DoneOrRefused.{acts_here}
use Rattle.core_model.proofs.Actions.WordActions.{moved-part}
use Rattle.core_model.proofs.Actions.LastActions.{IsLast}
use Rattle.core_model.proofs.Events.LegalEvent.{run_stamp, HasRun, take_stamp, taken, HasTaken, happened}
use Rattle.core_model.proofs.Actions.RunOutcomes.{halted, silent_of, IsAt, Ways, ran_by}
use Rattle.core_model.proofs.Events.RunByWay.{outside_step, refused_step}
use Rattle.core_model.proofs.Events.Run.{before}
use Rattle.core_model.proofs.Invariant.Start.{starts}
use Rattle.core_model.proofs.Traffic.ActionNotes.{noted, came_notes}
use Rattle.core_model.proofs.Traffic.TakeNotes.{take_notes}
use Rattle.core_model.proofs.FirstTrap.TrapsByPlay.{or_none, TellsTrap, traps_told}

-- the trap that a nodelet keeps with a stamp
abbrev kept_at : ℕ → TrapKind → Pos → Name → Kept
kept_at stamp kind at name = record { stamp = stamp; kind = kind; pos = at; name = name }

-- a strand that stands at nodelet k after a run is live in the world
pub lives_on : (u : Setup) (c : Core) (k stamp : ℕ) (event : ℕ → NodeEvent) (raw : Raw Node Body) (w : World) → Invariant u (after_run u c k stamp event raw) w → (x : Context) →
    context_of x.name raw.node.contexts ≡ Some x → (s : Strand) × (strand_of w x.name ≡ Some s) × (s.status ≡ Live) × (x.place ≡ s.place)
lives_on u c k stamp event raw w inv x found = (p.s, p.known, p.here.live, p.here.place)
  where
    here : (t : Bool) → t ≡ true → context_of x.name (if t then record raw.node { stamp = stamp } else c.nodes k).contexts ≡ Some x
    here true e = found
    here false e = absurd cc

    p : Present u inv.tickets (view (after_run u c k stamp event raw) x.name) x.name (strand_of w x.name) k x
    p = present u inv.tickets (view (after_run u c k stamp event raw) x.name) x.name (strand_of w x.name) k x (inv.each x.name) (here (k == k) (same_number k))

module _ (u : Setup) (sound : is_sound u.code ≡ true) (some : 1 ≤ u.nodelets) (c : Core) (w : World) (inv : Invariant u c w) (k : ℕ) (inside : k < u.nodelets) (q : Name) where
  abbrev v : Node
  v = c.nodes k

  abbrev left_by : Raw Node Body → Core
  left_by raw = after_run u c k (run_stamp c k) (λ count. node.Run q count) raw

  -- the nodelet keeps the trap that the step tells of, unless it has one
  abbrev Tells : Raw Node Body → Type 0
  Tells raw = (w' : World) → stepped (setting_of u) w raw.step ≡ Some w' → Invariant u (left_by raw) w' → raw.node.first_trap ≡ option_or v.first_trap (trapped_in (run_stamp c k) w' raw.step)

  -- what a step tells that leads to a strand with this status
  told_by : (name : Name) (w' : World) (s : Strand) (status : Status) → strand_of w' name ≡ Some s → s.status ≡ status → (child : Option Name) → trapped_in (run_stamp c k) w' (Some (Act name child)) ≡ kept_trap (run_stamp c k) name status
  told_by name w' s status is st child = ap (option_and_then (λ y. kept_trap (run_stamp c k) name y.status)) is ∙ ap (kept_trap (run_stamp c k) name) st

  nothing_told : (y : Node) (o : Option Kept) → y.first_trap ≡ v.first_trap → o ≡ None → y.first_trap ≡ option_or v.first_trap o
  nothing_told y o e none = e ∙ sym (or_none v.first_trap) ∙ ap (option_or v.first_trap) (sym none)

  module _ (x : Context) (action : Action) (at : IsAt u k v q x action) where
    b : Before u c w inv k q x (halted u x) action
    b = before u sound c w inv k inside q x action at

    -- the world that its step leads to
    pub led_to : (s : Strand) (w' : World) → step (setting_of u) w (Act q None) ≡ Some (with_strand w q s) → step (setting_of u) w (Act x.name None) ≡ Some w' → strand_of w' x.name ≡ Some s
    led_to s w' is leads =
        let same : with_strand w q s ≡ w' = some_is _ _ (sym is ∙ ap (λ (r : Name). step (setting_of u) w (Act r None)) (sym b.here.name) ∙ leads) in
        ap (λ (y : World). strand_of y x.name) (sym same) ∙ ap (strand_of (with_strand w q s)) b.here.name ∙ lookup-same q s w.strands

    trap_tells : (y : Node) → y.first_trap ≡ v.first_trap → y.stamp ≡ v.stamp → (count : ℕ) (kind : TrapKind) (pos : Pos) (place : ℕ) →
        step (setting_of u) w (Act q None) ≡ Some (with_strand w q (with_trap b.s place kind pos)) → Tells (trapped y x.name count kind pos)
    trap_tells y e stamp count kind pos place is = λ w' leads now.
        ap (λ o. option_or o (Some (kept_at (suc y.stamp) kind pos x.name))) e
        ∙ ap (λ m. option_or v.first_trap (Some (kept_at m kind pos x.name))) (ap suc stamp ∙ omega arith)
        ∙ ap (option_or v.first_trap) (sym (told_by x.name w' (with_trap b.s place kind pos) (Trapped kind pos) (led_to (with_trap b.s place kind pos) w' is leads) refl None))

    asked_tells : (resume : List ℤ → State) → Tells (went_on k x (suc (silent_of u x)) resume (effect u k v x (halted u x) action))
    asked_tells resume = λ w' leads now.
        let s = lives_on u c k (run_stamp c k) (λ count. node.Run q count) raw w' now x' (context_of-with x' (moved_from k x.place e).contexts) in
        nothing_told raw.node _ (came_notes k x.place v e _ _ _ _ _ (noted u k v x (halted u x) action)).trap (told_by x.name w' s.0 Live s.1 s.2 (effect u k v x (halted u x) action).child)
      where
        raw : Raw Node Body
        raw = went_on k x (suc (silent_of u x)) resume (effect u k v x (halted u x) action)

        e : Node
        e = (effect u k v x (halted u x) action).node

        x' : Context
        x' = record x { place = k; state = resume (effect u k v x (halted u x) action).answer }

  last_tells : (x : Context) (action : Action) (at : IsAt u k v q x action) (free : Bool) → IsDone u.nodelets u.turns (sight_at k v x (halted u x)) action free → IsLast action → Tells (last_done u k v x (halted u x) (suc (silent_of u x)) action)
  last_tells x (Trap pos kind) at free done l = trap_tells x (Trap pos kind) at v refl refl (suc (silent_of u x)) kind pos (b x (Trap pos kind) at).s.place (acts_here u sound c w inv k q x (halted u x) (Trap pos kind) (b x (Trap pos kind) at) None free done)
  last_tells x (End value) at free done l = λ w' leads now.
      let s : Strand = record (b x (End value) at).s { status = Ended value } in
      nothing_told (last_done u k v x (halted u x) (suc (silent_of u x)) (End value)).node _ (noted u k v x (halted u x) (End value)).trap
      (told_by x.name w' s (Ended value) (led_to x (End value) at s w' (acts_here u sound c w inv k q x (halted u x) (End value) (b x (End value) at) None free done) leads) refl None)
  last_tells x other at free done l = absurd l

  ways : Ways u k v q Tells
  ways = record {
    refused = λ x action at kind pos way. trap_tells x action at v refl refl (suc (silent_of u x)) kind pos (b x action at).s.place
        (refused_step u sound some c w inv k q x (halted u x) action (b x action at) (run_stamp c k) (λ count. node.Run q count) (silent_of u x) kind pos way);
    sent = λ x action at to way. λ w' leads now. sym (or_none v.first_trap);
    stays = λ x action at way less is. λ w' leads now. sym (or_none v.first_trap);
    outside_of = λ x action at way pos out. trap_tells x action at (moved_from k x.place v) (moved-part (λ (y : Node). y.first_trap) k x.place v (λ t. refl)) (moved-part (λ (y : Node). y.stamp) k x.place v (λ t. refl)) (suc (silent_of u x)) _ pos k
        (outside_step u sound some c w inv k q x (halted u x) action (b x action at) (run_stamp c k) (λ count. node.Run q count) (silent_of u x) pos
        (done_way u.nodelets u.turns (sight_at k v x (halted u x)) action (is_free k v x.ticket action) way) out);
    asked = λ x action at way out resume is sorted. asked_tells x action at resume;
    last = λ x action at way out is sorted. last_tells x action at (is_free k v x.ticket action) (done_way u.nodelets u.turns (sight_at k v x (halted u x)) action (is_free k v x.ticket action) way) sorted;
  }

  pub run_tells : (raw : Raw Node Body) → run u k v q ≡ Some raw → Tells raw
  run_tells raw e = ran_by u k v q Tells ways raw e

-- ---- events

module _ (u : Setup) (sound : is_sound u.code ≡ true) (some : 1 ≤ u.nodelets) (k : ℕ) where
  -- what the taking of a packet tells is nothing
  take_told : (v : Node) (from stamp : ℕ) (j : ℕ) (w' : World) (body : Body) → trapped_in stamp w' (take u j v from body).step ≡ None
  take_told v from stamp j w' (Arrival x) = refl
  take_told v from stamp j w' (Issued q item) = refl
  take_told v from stamp j w' (Ack q late) = refl
  take_told v from stamp j w' (Returned t value) = refl

  -- at another nodelet nothing is told
  at_nodelet : (j : ℕ) (old : ℕ → Node) (new : Node) (o : Option Kept) → (k ≡ j → new.first_trap ≡ option_or (old k).first_trap o) →
      (if k == j then new else old k).first_trap ≡ option_or (old k).first_trap (if j == k then o else None)
  at_nodelet j old new o h = go (k == j) refl (j == k) refl
    where
      go : (s : Bool) → (k == j) ≡ s → (t : Bool) → (j == k) ≡ t → (if s then new else old k).first_trap ≡ option_or (old k).first_trap (if t then o else None)
      go true e true f = h (eqb-true k j e)
      go false e false f = sym (or_none (old k).first_trap)
      go true e false f = absurd (grind (arith, eqb_tells))
      go false e true f = absurd (grind (arith, eqb_tells))

  event_tells : TellsTrap u sound some k
  event_tells c w inv (Run j q) a e = subst (λ (y : After Node Packet). (w' : World) → stepped (setting_of u) w y.entry.entry.step ≡ Some w' → Invariant u y.core w' →
      (y.core.nodes k).first_trap ≡ option_or (c.nodes k).first_trap (trapped_at k (record { entry = y.entry; world = w' }))) h.is
      (λ w' leads now. at_nodelet j c.nodes (record h.raw.node { stamp = run_stamp c j }) _
      (λ same. run_tells u sound some c w inv j h.inside q h.raw h.made w' leads now ∙ ap (λ i. option_or (c.nodes i).first_trap (trapped_in (run_stamp c j) w' h.raw.step)) (sym same)))
    where
      h : HasRun u c j q a
      h = happened u c (Run j q) a e
  event_tells c w inv (Take from j) a e = subst (λ (y : After Node Packet). (w' : World) → stepped (setting_of u) w y.entry.entry.step ≡ Some w' → Invariant u y.core w' →
      (y.core.nodes k).first_trap ≡ option_or (c.nodes k).first_trap (trapped_at k (record { entry = y.entry; world = w' }))) h.is
      (λ w' leads now. at_nodelet j c.nodes (record (taken u c from j h.packet).node { stamp = take_stamp c j h.packet }) _
      (λ same. (take_notes u j (c.nodes j) from h.packet.body).trap ∙ ap (λ i. (c.nodes i).first_trap) (sym same) ∙ sym (or_none (c.nodes k).first_trap)
      ∙ ap (option_or (c.nodes k).first_trap) (sym (take_told (c.nodes j) from (take_stamp c j h.packet) j w' h.packet.body))))
    where
      h : HasTaken u c from j a
      h = happened u c (Take from j) a e

pub first_traps_are_told : FirstTrapsAreTold
first_traps_are_told u sound some events played legal k =
    traps_told u sound some k (event_tells u sound some k) events (start_core u) (start (setting_of u)) played (starts u sound some) legal
