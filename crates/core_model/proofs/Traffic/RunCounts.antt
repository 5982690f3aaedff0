-- A run adds to the counts of its nodelet what its step counts as.
use Rattle.std.proofs.Common.{◌≡◌, ℕ, suc, ◌<◌, ◌≤◌, List, [], map, Option, Some, None, refl, sym, ap, ◌∙◌, subst, Bool, true, ⊎_elim, ℤ, is_some, option_map, option_and_then}
use Rattle.std.specs.Prelude.{if◌then◌else◌, option_to_list}
use Rattle.word_ops.specs.declared.place.Pos.{Pos}
use Rattle.word_ops.specs.declared.name.Name.{Name}
use Rattle.word_ops.specs.declared.step.Step.TheVariants.{Act}
use Rattle.word_ops.specs.declared.step.NodeEvent.TheVariants as node
use Rattle.word_ops.specs.declared.ending.TrapKind.{TrapKind}
use Rattle.word_ops.specs.declared.ending.TrapKind.TheVariants.{OutOfBounds}
use Rattle.merge_law.specs.Machine.{Raw}
use Rattle.world_model.specs.Action.{Action, End, Trap}
use Rattle.world_model.specs.World.{Ended, Strand, World, strand_of, with_strand, with_trap}
use Rattle.world_model.specs.Step.{Refusal, step, refusal_of}
use Rattle.world_model.specs.Laws.{NamesDiffer}
use Rattle.world_model.specs.Traffic.{births_of, posts_of, turns_of, applied_of, dones_of, change_of, effective, parent_of}
use Rattle.threadlet_code.specs.Breaches.{is_sound}
use Rattle.threadlet_code.specs.Machine.{State}
use Rattle.core_model.specs.Contexts.{Context, Body}
use Rattle.core_model.specs.Nodes.{Setup, Node, moved_from}
use Rattle.core_model.specs.Effects.{effect}
use Rattle.core_model.specs.Runs.{Refused, sight_at, is_free, outside, went_on, trapped, sent_whole, last_done, run}
use Rattle.core_model.specs.Core.{Core, setting_of}
use Rattle.core_model.specs.Reached.{stepped}
use Rattle.core_model.proofs.Invariant.ContextsByName.{context_of-with}
use Rattle.core_model.proofs.Invariant.Views.{after_run}
use Rattle.core_model.proofs.Invariant.Statement.{Invariant, results_in, returns_in}
use Rattle.core_model.proofs.Actions.DueContext.{Before, is_due, settled}
use Rattle.core_model.proofs.Actions.Ways.{IsDone, IsLate, IsBad, done_way, refused_way}
use Rattle.core_model.proofs.Actions.DoneOrRefused.{refusal_at, refused_here, bad_refused, late_refused, acts_here}
use Rattle.core_model.proofs.Actions.LastActions.{IsLast, IsAsked}
use Rattle.core_model.proofs.Events.LegalEvent.{run_stamp}
use Rattle.core_model.proofs.Actions.RunOutcomes.{halted, silent_of, IsAt, way_at, Ways, ran_by}
use Rattle.core_model.proofs.Events.RunByWay.{outside_step, refused_step}
use Rattle.core_model.proofs.Events.Run.{before}
use Rattle.core_model.proofs.Traffic.Notes.{Notes, notes_none, plus_none, ended_to, dones_by}
use Rattle.core_model.proofs.Traffic.ActionNotes.{noted, came_notes}
use Rattle.core_model.proofs.Traffic.StepCounts.{AreAt, nothing_at, change_at, end_at, action_at, CountsNothing, stays_or_silent}
use Rattle.core_model.proofs.Traffic.EventCounts.{lists, same_lists, counted_as, Counts, act_lists, act_counted, no_change}
use Rattle.core_model.proofs.Traffic.Parents.{parent_home}
use Rattle.core_model.proofs.FirstTrap.FirstTraps.{lives_on, led_to}

module _ (u : Setup) (sound : is_sound u.code ≡ true) (some : 1 ≤ u.nodelets) (c : Core) (w : World) (inv : Invariant u c w) (k : ℕ) (inside : k < u.nodelets) (q : Name) where
  abbrev v : Node
  v = c.nodes k

  abbrev left_by : Raw Node Body → Core
  left_by raw = after_run u c k (run_stamp c k) (λ count. node.Run q count) raw

  -- the nodelet counts what the step counts as
  abbrev pub CountsRun : Raw Node Body → Type 0
  CountsRun raw = (w' : World) → stepped (setting_of u) w raw.step ≡ Some w' → Invariant u (left_by raw) w' → Counts k v raw.node (counted_as u w w' raw.step)

  module _ (x : Context) (action : Action) (at : IsAt u k v q x action) where
    b : Before u c w inv k q x (halted u x) action
    b = before u sound c w inv k inside q x action at

    -- what has its effect, by what refuses it
    effect_by : (r : Option Refusal) → refusal_of (setting_of u) w b.s action ≡ r → effective (setting_of u) w b.s ≡ (if is_some r then None else Some action)
    effect_by r e =
        ap (option_and_then (λ a. if is_some (refusal_of (setting_of u) w b.s a) then None else Some a)) (is_due u sound c w inv k q x (halted u x) action b)
        ∙ ap (λ o. if is_some o then None else Some action) e

    named : strand_of w x.name ≡ Some b.s
    named = ap (strand_of w) b.here.name ∙ b.known

    -- a strand that traps counts its change of place
    trap_counts : (y : Node) (count : ℕ) (kind : TrapKind) (pos : Pos) (place : ℕ) (e : Option Action) → y.served ≡ v.served →
        step (setting_of u) w (Act q None) ≡ Some (with_strand w q (with_trap b.s place kind pos)) → effective (setting_of u) w b.s ≡ e → act_lists u w x.name b.s.place place e ≡ lists (change_of b.s.place place) [] [] [] [] [] →
        Notes k v y (change_of b.s.place place) [] [] [] [] [] → AreAt k (change_of b.s.place place) [] [] [] [] [] → CountsRun (trapped y x.name count kind pos)
    trap_counts y count kind pos place e served is acts none notes here = λ w' leads now.
        subst (λ l. Counts k v (trapped y x.name count kind pos).node l)
        (sym (act_counted u w w' x.name None b.s (with_trap b.s place kind pos) e named (led_to u sound some c w inv k inside q x action at (with_trap b.s place kind pos) w' is leads) acts ∙ none))
        (record { upto = y; tallies = refl; served = refl; notes = notes; here = here })

    still : Notes k v v (change_of b.s.place b.s.place) [] [] [] [] [] × AreAt k (change_of b.s.place b.s.place) [] [] [] [] []
    still = subst (λ l. Notes k v v l [] [] [] [] [] × AreAt k l [] [] [] [] []) (sym (no_change b.s.place)) (notes_none k v v refl refl refl, nothing_at k)

    refused_counts : (kind : TrapKind) (pos : Pos) → way_at u k v q x action ≡ Refused kind pos → CountsRun (trapped v x.name (suc (silent_of u x)) kind pos)
    refused_counts kind pos way = trap_counts v (suc (silent_of u x)) kind pos b.s.place None refl
        (refused_step u sound some c w inv k q x (halted u x) action b (run_stamp c k) (λ count. node.Run q count) (silent_of u x) kind pos way)
        (⊎_elim
        (λ (bad : IsBad u.nodelets action kind pos). effect_by _ (bad_refused u sound c w inv k q x (halted u x) action b bad.bad))
        (λ (late : IsLate u.nodelets u.turns (sight_at k v x (halted u x)) action pos × (kind ≡ OutOfBounds)). effect_by _ (late_refused u sound c w inv k q x (halted u x) action b pos late.0))
        (refused_way u.nodelets u.turns (sight_at k v x (halted u x)) action (is_free k v x.ticket action) kind pos way)) refl still.0 still.1

    outside_counts : (pos : Pos) → IsDone u.nodelets u.turns (sight_at k v x (halted u x)) action (is_free k v x.ticket action) → outside u k v action ≡ Some pos → CountsRun (trapped (moved_from k x.place v) x.name (suc (silent_of u x)) OutOfBounds pos)
    outside_counts pos done out = trap_counts (moved_from k x.place v) (suc (silent_of u x)) OutOfBounds pos k None (moved.turned ∙ sym (plus_none v.served))
        (outside_step u sound some c w inv k q x (halted u x) action b (run_stamp c k) (λ count. node.Run q count) (silent_of u x) pos done out)
        (effect_by _ (refused_here u sound c w inv k q x (halted u x) action b (is_free k v x.ticket action) done ∙ ap (option_map (refusal_at k OutOfBounds)) out)) refl
        (subst (λ p. Notes k v (moved_from k x.place v) (change_of p k) [] [] [] [] []) b.here.place moved)
        (change_at k b.s.place)
      where
        moved : Notes k v (moved_from k x.place v) (change_of x.place k) [] [] [] [] []
        moved = came_notes k x.place v v [] [] [] [] [] (notes_none k v v refl refl refl)

    -- what is counted where the strand is is counted here
    counted_here : {A : Type 0} (f : ℕ → List A) → (CountsNothing u.nodelets action → (p : ℕ) → f p ≡ []) → f b.s.place ≡ f k
    counted_here f silent = ⊎_elim (λ stays. ap f (settled u sound c w inv k q x (halted u x) action b stays)) (λ none. silent none b.s.place ∙ sym (silent none k)) (stays_or_silent u.nodelets action)

    no_dones : IsAsked action → (name : Name) (p : ℕ) → dones_of w name p action ≡ dones_by k x.ticket action
    no_dones asked name p = by action asked
      where
        by : (a : Action) → IsAsked a → dones_of w name p a ≡ dones_by k x.ticket a
        by (End value) l = absurd l
        by other l = refl

    -- the effect is not refused
    effect_here : (free : Bool) → IsDone u.nodelets u.turns (sight_at k v x (halted u x)) action free → outside u k v action ≡ None → effective (setting_of u) w b.s ≡ Some action
    effect_here free done out = effect_by None (refused_here u sound c w inv k q x (halted u x) action b free done ∙ ap (option_map (refusal_at k OutOfBounds)) out)

    asked_counts : (free : Bool) → IsDone u.nodelets u.turns (sight_at k v x (halted u x)) action free → outside u k v action ≡ None → IsAsked action → (resume : List ℤ → State) →
        CountsRun (went_on k x (suc (silent_of u x)) resume (effect u k v x (halted u x) action))
    asked_counts free done out asked resume = λ w' leads now.
        let s = lives_on u c k (run_stamp c k) (λ count. node.Run q count) raw w' now x' (context_of-with x' (moved_from k x.place e).contexts) in
        subst (λ l. Counts k v raw.node l)
        (sym (act_counted u w w' x.name (effect u k v x (halted u x) action).child b.s s.0 (Some action) named s.1 (effect_here free done out)
        ∙ same_lists _ (change_of x.place k) _ (births_of u.nodelets k action) _ (posts_of u.nodelets k action) _ (dones_by k x.ticket action) _ (turns_of k action) _ (applied_of u.nodelets k action)
        (ap (λ p. change_of p s.0.place) (sym b.here.place) ∙ ap (change_of x.place) (sym s.3))
        (counted_here (λ p. births_of u.nodelets p action) (λ none. none.bore)) (counted_here (λ p. posts_of u.nodelets p action) (λ none. none.posted))
        (no_dones asked x.name b.s.place)
        (counted_here (λ p. turns_of p action) (λ none. none.turned)) (counted_here (λ p. applied_of u.nodelets p action) (λ none. none.worked))))
        (record {
          upto = moved_from k x.place e;
          tallies = refl;
          served = refl;
          notes = came_notes k x.place v e (births_of u.nodelets k action) (posts_of u.nodelets k action) (dones_by k x.ticket action) (turns_of k action) (applied_of u.nodelets k action) (noted u k v x (halted u x) action);
          here = action_at u.nodelets k x.place x.ticket action;
        })
      where
        raw : Raw Node Body
        raw = went_on k x (suc (silent_of u x)) resume (effect u k v x (halted u x) action)

        e : Node
        e = (effect u k v x (halted u x) action).node

        x' : Context
        x' = record x { place = k; state = resume (effect u k v x (halted u x) action).answer }

  -- a strand that ends counts for its parent
  last_counts : (x : Context) (action : Action) (at : IsAt u k v q x action) (free : Bool) → IsDone u.nodelets u.turns (sight_at k v x (halted u x)) action free → outside u k v action ≡ None → NamesDiffer w.strands → IsLast action →
      CountsRun (last_done u k v x (halted u x) (suc (silent_of u x)) action)
  last_counts x (Trap pos kind) at free done out names l =
      let p = (b x (Trap pos kind) at).s.place in
      let kept = still x (Trap pos kind) at in
      trap_counts x (Trap pos kind) at v (suc (silent_of u x)) kind pos p (Some (Trap pos kind)) refl
      (acts_here u sound c w inv k q x (halted u x) (Trap pos kind) (b x (Trap pos kind) at) None free done) (effect_here x (Trap pos kind) at free done out) refl kept.0 kept.1
  last_counts x (End value) at free done out names l = λ w' leads now.
      subst (λ y. Counts k v raw.node y)
      (sym (act_counted u w w' x.name None s over (Some (End value)) (named x (End value) at)
      (led_to u sound some c w inv k inside q x (End value) at over w' (acts_here u sound c w inv k q x (halted u x) (End value) (b x (End value) at) None free done) leads)
      (effect_here x (End value) at free done out)
      ∙ same_lists _ [] [] [] [] [] _ (ended_to k x.ticket) [] [] [] [] (no_change s.place) refl refl (for_parent place) refl refl))
      (record {
        upto = (effect u k v x (halted u x) (End value)).node;
        tallies = refl;
        served = refl;
        notes = noted u k v x (halted u x) (End value);
        here = end_at k x.ticket;
      })
    where
      raw : Raw Node Body
      raw = last_done u k v x (halted u x) (suc (silent_of u x)) (End value)

      s : Strand
      s = (b x (End value) at).s

      over : Strand
      over = record s { status = Ended value }

      place : s.place ≡ k
      place = settled u sound c w inv k q x (halted u x) (End value) (b x (End value) at) (λ y. refl)

      for_parent : s.place ≡ k → map (λ (parent : Strand). (s.place, parent.home)) (option_to_list (parent_of w x.name)) ≡ ended_to k x.ticket
      for_parent e =
          ap (λ p. map (λ (parent : Strand). (p, parent.home)) (option_to_list (parent_of w x.name))) e
          ∙ ap (λ (r : Name). map (λ (parent : Strand). (k, parent.home)) (option_to_list (parent_of w r))) (b x (End value) at).here.name
          ∙ parent_home inv.tickets (results_in c) (returns_in c) w inv.kin names q s (b x (End value) at).known (b x (End value) at).here.live k
          ∙ ap (ended_to k) (sym (b x (End value) at).here.ticket)
  last_counts x other at free done out names l = absurd l

  -- a context that is sent away counts nothing that a step counts
  sent_counts : (x : Context) (state : State) (count to : ℕ) → CountsRun (sent_whole v x state count to)
  sent_counts x state count to = λ w' leads now. record {
    upto = (sent_whole v x state count to).node;
    tallies = refl;
    served = refl;
    notes = record {
      trap = refl;
      moved = λ i. plus_none _;
      bore = λ j. plus_none _;
      posted = λ j. plus_none _;
      done = λ j. plus_none _;
      turned = plus_none _;
      worked = plus_none _;
    };
    here = nothing_at k;
  }

  ways : NamesDiffer w.strands → Ways u k v q CountsRun
  ways names = record {
    refused = λ x action at kind pos way. refused_counts x action at kind pos way;
    sent = λ x action at to way. sent_counts x (halted u x) (suc (silent_of u x)) to;
    stays = λ x action at way less is. λ w' leads now. record { upto = v; tallies = refl; served = refl; notes = notes_none k v v refl refl refl; here = nothing_at k };
    outside_of = λ x action at way pos out. outside_counts x action at pos (done_way u.nodelets u.turns (sight_at k v x (halted u x)) action (is_free k v x.ticket action) way) out;
    asked = λ x action at way out resume is sorted. asked_counts x action at (is_free k v x.ticket action) (done_way u.nodelets u.turns (sight_at k v x (halted u x)) action (is_free k v x.ticket action) way) out sorted resume;
    last = λ x action at way out is sorted. last_counts x action at (is_free k v x.ticket action) (done_way u.nodelets u.turns (sight_at k v x (halted u x)) action (is_free k v x.ticket action) way) out names sorted;
  }

  pub run_counts : NamesDiffer w.strands → (raw : Raw Node Body) → run u k v q ≡ Some raw → CountsRun raw
  run_counts names raw e = ran_by u k v q CountsRun (ways names) raw e
