-- Which actions are answered, and what an action is of which is known what decides.
use Rattle.std.proofs.Common.{◌≡◌, ℕ, suc, ℤ, List, [], ◌∷◌, length, Bool, true, false, Option, Some, None, refl, ap, ◌∙◌, sym, subst}
use Rattle.std.specs.Prelude.{if◌then◌else◌, ◌==◌, ◌&&◌, ◌||◌, not, is_some, slice_get}
use Rattle.std.proofs.lemmas.Bool.{eqb-true, eq-eqb}
use Rattle.word_ops.specs.declared.ticket.Ticket.{Ticket}
use Rattle.word_ops.specs.declared.place.Pos.{Pos}
use Rattle.word_ops.specs.declared.ending.TrapKind.TheVariants as trap
use Rattle.word_ops.specs.Operators.{binary_of}
use Rattle.world_model.specs.Action as act
use Rattle.world_model.specs.Action.{Action, pos_of}
use Rattle.world_model.specs.Sight.{Sight, is_bad, can_act, is_leaving, place_after}
use Rattle.world_model.specs.Activation.{word_at}
use Rattle.threadlet_code.specs.declared.instr.Instr.{Instr}
use Rattle.threadlet_code.specs.declared.instr.Instr.TheVariants as by
use Rattle.threadlet_code.specs.declared.code.FuncCode.{FuncCode}
use Rattle.threadlet_code.specs.declared.code.Code.{Code}
use Rattle.threadlet_code.specs.Machine.{Frame, State, Next, goes, asks, stops, stuck, onward, push, entered, divided, called, returned, place_in, spawn_of, acts_or_goes, step}
use Rattle.threadlet_code.proofs.Stepping.{effect, by_instruction}
use Rattle.threadlet_state.specs.declared.context.Context as carried
use Rattle.threadlet_state.specs.Activations.{state_of}
use Rattle.threadlet_state.specs.Answered.{is_asked, IsBeforeAction}
use Rattle.spawn_tree.specs.Joining.{result_of}
use Rattle.ack_fence.specs.Counting.{count_of}
use Rattle.nodelet_core.specs.declared.nodelet.Nodelet.{Nodelet}
use Rattle.nodelet_core.specs.declared.due.Due.{Due}
use Rattle.nodelet_core.specs.declared.due.Due.TheVariants as due
use Rattle.nodelet_core.specs.code.Dues.{due_of, asked}
use Rattle.nodelet_core.specs.Carried.{context_in}
use Rattle.core_model.specs.Runs.{DoneHere, Waits, SentTo, Refused, way_by, late_way, way_of, sight_at, is_free, action_in}
use Rattle.nodelet_core.specs.Kept.{node_of}
use Rattle.nodelet_core.specs.code.Doing.{IsDueHere}

-- All actions are answered but the last one of a strand.
abbrev pub is_answered : Due → Bool
is_answered (due.End value) = false
is_answered (due.Trap at kind) = false
is_answered _ = true

-- The machine asks for an action that is answered, and stops at one that is not.
abbrev IsBy : Bool → Next → Action → Type 0
IsBy true next action = (resume : List ℤ → State) × (next ≡ asks action resume)
IsBy false next action = next ≡ stops action

abbrev ComesBy : Next → Type 0
ComesBy next = (action : Action) → action_in next ≡ Some action → IsBy (is_answered (due_of action)) next action

of_asks : (a : Action) (resume : List ℤ → State) → is_answered (due_of a) ≡ true → ComesBy (asks a resume)
of_asks a resume told action e =
    let same : a ≡ action = cc in
    subst (λ b. IsBy (is_answered (due_of b)) (asks a resume) b) same (subst (λ t. IsBy t (asks a resume) a) (sym told) (resume, refl))

of_stops : (a : Action) → is_answered (due_of a) ≡ false → ComesBy (stops a)
of_stops a told action e =
    let same : a ≡ action = cc in
    subst (λ b. IsBy (is_answered (due_of b)) (stops a) b) same (subst (λ t. IsBy t (stops a) a) (sym told) refl)

of_goes : (after : State) → ComesBy (goes after)
of_goes after action e = absurd cc

of_stuck : ComesBy stuck
of_stuck action e = absurd cc

module _ (code : Code) (frame : Frame) (frames : State) (f : FuncCode) where
  divided_comes : (at : Pos) (o : Option ℤ) (next : ℤ → State) → ComesBy (divided at o (λ word. goes (next word)))
  divided_comes at None next = of_stops (act.Trap at trap.Divide) refl
  divided_comes at (Some word) next = of_goes (next word)

  called_comes : (at : Pos) (g : ℕ) (h : Option FuncCode) (words : List ℤ) (top : Frame) → ComesBy (called at g h words top frames)
  called_comes at g None words top = of_stuck
  called_comes at g (Some h) words top = by_depth (suc (length frames) == 256)
    where
      by_depth : (t : Bool) → ComesBy (if t then stops (act.Trap at trap.Depth) else goes (entered g h words ∷ onward top ∷ frames))
      by_depth true = of_stops (act.Trap at trap.Depth) refl
      by_depth false = of_goes _

  returned_comes : (word : ℤ) (callers : State) → ComesBy (returned word callers)
  returned_comes word [] = of_stops (act.End word) refl
  returned_comes word (caller ∷ callers) = of_goes _

  spawn_comes : (at : Pos) (depth g : ℕ) (target : Option ℕ) (hinted : Bool) (words : List ℤ) (top : Frame) →
      ComesBy (acts_or_goes code at (by.Spawn g target hinted) words top frames (Some (spawn_of at depth g hinted words)))
  spawn_comes at depth g target true words top = of_asks _ _ refl
  spawn_comes at depth g target false words top = of_asks _ _ refl

  each_comes : (instr : Instr) (words rest : List ℤ) → ComesBy (effect code frame frames f instr words rest)
  each_comes (by.Push word) words rest = of_goes _
  each_comes (by.Get slot) words rest = of_goes _
  each_comes (by.Set slot) words rest = of_goes _
  each_comes by.Pop words rest = of_goes _
  each_comes by.Dup words rest = of_goes _
  each_comes (by.Un op) words rest = of_goes _
  each_comes (by.Jump to) words rest = of_goes _
  each_comes (by.JumpZero to) words rest = of_goes _
  each_comes (by.Bin op) words rest = divided_comes (place_in f frame.at) (binary_of op (word_at words 0) (word_at words 1)) (λ word. onward (push word (record frame { stack = rest })) ∷ frames)
  each_comes (by.Call g) words rest = called_comes (place_in f frame.at) g (slice_get code.functions g) words (record frame { stack = rest })
  each_comes by.Return words rest = returned_comes (word_at words 0) frames
  each_comes (by.Spawn g target hinted) words rest = spawn_comes (place_in f frame.at) (suc (length frames)) g target hinted words (record frame { stack = rest })
  each_comes other words rest = of_asks _ _ refl

comes : (code : Code) (state : State) → ComesBy (step code state)
comes code [] = of_stuck
comes code (frame ∷ frames) = by_instruction code frame frames ComesBy of_stuck (λ f instr words rest a. each_comes code frame frames f instr words rest)

pub comes_asked : (code : Code) (state : State) (action : Action) → action_in (step code state) ≡ Some action → is_answered (due_of action) ≡ true →
    (resume : List ℤ → State) × (step code state ≡ asks action resume)
comes_asked code state action e told = subst (λ t. IsBy t (step code state) action) told (comes code state action e)

pub comes_last : (code : Code) (state : State) (action : Action) → action_in (step code state) ≡ Some action → is_answered (due_of action) ≡ false →
    step code state ≡ stops action
comes_last code state action e told = subst (λ t. IsBy t (step code state) action) told (comes code state action e)

-- A context that is due an action here that is answered stands before it.
pub stands_before : (code : Code) (v : Nodelet) (x : carried.Context) (d : Due) → IsDueHere code v x d → is_answered d ≡ true → IsBeforeAction code x.frames
stands_before code v x d is told = record {
  fits = is.stands.fits;
  asked = ap is_asked (comes_asked code (state_of code x.frames) is.action is.comes (ap is_answered is.decides ∙ told)).1;
}

-- ---- the action itself

-- What decides of an action is all of it.
abbrev pub is_whole : Due → Bool
is_whole due.Print = false
is_whole (due.Spawn hint) = false
is_whole due.Sync = false
is_whole _ = true

pub whole_action : (action : Action) → is_whole (due_of action) ≡ true → action ≡ asked (due_of action)
whole_action (act.Print bytes) e = absurd (let wrong : false ≡ true = e in cc)
whole_action (act.Spawn d f args hint) e = absurd (let wrong : false ≡ true = e in cc)
whole_action (act.Sync d) e = absurd (let wrong : false ≡ true = e in cc)
whole_action (act.Alloc (act.Striped words)) e = refl
whole_action (act.Alloc (act.Blocked blocks words)) e = refl
whole_action (act.Alloc (act.Local at words address)) e = refl
whole_action (act.Alloc (act.Replicated words)) e = refl
whole_action other e = refl

pub action_told : (action : Action) (d : Due) → due_of action ≡ d → is_whole d ≡ true → action ≡ asked d
action_told action d e whole = whole_action action (ap is_whole e ∙ whole) ∙ ap asked e

-- ---- an action that is done here

module _ (n turns : ℕ) (s : Sight) (action : Action) (free : Bool) where
  -- It is not bad, it is ready, and the strand stays in its place.
  pub record Acts : Type 0 where
    pub good : is_bad n action ≡ false
    pub ready : (can_act n turns s action && free) ≡ true
    pub stays : place_after n s action ≡ s.here

  by_ready : (t r c : Bool) → (place_after n s action == s.here) ≡ t → (if t then (if r then DoneHere else Waits) else (if c then SentTo (place_after n s action) else Waits)) ≡ DoneHere →
      (place_after n s action ≡ s.here) × (r ≡ true)
  by_ready true true c e h = (eqb-true _ _ e, refl)
  by_ready true false c e h = absurd cc
  by_ready false r true e h = absurd cc
  by_ready false r false e h = absurd cc

  by_leaving : (t r : Bool) (late : Option Pos) (at : Pos) → (if t then Refused trap.OutOfBounds at else way_by n s action r) ≡ DoneHere → (place_after n s action ≡ s.here) × (r ≡ true)
  by_leaving true r late at h = absurd cc
  by_leaving false r late at h = by_ready (place_after n s action == s.here) r s.clear refl h

  by_late : (r : Bool) (late : Option Pos) → late_way n s action r late ≡ DoneHere → (place_after n s action ≡ s.here) × (r ≡ true)
  by_late r None h = by_ready (place_after n s action == s.here) r s.clear refl h
  by_late r (Some at) h = by_leaving (r && is_leaving n s action) r (Some at) at h

  pub acts : way_of n turns s action free ≡ DoneHere → Acts
  acts h = by_bad (is_bad n action) refl h
    where
      by_bad : (b : Bool) → is_bad n action ≡ b →
          (if b then Refused trap.BadAddress (pos_of action) else late_way n s action (can_act n turns s action && free) s.late) ≡ DoneHere → Acts
      by_bad true e h = absurd cc
      by_bad false e h = let p = by_late (can_act n turns s action && free) s.late h in record { good = e; ready = p.1; stays = p.0 }

-- Of an action of which what decides is all of it, what a context sees that is due it here.
pub acts_here : (code : Code) (v : Nodelet) (x : carried.Context) (d : Due) → IsDueHere code v x d → is_whole d ≡ true →
    Acts v.nodelets v.turns (sight_at v.number (node_of code v) (context_in code x) (state_of code x.frames)) (asked d) (is_free v.number (node_of code v) x.ticket (asked d))
acts_here code v x d is whole =
    subst (λ a. Acts v.nodelets v.turns (sight_at v.number (node_of code v) (context_in code x) (state_of code x.frames)) a (is_free v.number (node_of code v) x.ticket a))
    (action_told is.action d is.decides whole)
    (acts v.nodelets v.turns (sight_at v.number (node_of code v) (context_in code x) (state_of code x.frames)) is.action (is_free v.number (node_of code v) x.ticket is.action) is.done_here)

-- Where an End is due, its result is not here yet, if it goes here.
pub end_free : (code : Code) (v : Nodelet) (x : carried.Context) (value : ℤ) → IsDueHere code v x (due.End value) →
    (t : Ticket) → x.ticket ≡ Some t → t.home ≡ v.number → result_of v.joins t.parent t.depth t.order ≡ None
end_free code v x value is t ticketed homed =
    let a = acts_here code v x (due.End value) is refl in
    by_result (result_of v.joins t.parent t.depth t.order) refl
    (right_of (count_of v.under_way x.name == 0) (is_free v.number (node_of code v) (Some t) (act.End value))
    (ap (λ k. (count_of v.under_way x.name == 0) && is_free v.number (node_of code v) k (act.End value)) (sym ticketed) ∙ a.ready))
  where
    right_of : (p q : Bool) → (p && q) ≡ true → q ≡ true
    right_of true q e = e
    right_of false q e = absurd (let wrong : false ≡ true = e in cc)

    by_home : (k : Bool) (o : Option ℤ) → k ≡ true → (not k || not (is_some o)) ≡ true → o ≡ None
    by_home true None same e = refl
    by_home true (Some z) same e = absurd (let wrong : false ≡ true = e in cc)
    by_home false o same e = absurd (let wrong : false ≡ true = same in cc)

    by_result : (o : Option ℤ) → result_of v.joins t.parent t.depth t.order ≡ o → is_free v.number (node_of code v) (Some t) (act.End value) ≡ true → o ≡ None
    by_result o told free = by_home (t.home == v.number) o (eq-eqb t.home v.number homed) (ap (λ k. not (t.home == v.number) || not (is_some k)) (sym told) ∙ free)
