-- The ways that a run of a context can go.
use Rattle.std.proofs.Common.{◌≡◌, ℕ, zero, suc, List, ℤ, Option, Some, None, refl, subst, option_and_then}
use Rattle.word_ops.specs.declared.place.Pos.{Pos}
use Rattle.word_ops.specs.declared.name.Name.{Name}
use Rattle.word_ops.specs.declared.ending.TrapKind.{TrapKind}
use Rattle.word_ops.specs.declared.ending.TrapKind.TheVariants.{OutOfBounds}
use Rattle.merge_law.specs.Machine.{Raw}
use Rattle.merge_law.proofs.Somes.{some_is}
use Rattle.world_model.specs.Action.{Action}
use Rattle.threadlet_code.specs.Machine.{State, Next, goes, asks, stops, stuck, step}
use Rattle.threadlet_code.specs.Running.{halt}
use Rattle.core_model.specs.Contexts.{Context, Body, context_of}
use Rattle.core_model.specs.Nodes.{Setup, Node, with_strand, moved_from}
use Rattle.core_model.specs.Effects.{nothing, effect}
use Rattle.core_model.specs.Runs.{Way, Refused, DoneHere, SentTo, Waits, way_of, sight_at, is_free, outside, done_here, stays_before, by_way, taken_up, run, went_on, trapped, sent_whole, last_done, action_in}
use Rattle.core_model.proofs.Actions.LastActions.{IsLast, IsAsked, IsSorted, step_sorted}

-- a context with its silent instructions done: its state, and how many these were
abbrev pub halted : Setup → Context → State
halted u x = (halt u.code x.state).state

abbrev pub silent_of : Setup → Context → ℕ
silent_of u x = (halt u.code x.state).silent

-- what a context leaves that stays before its action
abbrev pub stayed : Node → Context → State → ℕ → Raw Node Body
stayed v x state count = record { node = with_strand v (record x { state = state }); bodies = nothing; count = count; step = None }

module _ (u : Setup) (k : ℕ) (v : Node) (q : Name) where
  -- the context of the strand is here, before an action that comes next
  pub record IsAt (x : Context) (action : Action) : Type 0 where
    pub found : context_of q v.contexts ≡ Some x
    pub next : action_in (step u.code (halted u x)) ≡ Some action

  abbrev pub way_at : Context → Action → Way
  way_at x action = way_of u.nodelets u.turns (sight_at k v x (halted u x)) action (is_free k v x.ticket action)

  -- what holds of each way that a run can go
  pub record Ways (Goal : Raw Node Body → Type 0) : Type 0 where
    pub refused : (x : Context) (action : Action) → IsAt x action → (kind : TrapKind) (at : Pos) → way_at x action ≡ Refused kind at →
        Goal (trapped v x.name (suc (silent_of u x)) kind at)
    pub sent : (x : Context) (action : Action) → IsAt x action → (to : ℕ) → way_at x action ≡ SentTo to →
        Goal (sent_whole v x (halted u x) (suc (silent_of u x)) to)
    pub stays : (x : Context) (action : Action) → IsAt x action → way_at x action ≡ Waits → (less : ℕ) → silent_of u x ≡ suc less →
        Goal (stayed v x (halted u x) (suc less))
    -- done here, with a word that is not granted
    pub outside_of : (x : Context) (action : Action) → IsAt x action → way_at x action ≡ DoneHere → (at : Pos) → outside u k v action ≡ Some at →
        Goal (trapped (moved_from k x.place v) x.name (suc (silent_of u x)) OutOfBounds at)
    -- done here, and the context goes on
    pub asked : (x : Context) (action : Action) → IsAt x action → way_at x action ≡ DoneHere → outside u k v action ≡ None →
        (resume : List ℤ → State) → step u.code (halted u x) ≡ asks action resume → IsAsked action →
        Goal (went_on k x (suc (silent_of u x)) resume (effect u k v x (halted u x) action))
    -- done here, as the last
    pub last : (x : Context) (action : Action) → IsAt x action → way_at x action ≡ DoneHere → outside u k v action ≡ None →
        step u.code (halted u x) ≡ stops action → IsLast action →
        Goal (last_done u k v x (halted u x) (suc (silent_of u x)) action)

  module _ (Goal : Raw Node Body → Type 0) (ways : Ways Goal) (raw : Raw Node Body) where
    same : (r : Raw Node Body) → Some r ≡ Some raw → Goal r → Goal raw
    same r e = subst (λ (y : Raw Node Body). Goal y) (some_is r raw e)

    module _ (x : Context) (found : context_of q v.contexts ≡ Some x) where
      abbrev state : State
      state = halted u x

      abbrev silent : ℕ
      silent = silent_of u x

      stayed_by : (action : Action) → IsAt x action → way_at x action ≡ Waits → (m : ℕ) → silent ≡ m → stays_before v x state m ≡ Some raw → Goal raw
      stayed_by action here way zero e f = absurd cc
      stayed_by action here way (suc less) e f = same (stayed v x state (suc less)) f (ways.stays x action here way less e)

      -- whatever its way, given what an action leaves that is done
      by_each : (next : Next) (action : Action) → IsAt x action → (way_at x action ≡ DoneHere → (o : Option Pos) → outside u k v action ≡ o → done_here u k v x state (suc silent) next o ≡ Some raw → Goal raw) →
          (way : Way) → way_at x action ≡ way → by_way u k v x state silent next action way ≡ Some raw → Goal raw
      by_each next action here done (Refused kind at) e f = same _ f (ways.refused x action here kind at e)
      by_each next action here done (SentTo to) e f = same _ f (ways.sent x action here to e)
      by_each next action here done Waits e f = stayed_by action here e silent refl f
      by_each next action here done DoneHere e f = done e (outside u k v action) refl f

      at_next : (next : Next) → step u.code state ≡ next → IsSorted next →
          option_and_then (λ action. by_way u k v x state silent next action (way_at x action)) (action_in next) ≡ Some raw → Goal raw
      at_next (goes after) e sorted f = absurd cc
      at_next stuck e sorted f = absurd cc
      at_next (asks action resume) e sorted f = by_each (asks action resume) action here done (way_at x action) refl f
        where
          here : IsAt x action
          here = record { found = found; next = rw e refl }

          done : way_at x action ≡ DoneHere → (o : Option Pos) → outside u k v action ≡ o → done_here u k v x state (suc silent) (asks action resume) o ≡ Some raw → Goal raw
          done way None out g = same _ g (ways.asked x action here way out resume e sorted)
          done way (Some at) out g = same _ g (ways.outside_of x action here way at out)
      at_next (stops action) e sorted f = by_each (stops action) action here done (way_at x action) refl f
        where
          here : IsAt x action
          here = record { found = found; next = rw e refl }

          done : way_at x action ≡ DoneHere → (o : Option Pos) → outside u k v action ≡ o → done_here u k v x state (suc silent) (stops action) o ≡ Some raw → Goal raw
          done way None out g = same _ g (ways.last x action here way out e sorted)
          done way (Some at) out g = same _ g (ways.outside_of x action here way at out)

    -- what holds of each way holds of every run
    pub ran_by : run u k v q ≡ Some raw → Goal raw
    ran_by e = go (context_of q v.contexts) refl e
      where
        go : (o : Option Context) → context_of q v.contexts ≡ o → option_and_then (λ x. taken_up u k v x (halt u.code x.state)) o ≡ Some raw → Goal raw
        go None f g = absurd cc
        go (Some x) f g = at_next x f (step u.code (halted u x)) refl (step_sorted u.code (halted u x)) g
