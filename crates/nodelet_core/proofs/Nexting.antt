-- Whether a run of a context that is here leaves anything.
use Rattle.std.proofs.Common.{◌≡◌, ◌≢◌, ℕ, zero, suc, Option, Some, None, refl, sym, ap, ◌∙◌, true}
use Rattle.std.specs.Prelude.{option_map, option_and_then}
use Rattle.word_ops.specs.declared.place.Pos.{Pos}
use Rattle.world_model.specs.Action.{Action}
use Rattle.threadlet_code.specs.declared.code.Code.{Code}
use Rattle.threadlet_code.specs.Breaches.{is_sound}
use Rattle.threadlet_code.specs.Machine.{State, Next, goes, asks, stops, stuck, step}
use Rattle.threadlet_code.specs.Running.{halt}
use Rattle.threadlet_code.specs.Fitting.{Fits}
use Rattle.threadlet_code.proofs.FitLaws.{never_stuck}
use Rattle.threadlet_code.proofs.Halting.{halts_at_due, nothing_silent_is_due}
use Rattle.threadlet_code.proofs.Following.{silent_halts_later, action_halts_here, last_action_halts_here}
use Rattle.core_model.proofs.Halted.{halted_fits}
use Rattle.nodelet_core.specs.declared.next.Next.TheVariants as by
use Rattle.nodelet_core.specs.declared.due.Due.{Due}
use Rattle.nodelet_core.specs.declared.sight.Way as coded
use Rattle.nodelet_core.specs.declared.sight.Way.TheVariants as way
use Rattle.nodelet_core.specs.code.Dues.{due_of, way_seen}
use Rattle.core_model.specs.Contexts.{Context}
use Rattle.core_model.specs.Nodes.{Setup, Node}
use Rattle.core_model.specs.Runs.{Way, Refused, DoneHere, SentTo, Waits, way_of, sight_at, is_free, outside, action_in, done_here, by_way, taken_up}
use Rattle.nodelet_core.specs.Kept.{next_by}

module _ (m : Setup) (here : ℕ) (v : Node) (x : Context) where
  abbrev WayOf : State → Action → Way
  WayOf state action = way_of m.nodelets m.turns (sight_at here v x state) action (is_free here v x.ticket action)

  -- an action that is done leaves something
  done_leaves : (state : State) (count : ℕ) (next : Next) (action : Action) → action_in next ≡ Some action → (o : Option Pos) → by.Goes ≡ next_by (done_here m here v x state count next o)
  done_leaves state count (goes after) action e o = absurd cc
  done_leaves state count stuck action e o = absurd cc
  done_leaves state count next action e (Some at) = refl
  done_leaves state count (asks a resume) action e None = refl
  done_leaves state count (stops a) action e None = refl

  -- so does any way behind a silent instruction
  silent_leaves : (state : State) (silent : ℕ) (next : Next) (action : Action) → action_in next ≡ Some action → (w : Way) → by.Goes ≡ next_by (by_way m here v x state (suc silent) next action w)
  silent_leaves state silent next action e (Refused kind at) = refl
  silent_leaves state silent next action e DoneHere = done_leaves state (suc (suc silent)) next action e (outside m here v action)
  silent_leaves state silent next action e (SentTo k) = refl
  silent_leaves state silent next action e Waits = refl

  -- and without one all but waiting
  pub waits_alone : (state : State) (next : Next) (action : Action) → action_in next ≡ Some action → by.Waits ≡ next_by (by_way m here v x state 0 next action Waits)
  waits_alone state next action e = refl

  pub goes_else : (state : State) (next : Next) (action : Action) → action_in next ≡ Some action → (w : Way) → w ≢ Waits → by.Goes ≡ next_by (by_way m here v x state 0 next action w)
  goes_else state next action e (Refused kind at) on = refl
  goes_else state next action e DoneHere on = done_leaves state 1 next action e (outside m here v action)
  goes_else state next action e (SentTo k) on = refl
  goes_else state next action e Waits on = absurd (on refl)

  module _ (sound : is_sound m.code ≡ true) (state : State) (fits : Fits m.code state) where
    -- at an action nothing silent is taken up
    halts_at : (next : Next) (action : Action) → step m.code state ≡ next → action_in next ≡ Some action → halt m.code state ≡ record { silent = 0; state = state }
    halts_at (asks a resume) action e f = action_halts_here m.code state a resume e
    halts_at (stops a) action e f = last_action_halts_here m.code state a e
    halts_at (goes after) action e f = absurd cc
    halts_at stuck action e f = absurd cc

    pub action_taken : (action : Action) → action_in (step m.code state) ≡ Some action →
        taken_up m here v x (halt m.code state) ≡ by_way m here v x state 0 (step m.code state) action (WayOf state action)
    action_taken action e =
        ap (taken_up m here v x) (halts_at (step m.code state) action refl e)
        ∙ ap (option_and_then (λ a. by_way m here v x state 0 (step m.code state) a (WayOf state a))) e

    -- before a silent instruction a run leaves something
    pub silent_goes : action_in (step m.code state) ≡ None → by.Goes ≡ next_by (taken_up m here v x (halt m.code state))
    silent_goes e = by_step (step m.code state) refl e
      where
        acts_there : (next : Next) → step m.code (halt m.code state).state ≡ next → Fits m.code (halt m.code state).state → (action : Action) × (action_in next ≡ Some action)
        acts_there (goes after) f there = absurd (nothing_silent_is_due m.code sound state after (sym (halts_at_due m.code sound state) ∙ f))
        acts_there stuck f there = absurd (never_stuck m.code sound (halt m.code state).state there f)
        acts_there (asks a resume) f there = (a, refl)
        acts_there (stops a) f there = (a, refl)

        by_step : (next : Next) → step m.code state ≡ next → action_in next ≡ None → by.Goes ≡ next_by (taken_up m here v x (halt m.code state))
        by_step (asks a resume) f g = absurd cc
        by_step (stops a) f g = absurd cc
        by_step stuck f g = absurd (never_stuck m.code sound state fits f)
        by_step (goes after) f g =
            let there : State = (halt m.code state).state in
            let a = acts_there (step m.code there) refl (halted_fits m.code sound state fits) in
            let later : (halt m.code state).silent ≡ suc (halt m.code after).silent = (silent_halts_later m.code sound state after f).1 in
            silent_leaves there (halt m.code after).silent (step m.code there) a.0 a.1 (WayOf there a.0)
            ∙ ap (λ k. next_by (by_way m here v x there k (step m.code there) a.0 (WayOf there a.0))) (sym later)
            ∙ ap (λ o. next_by (option_and_then (λ action. by_way m here v x there (halt m.code state).silent (step m.code there) action (WayOf there action)) o)) (sym a.1)

-- a result of a way that is seen
pub not_waits : (w : coded.Way) → w ≢ way.Waits → way_seen w ≢ Waits
not_waits (way.Refused kind at) on e = absurd cc
not_waits way.DoneHere on e = absurd cc
not_waits (way.SentTo k) on e = absurd cc
not_waits way.Waits on e = on refl

-- the action of which this is what decides
pub due_told : (next : Next) (d : Due) → Some d ≡ option_map due_of (action_in next) → (action : Action) × (action_in next ≡ Some action) × (due_of action ≡ d)
due_told (goes after) d e = absurd (let z : Some d ≡ None = e in cc)
due_told stuck d e = absurd (let z : Some d ≡ None = e in cc)
due_told (asks a resume) d e = (a, refl, let z : Some d ≡ Some (due_of a) = e in cc)
due_told (stops a) d e = (a, refl, let z : Some d ≡ Some (due_of a) = e in cc)

pub none_told : (next : Next) → None ≡ option_map due_of (action_in next) → action_in next ≡ None
none_told (goes after) e = refl
none_told stuck e = refl
none_told (asks a resume) e = absurd (let z : None ≡ Some (due_of a) = e in cc)
none_told (stops a) e = absurd (let z : None ≡ Some (due_of a) = e in cc)
