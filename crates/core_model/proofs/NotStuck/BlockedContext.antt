-- What keeps a context from going on where nothing is under way: turns that are spent, or children that live.
use Rattle.std.proofs.Common.{◌≡◌, ℕ, suc, ◌⊎◌, inl, inr, Option, Some, None, refl, Bool, true, false, not, ◌&&◌, ◌||◌, is_some, nat_lt}
use Rattle.std.specs.Prelude.{if◌then◌else◌, ◌==◌}
use Rattle.std.proofs.lemmas.Bool.{eqb-true}
use Rattle.word_ops.specs.declared.place.Pos.{Pos}
use Rattle.word_ops.specs.declared.ending.TrapKind.TheVariants.{BadAddress, OutOfBounds}
use Rattle.world_model.specs.Action.{Action, Turn, Load, Issue, Fetch, Init, Fence, Move, Where, Print, Alloc, Spawn, Sync, End, Trap, pos_of}
use Rattle.world_model.specs.Sight.{Sight, is_bad, place_after, can_act, is_leaving, stays}
use Rattle.threadlet_code.specs.Machine.{State, Next, goes, asks, stops, stuck}
use Rattle.core_model.specs.Contexts.{Context}
use Rattle.core_model.specs.Nodes.{Setup, Node}
use Rattle.core_model.specs.Runs.{Way, Refused, DoneHere, SentTo, Waits, way_by, late_way, way_of, action_in, outside, has_effect, done_here, by_way}
use Rattle.core_model.proofs.Actions.Sights.{and_true_from, not_both}

-- ---- a run that leaves nothing waits

no_effect : {A : Type 0} (u : Setup) (k : ℕ) (v : Node) (x : Context) (state : State) (count : ℕ) (next : Next) (action : Action) → action_in next ≡ Some action → has_effect u k v x state count next ≡ None → A
no_effect u k v x state count (asks a resume) action is e = absurd cc
no_effect u k v x state count (stops a) action is e = absurd cc
no_effect u k v x state count (goes after) action is e = absurd cc
no_effect u k v x state count stuck action is e = absurd cc

pub way_waits : (u : Setup) (k : ℕ) (v : Node) (x : Context) (state : State) (silent : ℕ) (next : Next) (action : Action) (way : Way) → action_in next ≡ Some action →
    by_way u k v x state silent next action way ≡ None → way ≡ Waits
way_waits u k v x state silent next action (Refused kind at) is e = absurd cc
way_waits u k v x state silent next action (SentTo to) is e = absurd cc
way_waits u k v x state silent next action Waits is e = refl
way_waits u k v x state silent next action DoneHere is e = go (outside u k v action) e
  where
    go : (o : Option Pos) → done_here u k v x state (suc silent) next o ≡ None → DoneHere ≡ Waits
    go None f = no_effect u k v x state (suc silent) next action is f
    go (Some at) f = absurd cc

-- ---- an action that waits though nothing is under way

pub record IsHeld (n turns : ℕ) (s : Sight) (action : Action) (free : Bool) : Type 0 where
  pub good : is_bad n action ≡ false
  pub stays_here : place_after n s action ≡ s.here
  pub not_ready : (can_act n turns s action && free) ≡ false

pub held_way : (n turns : ℕ) (s : Sight) (action : Action) (free : Bool) → way_of n turns s action free ≡ Waits → s.clear ≡ true → IsHeld n turns s action free
held_way n turns s action free e clear = go (is_bad n action) refl e
  where
    by_place : (h r quiet : Bool) → (if h then (if r then DoneHere else Waits) else (if quiet then SentTo (place_after n s action) else Waits)) ≡ Waits → quiet ≡ true → (h ≡ true) × (r ≡ false)
    by_place true true quiet f g = absurd cc
    by_place true false quiet f g = (refl, refl)
    by_place false r true f g = absurd cc
    by_place false r false f g = absurd cc

    made : is_bad n action ≡ false → way_by n s action (can_act n turns s action && free) ≡ Waits → IsHeld n turns s action free
    made good f =
        let p = by_place (place_after n s action == s.here) (can_act n turns s action && free) s.clear f clear in
        record { good = good; stays_here = eqb-true _ _ p.0; not_ready = p.1 }

    late : is_bad n action ≡ false → (o : Option Pos) → late_way n s action (can_act n turns s action && free) o ≡ Waits → IsHeld n turns s action free
    late good None f = made good f
    late good (Some at) f = leave ((can_act n turns s action && free) && is_leaving n s action) f
      where
        leave : (t : Bool) → (if t then Refused OutOfBounds at else way_by n s action (can_act n turns s action && free)) ≡ Waits → IsHeld n turns s action free
        leave true g = absurd cc
        leave false g = made good g

    go : (t : Bool) → is_bad n action ≡ t → (if t then Refused BadAddress (pos_of action) else late_way n s action (can_act n turns s action && free) s.late) ≡ Waits → IsHeld n turns s action free
    go true bad f = absurd cc
    go false good f = late good s.late f

-- it waits for children
pub record ForChildren (s : Sight) (action : Action) : Type 0 where
  pub depth : ℕ
  pub is : action ≡ Sync depth
  pub childless : s.childless depth ≡ false
  pub all_ended : s.all_ended depth ≡ false
  pub at_home : s.home ≡ s.here

-- or for a turn
abbrev pub ForTurn : ℕ → Sight → Action → Type 0
ForTurn turns s action = (action ≡ Turn) × (nat_lt s.served turns ≡ false)

unready : {A : Type 0} (acts free : Bool) → acts ≡ true → free ≡ true → (acts && free) ≡ false → A
unready acts free e f g = not_both (acts && free) (and_true_from acts free e f) g

pub waits_for : (n turns : ℕ) (s : Sight) (action : Action) (free : Bool) → IsHeld n turns s action free → s.clear ≡ true → free ≡ true → ForTurn turns s action ⊎ ForChildren s action
waits_for n turns s action free held clear now = by action held.stays_here held.not_ready
  where
    moving : {A : Type 0} (a : Action) → ((stays n s a || s.clear) && free) ≡ false → A
    moving a e = unready (stays n s a || s.clear) free (either (stays n s a)) now e
      where
        either : (t : Bool) → (t || s.clear) ≡ true
        either true = refl
        either false = clear

    first : (acts : Bool) → (acts && free) ≡ false → acts ≡ false
    first true e = not_both free now e
    first false e = refl

    sync : (d : ℕ) → (childless ended home quiet late : Bool) → s.childless d ≡ childless → s.all_ended d ≡ ended → quiet ≡ true → (if childless then s.here else s.home) ≡ s.here →
        (childless || (ended && (home || quiet)) || (quiet && late && not home)) ≡ false → ForChildren s (Sync d)
    sync d true ended home quiet late e f g h i = absurd cc
    sync d false true true quiet late e f g h i = absurd cc
    sync d false true false true late e f g h i = absurd cc
    sync d false true false false late e f g h i = absurd cc
    sync d false false home quiet late e f g h i = record { depth = d; is = refl; childless = e; all_ended = f; at_home = h }

    by : (a : Action) → place_after n s a ≡ s.here → (can_act n turns s a && free) ≡ false → ForTurn turns s a ⊎ ForChildren s a
    by Turn h e = inl (refl, first (nat_lt s.served turns) e)
    by (Sync d) h e = inr (sync d (s.childless d) (s.all_ended d) (s.here == s.home) s.clear (is_some s.late) refl refl clear h (first _ e))
    by Fence h e = unready s.clear free clear now e
    by (Spawn d f args hint) h e = unready s.clear free clear now e
    by (End value) h e = unready s.clear free clear now e
    by (Issue at op a v) h e = not_both free now e
    by (Init at a v) h e = not_both free now e
    by Where h e = not_both free now e
    by (Trap at kind) h e = not_both free now e
    by (Load at a) h e = moving (Load at a) e
    by (Fetch at f a) h e = moving (Fetch at f a) e
    by (Move at a) h e = moving (Move at a) e
    by (Print bytes) h e = moving (Print bytes) e
    by (Alloc request) h e = moving (Alloc request) e
