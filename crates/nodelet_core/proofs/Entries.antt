-- The entry of a context that goes on, by what becomes of its action.
use Rattle.std.proofs.Common.{◌≡◌, ℕ, zero, suc, ◌+◌, Option, Some, None, refl, sym, ap, ◌∙◌, arith, Bool, true, false, ℤ}
use Rattle.std.specs.Prelude.{if◌then◌else◌, ◌==◌}
use Rattle.word_ops.specs.declared.place.Pos.{Pos}
use Rattle.word_ops.specs.declared.name.Name.{Name}
use Rattle.word_ops.specs.declared.ticket.Ticket.{Ticket}
use Rattle.word_ops.specs.declared.step.Step.{Step}
use Rattle.word_ops.specs.declared.step.Step.TheVariants.{Act}
use Rattle.word_ops.specs.declared.step.Entry.{Entry}
use Rattle.word_ops.specs.declared.step.NodeEvent.TheVariants.{Run}
use Rattle.world_model.specs.Action.{Action, Turn, Load, Issue, Fetch, Init, Fence, Move, Where, Print, Alloc, Spawn, Sync, End, Trap, Request, Striped, Blocked, Local, Replicated}
use Rattle.world_model.specs.Allocation.{taken_from}
use Rattle.world_model.specs.World.{Extent}
use Rattle.threadlet_code.specs.declared.code.Code.{Code}
use Rattle.threadlet_code.specs.Machine.{State, Next, goes, asks, stops, stuck, step}
use Rattle.nodelet_core.specs.declared.due.Due.{Due}
use Rattle.nodelet_core.specs.declared.sight.Way as coded
use Rattle.nodelet_core.specs.declared.sight.Way.TheVariants as way
use Rattle.nodelet_core.specs.code.Dues.{due_of, way_seen}
use Rattle.core_model.specs.Contexts.{Context}
use Rattle.core_model.specs.Nodes.{Setup, Node}
use Rattle.core_model.specs.Effects.{Effect, effect, announced, allocated, ended}
use Rattle.core_model.specs.Runs.{Outcome, outside, action_in, done_here, by_way}
use Rattle.nodelet_core.specs.code.Doing.{child_named}
use Rattle.nodelet_core.proofs.Resuming.{is_answered, comes_asked}

-- ---- the child of an action

either : (b : Bool) (e f : Effect) (o : Option Name) → e.child ≡ o → f.child ≡ o → (if b then e else f).child ≡ o
either true e f o p q = p
either false e f o p q = q

announced_none : (n : ℕ) (v : Node) (name : Name) (request : Request) (fresh : Option Extent) (address : ℤ) → (announced n v name request fresh address).child ≡ None
announced_none n v name request None address = refl
announced_none n v name (Striped words) (Some extent) address = refl
announced_none n v name (Blocked blocks words) (Some extent) address = refl
announced_none n v name (Local at words a) (Some extent) address = refl
announced_none n v name (Replicated words) (Some extent) address = refl

allocated_none : (m : Setup) (v : Node) (name : Name) (request : Request) (taken : Option (ℕ × ℤ)) → (allocated m v name request taken).child ≡ None
allocated_none m v name request None = refl
allocated_none m v name request (Some taken) = announced_none m.nodelets _ name request _ _

ended_none : (here : ℕ) (v : Node) (ticket : Option Ticket) (value : ℤ) → (ended here v ticket value).child ≡ None
ended_none here v None value = refl
ended_none here v (Some t) value = either (t.home == here) _ _ None refl refl

-- What a strand stops at is not answered.
stops_unanswered : (code : Code) (state : State) (a : Action) → step code state ≡ stops a → is_answered (due_of a) ≡ false
stops_unanswered code state a e = go (is_answered (due_of a)) refl
  where
    go : (b : Bool) → is_answered (due_of a) ≡ b → is_answered (due_of a) ≡ false
    go false f = f
    go true f =
        let asked = comes_asked code state a (ap action_in e) f in
        absurd (let wrong : stops a ≡ asks a asked.0 = sym e ∙ asked.1 in cc)

module _ (m : Setup) (here : ℕ) (v : Node) (x : Context) (state : State) where
  -- Only a Spawn has one.
  child_is : (action : Action) → (effect m here v x state action).child ≡ child_named here v (due_of action)
  child_is Turn = refl
  child_is (Load at a) = refl
  child_is (Issue at op a word) = either _ _ _ None refl refl
  child_is (Fetch at f a) = refl
  child_is (Init at a word) = refl
  child_is Fence = refl
  child_is (Move at a) = refl
  child_is Where = refl
  child_is (Print bytes) = refl
  child_is (Alloc request) = allocated_none m v x.name request (taken_from m.nodelets here request)
  child_is (Spawn d function args hint) = either _ _ _ _ refl refl
  child_is (Sync d) = refl
  child_is (End value) = ended_none here v x.ticket value
  child_is (Trap at kind) = refl

  -- One that uses a word has none.
  outside_childless : (action : Action) (at : Pos) → outside m here v action ≡ Some at → child_named here v (due_of action) ≡ None
  outside_childless (Spawn d function args hint) at e = absurd (let wrong : None ≡ Some at = e in cc)
  outside_childless action at e = refl

  -- ---- what an outcome counts and does

  -- How many instructions a context took up, of which so many are silent, and its step.
  abbrev pub told_by : coded.Way → ℕ → Due → ℕ × Option Step
  told_by way.Waits silent due = (silent, None)
  told_by (way.SentTo k) silent due = (silent + 1, None)
  told_by (way.Refused kind at) silent due = (silent + 1, Some (Act x.name None))
  told_by way.DoneHere silent due = (silent + 1, Some (Act x.name (child_named here v due)))

  abbrev Tells : ℕ → Option Step → Outcome → Type 0
  Tells count made left = (left.count ≡ count) × (left.step ≡ made)

  told : (count : ℕ) (made : Option Step) (first left : Outcome) → Some first ≡ Some left → Tells count made first → Tells count made left
  told count made first left e t = let same : first ≡ left = cc in (ap (λ (o : Outcome). o.count) (sym same) ∙ t.0, ap (λ (o : Outcome). o.step) (sym same) ∙ t.1)

  done_tells : (count : ℕ) (next : Next) (action : Action) (left : Outcome) → action_in next ≡ Some action → ((a : Action) → next ≡ stops a → is_answered (due_of a) ≡ false) →
      (o : Option Pos) → outside m here v action ≡ o → done_here m here v x state count next o ≡ Some left → Tells count (Some (Act x.name (child_named here v (due_of action)))) left
  done_tells count next action left a last (Some at) out e =
      told count _ _ left e (refl, ap (λ c. Some (Act x.name c)) (sym (outside_childless action at out)))
  done_tells count (asks asked resume) action left a last None out e =
      let same : asked ≡ action = cc in
      told count _ _ left e (refl, ap (λ c. Some (Act x.name c)) (child_is asked ∙ ap (λ (w : Action). child_named here v (due_of w)) same))
  done_tells count (stops (End value)) action left a last None out e =
      let same : End value ≡ action = cc in
      told count _ _ left e (refl, ap (λ (w : Action). Some (Act x.name (child_named here v (due_of w)))) same)
  done_tells count (stops (Trap at kind)) action left a last None out e =
      let same : Trap at kind ≡ action = cc in
      told count _ _ left e (refl, ap (λ (w : Action). Some (Act x.name (child_named here v (due_of w)))) same)
  done_tells count (stops other) action left a last None out e = absurd (let wrong : true ≡ false = last other refl in cc)
  done_tells count (goes after) action left a last None out e = absurd (let wrong : None ≡ Some left = e in cc)
  done_tells count stuck action left a last None out e = absurd (let wrong : None ≡ Some left = e in cc)

  one_more : (n : ℕ) → suc n ≡ n + 1
  one_more n = omega arith

  way_tells : (silent : ℕ) (next : Next) (action : Action) (w : coded.Way) (left : Outcome) → action_in next ≡ Some action → ((a : Action) → next ≡ stops a → is_answered (due_of a) ≡ false) →
      by_way m here v x state silent next action (way_seen w) ≡ Some left → Tells (told_by w silent (due_of action)).0 (told_by w silent (due_of action)).1 left
  way_tells silent next action (way.Refused kind at) left a last e = told _ _ _ left e (one_more silent, refl)
  way_tells silent next action way.DoneHere left a last e =
      let t = done_tells (suc silent) next action left a last (outside m here v action) refl e in (t.0 ∙ one_more silent, t.1)
  way_tells silent next action (way.SentTo k) left a last e = told _ _ _ left e (one_more silent, refl)
  way_tells zero next action way.Waits left a last e = absurd (let wrong : None ≡ Some left = e in cc)
  way_tells (suc silent) next action way.Waits left a last e = told _ _ _ left e (refl, refl)

  -- ---- the entry

  abbrev pub entry_with : ℕ × Option Step → Entry
  entry_with p = record { stamp = v.stamp + 1; event = Run x.name p.0; step = p.1 }

  pub entry_is : (code : Code) (silent : ℕ) (action : Action) (due : Due) (w : coded.Way) (left : Outcome) → action_in (step code state) ≡ Some action → due_of action ≡ due →
      by_way m here v x state silent (step code state) action (way_seen w) ≡ Some left →
      entry_with (told_by w silent due) ≡ record { stamp = suc v.stamp; event = Run x.name left.count; step = left.step }
  entry_is code silent action due w left comes decides e =
      let t = way_tells silent (step code state) action w left comes (stops_unanswered code state) e in
      ap (λ (d : Due). entry_with (told_by w silent d)) (sym decides)
      ∙ ap (λ count. entry_with (count, (told_by w silent (due_of action)).1)) (sym t.0)
      ∙ ap (λ made. entry_with (left.count, made)) (sym t.1)
      ∙ ap (λ stamp. let it : Entry = record { stamp = stamp; event = Run x.name left.count; step = left.step } in it) (sym (one_more v.stamp))
