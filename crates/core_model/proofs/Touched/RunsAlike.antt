-- A strand of which two nodes hold the same can go on at one of them where it can at the other.
use Rattle.std.proofs.Common.{◌≡◌, ℕ, zero, suc, Option, Some, None, refl, sym, ap, ◌∙◌, Bool, true, not, ◌&&◌, ◌||◌, nat_lt, is_some, option_and_then}
use Rattle.std.specs.Prelude.{if◌then◌else◌, ◌==◌}
use Rattle.std.specs.List.{list_all}
use Rattle.std.proofs.Math.Path.{fun_ext}
use Rattle.word_ops.specs.declared.place.Pos.{Pos}
use Rattle.word_ops.specs.declared.name.Name.{Name}
use Rattle.word_ops.specs.declared.ending.TrapKind.TheVariants.{BadAddress, OutOfBounds}
use Rattle.word_ops.specs.Report.{below}
use Rattle.world_model.specs.Action.{Action, Turn, Load, Issue, Fetch, Init, Fence, Move, Where, Print, Alloc, Spawn, Sync, End, Trap, pos_of}
use Rattle.world_model.specs.Sight.{Sight, is_bad, place_after, can_act, is_leaving, stays}
use Rattle.threadlet_code.specs.Machine.{State, Next, goes, asks, stops, stuck, step}
use Rattle.threadlet_code.specs.Running.{halt, owed}
use Rattle.core_model.specs.Contexts.{Context, context_of}
use Rattle.core_model.specs.Nodes.{Setup, Node}
use Rattle.core_model.specs.Runs.{Way, Refused, DoneHere, SentTo, Waits, way_by, late_way, way_of, sight_at, is_free, done_here, stays_before, by_way, taken_up, run, action_in}
use Rattle.core_model.proofs.Invariant.ContextsByName.{context_of-name}
use Rattle.core_model.proofs.Actions.RunOutcomes.{halted, silent_of}

-- two nodes hold the same of a strand: its context, what is under way of it, and its children's results
pub record Alike (q : Name) (v w : Node) : Type 0 where
  pub context : context_of q v.contexts ≡ context_of q w.contexts
  pub under_way : v.under_way q ≡ w.under_way q
  pub results : (d o : ℕ) → v.results q d o ≡ w.results q d o

module _ (u : Setup) (k : ℕ) (q : Name) (v w : Node) (alike : Alike q v w) (turns : nat_lt v.served u.turns ≡ nat_lt w.served u.turns) where
  abbrev n : ℕ
  n = u.nodelets

  module _ (x : Context) (named : x.name ≡ q) (state : State) where
    abbrev s : Sight
    s = sight_at k v x state

    abbrev t : Sight
    t = sight_at k w x state

    clear_same : s.clear ≡ t.clear
    clear_same = ap (λ i. i == 0) (ap v.under_way named ∙ alike.under_way ∙ sym (ap w.under_way named))

    ended_same : (d : ℕ) → s.all_ended d ≡ t.all_ended d
    ended_same d = ap (λ f. list_all f (below (owed d state)))
        (fun_ext (λ o. ap is_some (ap (λ r. v.results r d o) named ∙ alike.results d o ∙ sym (ap (λ r. w.results r d o) named))))

    place_same : (a : Action) → place_after n s a ≡ place_after n t a
    place_same Turn = refl
    place_same (Load at a) = refl
    place_same (Issue at op a word) = refl
    place_same (Fetch at f a) = refl
    place_same (Init at a word) = refl
    place_same Fence = refl
    place_same (Move at a) = refl
    place_same Where = refl
    place_same (Print bytes) = refl
    place_same (Alloc request) = refl
    place_same (Spawn d f args hint) = refl
    place_same (Sync d) = refl
    place_same (End value) = refl
    place_same (Trap at kind) = refl

    leaving_same : (a : Action) → is_leaving n s a ≡ is_leaving n t a
    leaving_same Turn = refl
    leaving_same (Load at a) = refl
    leaving_same (Issue at op a word) = refl
    leaving_same (Fetch at f a) = refl
    leaving_same (Init at a word) = refl
    leaving_same Fence = refl
    leaving_same (Move at a) = refl
    leaving_same Where = refl
    leaving_same (Print bytes) = refl
    leaving_same (Alloc request) = refl
    leaving_same (Spawn d f args hint) = refl
    leaving_same (Sync d) = refl
    leaving_same (End value) = refl
    leaving_same (Trap at kind) = refl

    acts_same : (a : Action) → can_act n u.turns s a ≡ can_act n u.turns t a
    acts_same Turn = turns
    acts_same (Load at a) = ap (λ c. stays n s (Load at a) || c) clear_same
    acts_same (Issue at op a word) = refl
    acts_same (Fetch at f a) = ap (λ c. stays n s (Fetch at f a) || c) clear_same
    acts_same (Init at a word) = refl
    acts_same Fence = clear_same
    acts_same (Move at a) = ap (λ c. stays n s (Move at a) || c) clear_same
    acts_same Where = refl
    acts_same (Print bytes) = ap (λ c. stays n s (Print bytes) || c) clear_same
    acts_same (Alloc request) = ap (λ c. stays n s (Alloc request) || c) clear_same
    acts_same (Spawn d f args hint) = clear_same
    acts_same (Sync d) =
        let home : Bool = k == x.home in
        ap (λ e. s.childless d || (e && (home || s.clear)) || (s.clear && is_some x.late && not home)) (ended_same d)
        ∙ ap (λ c. s.childless d || (t.all_ended d && (home || c)) || (c && is_some x.late && not home)) clear_same
    acts_same (End value) = clear_same
    acts_same (Trap at kind) = refl

    by_same : (a : Action) (ready : Bool) → way_by n s a ready ≡ way_by n t a ready
    by_same a ready =
        ap (λ p. if p == k then (if ready then DoneHere else Waits) else (if s.clear then SentTo p else Waits)) (place_same a)
        ∙ ap (λ c. if place_after n t a == k then (if ready then DoneHere else Waits) else (if c then SentTo (place_after n t a) else Waits)) clear_same

    late_same : (a : Action) (ready : Bool) (o : Option Pos) → late_way n s a ready o ≡ late_way n t a ready o
    late_same a ready None = by_same a ready
    late_same a ready (Some at) =
        ap (λ l. if ready && l then Refused OutOfBounds at else way_by n s a ready) (leaving_same a)
        ∙ ap (λ y. if ready && is_leaving n t a then Refused OutOfBounds at else y) (by_same a ready)

    way_same : (a : Action) → is_free k v x.ticket a ≡ is_free k w x.ticket a →
        way_of n u.turns s a (is_free k v x.ticket a) ≡ way_of n u.turns t a (is_free k w x.ticket a)
    way_same a free =
        ap (λ r. if is_bad n a then Refused BadAddress (pos_of a) else late_way n s a (r && is_free k v x.ticket a) x.late) (acts_same a)
        ∙ ap (λ f. if is_bad n a then Refused BadAddress (pos_of a) else late_way n s a (can_act n u.turns t a && f) x.late) free
        ∙ ap (λ y. if is_bad n a then Refused BadAddress (pos_of a) else y) (late_same a (can_act n u.turns t a && is_free k w x.ticket a) x.late)

  -- by the same way both leave something, or neither
  left_same : (x : Context) (state : State) (silent : ℕ) (next : Next) (a : Action) → action_in next ≡ Some a → (way : Way) →
      is_some (by_way u k v x state silent next a way) ≡ is_some (by_way u k w x state silent next a way)
  left_same x state silent next a e (Refused kind at) = refl
  left_same x state silent next a e (SentTo to) = refl
  left_same x state silent next a e Waits = waits silent
    where
      waits : (m : ℕ) → is_some (stays_before v x state m) ≡ is_some (stays_before w x state m)
      waits zero = refl
      waits (suc m) = refl
  left_same x state silent next a e DoneHere = done v next _ e ∙ sym (done w next _ e)
    where
      done : (y : Node) (next' : Next) (o : Option Pos) → action_in next' ≡ Some a → is_some (done_here u k y x state (suc silent) next' o) ≡ true
      done y (goes after) o f = absurd cc
      done y stuck o f = absurd cc
      done y (asks action resume) None f = refl
      done y (asks action resume) (Some at) f = refl
      done y (stops action) None f = refl
      done y (stops action) (Some at) f = refl

  taken_same : (x : Context) → x.name ≡ q → ((a : Action) → is_free k v x.ticket a ≡ is_free k w x.ticket a) →
      is_some (taken_up u k v x (halt u.code x.state)) ≡ is_some (taken_up u k w x (halt u.code x.state))
  taken_same x named free = go (action_in (step u.code (halted u x))) refl
    where
      go : (o : Option Action) → action_in (step u.code (halted u x)) ≡ o →
          is_some (option_and_then (λ a. by_way u k v x (halted u x) (silent_of u x) (step u.code (halted u x)) a (way_of n u.turns (sight_at k v x (halted u x)) a (is_free k v x.ticket a))) o)
          ≡ is_some (option_and_then (λ a. by_way u k w x (halted u x) (silent_of u x) (step u.code (halted u x)) a (way_of n u.turns (sight_at k w x (halted u x)) a (is_free k w x.ticket a))) o)
      go None e = refl
      go (Some a) e =
          ap (λ y. is_some (by_way u k v x (halted u x) (silent_of u x) (step u.code (halted u x)) a y)) (way_same x named (halted u x) a (free a))
          ∙ left_same x (halted u x) (silent_of u x) (step u.code (halted u x)) a e (way_of n u.turns (sight_at k w x (halted u x)) a (is_free k w x.ticket a))

  -- where besides its End is held up at both or at neither
  pub runs_alike : ((x : Context) → context_of q w.contexts ≡ Some x → (a : Action) → is_free k v x.ticket a ≡ is_free k w x.ticket a) →
      is_some (run u k v q) ≡ is_some (run u k w q)
  runs_alike free =
      ap (λ o. is_some (option_and_then (λ x. taken_up u k v x (halt u.code x.state)) o)) alike.context ∙ go (context_of q w.contexts) refl
    where
      go : (o : Option Context) → context_of q w.contexts ≡ o →
          is_some (option_and_then (λ x. taken_up u k v x (halt u.code x.state)) o) ≡ is_some (option_and_then (λ x. taken_up u k w x (halt u.code x.state)) o)
      go None e = refl
      go (Some x) e = taken_same x (context_of-name q w.contexts x e) (free x e)
