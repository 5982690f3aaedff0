-- What it means that an action is done at a nodelet, is refused there or is sent elsewhere.
use Rattle.std.proofs.Common.{◌≡◌, ℕ, ◌⊎◌, inl, inr, Option, Some, None, refl, sym, ap, ◌∙◌, Bool, true, false, not, ◌&&◌, ◌||◌, is_some}
use Rattle.std.specs.Prelude.{if◌then◌else◌, ◌==◌}
use Rattle.std.proofs.lemmas.Bool.{eqb-true, eq-eqb}
use Rattle.word_ops.specs.declared.place.Pos.{Pos}
use Rattle.word_ops.specs.declared.ending.TrapKind.{TrapKind}
use Rattle.word_ops.specs.declared.ending.TrapKind.TheVariants.{BadAddress, OutOfBounds}
use Rattle.world_model.specs.Action.{Action, Turn, Load, Issue, Fetch, Init, Fence, Move, Where, Print, Alloc, Spawn, Sync, End, Trap, pos_of}
use Rattle.world_model.specs.Sight.{Sight, is_bad, place_after, can_act, is_leaving, stays}
use Rattle.core_model.specs.Runs.{Refused, DoneHere, SentTo, Waits, way_by, late_way, way_of}
use Rattle.core_model.proofs.Actions.Sights.{both_true, and_true_from, not_both, moves_ready}

pub record IsDone (n turns : ℕ) (s : Sight) (action : Action) (free : Bool) : Type 0 where
  pub good : is_bad n action ≡ false
  pub ready : can_act n turns s action ≡ true
  pub free_now : free ≡ true
  pub stays_here : place_after n s action ≡ s.here
  pub prompt : (s.late ≡ None) ⊎ (is_leaving n s action ≡ false)

pub record IsSent (n : ℕ) (s : Sight) (action : Action) (to : ℕ) : Type 0 where
  pub good : is_bad n action ≡ false
  pub goes : place_after n s action ≡ to
  pub moves : (place_after n s action == s.here) ≡ false
  pub clear : s.clear ≡ true
  pub prompt : s.late ≡ None

-- a late strand that may not leave
pub record IsLate (n turns : ℕ) (s : Sight) (action : Action) (at : Pos) : Type 0 where
  pub good : is_bad n action ≡ false
  pub ready : can_act n turns s action ≡ true
  pub leaving : is_leaving n s action ≡ true
  pub late : s.late ≡ Some at

pub record IsBad (n : ℕ) (action : Action) (kind : TrapKind) (at : Pos) : Type 0 where
  pub bad : is_bad n action ≡ true
  pub kind_is : kind ≡ BadAddress
  pub pos_is : at ≡ pos_of action

-- an action that moves is a leaving one
moves_leaving : (n : ℕ) (s : Sight) (action : Action) → (place_after n s action == s.here) ≡ false → is_leaving n s action ≡ true
moves_leaving n s Fence ne = refl
moves_leaving n s (Spawn d f args hint) ne = refl
moves_leaving n s (End v) ne = refl
moves_leaving n s Turn ne = ap not ne
moves_leaving n s (Load at a) ne = ap not ne
moves_leaving n s (Issue at op a v) ne = ap not ne
moves_leaving n s (Fetch at f a) ne = ap not ne
moves_leaving n s (Init at a v) ne = ap not ne
moves_leaving n s (Move at a) ne = ap not ne
moves_leaving n s Where ne = ap not ne
moves_leaving n s (Print bytes) ne = ap not ne
moves_leaving n s (Alloc request) ne = ap not ne
moves_leaving n s (Sync d) ne = ap not ne
moves_leaving n s (Trap at kind) ne = ap not ne

module _ (n turns : ℕ) (s : Sight) (action : Action) (free : Bool) where
  abbrev k : ℕ
  k = place_after n s action

  abbrev ready : Bool
  ready = can_act n turns s action && free

  by_place : (h r clear : Bool) → (if h then (if r then DoneHere else Waits) else (if clear then SentTo k else Waits)) ≡ DoneHere → (h ≡ true) × (r ≡ true)
  by_place true true clear e = (refl, refl)
  by_place true false clear e = absurd cc
  by_place false r true e = absurd cc
  by_place false r false e = absurd cc

  pub done_way : way_of n turns s action free ≡ DoneHere → IsDone n turns s action free
  done_way e = go (is_bad n action) refl e
    where
      made : is_bad n action ≡ false → way_by n s action ready ≡ DoneHere → (s.late ≡ None) ⊎ (is_leaving n s action ≡ false) → IsDone n turns s action free
      made good f prompt =
          let p = by_place (k == s.here) ready s.clear f in
          let r = both_true _ _ p.1 in
          record { good = good; ready = r.0; free_now = r.1; stays_here = eqb-true _ _ p.0; prompt = prompt }

      late : is_bad n action ≡ false → (o : Option Pos) → s.late ≡ o → late_way n s action ready o ≡ DoneHere → IsDone n turns s action free
      late good None is f = made good f (inl is)
      late good (Some at) is f = leave (is_leaving n s action) refl ready refl f
        where
          leave : (l : Bool) → is_leaving n s action ≡ l → (r : Bool) → ready ≡ r → (if r && l then Refused OutOfBounds at else way_by n s action r) ≡ DoneHere → IsDone n turns s action free
          leave true g true h f = absurd cc
          leave true g false h f = absurd (let p = by_place (k == s.here) false s.clear f in not_both false p.1 refl)
          leave false g true h f = made good (ap (way_by n s action) h ∙ f) (inr g)
          leave false g false h f = made good (ap (way_by n s action) h ∙ f) (inr g)

      go : (t : Bool) → is_bad n action ≡ t → (if t then Refused BadAddress (pos_of action) else late_way n s action ready s.late) ≡ DoneHere → IsDone n turns s action free
      go true bad f = absurd cc
      go false good f = late good s.late refl f

  sent_by : (to : ℕ) (h r clear : Bool) → (if h then (if r then DoneHere else Waits) else (if clear then SentTo k else Waits)) ≡ SentTo to → (h ≡ false) × (clear ≡ true) × (k ≡ to)
  sent_by to true true clear e = absurd cc
  sent_by to true false clear e = absurd cc
  sent_by to false r true e = (refl, refl, let z : k ≡ to = cc in z)
  sent_by to false r false e = absurd cc

  pub sent_way : (to : ℕ) → ((k == s.here) ≡ false → free ≡ true) → way_of n turns s action free ≡ SentTo to → IsSent n s action to
  sent_way to is_free e = go (is_bad n action) refl e
    where
      late : is_bad n action ≡ false → (o : Option Pos) → s.late ≡ o → late_way n s action ready o ≡ SentTo to → IsSent n s action to
      late good None is f =
          let p = sent_by to (k == s.here) ready s.clear f in
          record { good = good; goes = p.2; moves = p.0; clear = p.1; prompt = is }
      late good (Some at) is f = leave (ready && is_leaving n s action) refl f
        where
          leave : (t : Bool) → (ready && is_leaving n s action) ≡ t → (if t then Refused OutOfBounds at else way_by n s action ready) ≡ SentTo to → IsSent n s action to
          leave true g f = absurd cc
          leave false g f =
              let p = sent_by to (k == s.here) ready s.clear f in
              let acts : can_act n turns s action ≡ true = moves_ready n turns s action p.1 (ap is_some is) p.0 in
              let both : (ready && is_leaving n s action) ≡ true = and_true_from _ _ (and_true_from _ _ acts (is_free p.0)) (moves_leaving n s action p.0) in
              not_both _ both g

      go : (t : Bool) → is_bad n action ≡ t → (if t then Refused BadAddress (pos_of action) else late_way n s action ready s.late) ≡ SentTo to → IsSent n s action to
      go true bad f = absurd cc
      go false good f = late good s.late refl f

  never_refused : {A : Type 0} (kind : TrapKind) (at : Pos) (h r clear : Bool) → (if h then (if r then DoneHere else Waits) else (if clear then SentTo k else Waits)) ≡ Refused kind at → A
  never_refused kind at true true clear e = absurd cc
  never_refused kind at true false clear e = absurd cc
  never_refused kind at false r true e = absurd cc
  never_refused kind at false r false e = absurd cc

  pub refused_way : (kind : TrapKind) (at : Pos) → way_of n turns s action free ≡ Refused kind at → IsBad n action kind at ⊎ (IsLate n turns s action at × (kind ≡ OutOfBounds))
  refused_way kind at e = go (is_bad n action) refl e
    where
      late : is_bad n action ≡ false → (o : Option Pos) → s.late ≡ o → late_way n s action ready o ≡ Refused kind at → IsBad n action kind at ⊎ (IsLate n turns s action at × (kind ≡ OutOfBounds))
      late good None is f = never_refused kind at (k == s.here) ready s.clear f
      late good (Some p) is f = leave (ready && is_leaving n s action) refl f
        where
          leave : (t : Bool) → (ready && is_leaving n s action) ≡ t → (if t then Refused OutOfBounds p else way_by n s action ready) ≡ Refused kind at → IsBad n action kind at ⊎ (IsLate n turns s action at × (kind ≡ OutOfBounds))
          leave true g f =
              let parts = both_true ready (is_leaving n s action) g in
              let same : p ≡ at = cc in
              inr (record { good = good; ready = (both_true _ _ parts.0).0; leaving = parts.1; late = is ∙ ap Some same }, let z : kind ≡ OutOfBounds = cc in z)
          leave false g f = never_refused kind at (k == s.here) ready s.clear f

      go : (t : Bool) → is_bad n action ≡ t → (if t then Refused BadAddress (pos_of action) else late_way n s action ready s.late) ≡ Refused kind at → IsBad n action kind at ⊎ (IsLate n turns s action at × (kind ≡ OutOfBounds))
      go true bad f = inl (record { bad = bad; kind_is = let z : kind ≡ BadAddress = cc in z; pos_is = let z : at ≡ pos_of action = cc in z })
      go false good f = late good s.late refl f

-- a leaving action is ready only with nothing under way
pub leaving_clear : (n turns : ℕ) (s : Sight) (action : Action) → is_leaving n s action ≡ true → can_act n turns s action ≡ true → s.clear ≡ true
leaving_clear n turns s action leaving ready = by action leaving ready
  where
    same : {A : Type 0} (h : ℕ) → not (h == h) ≡ true → A
    same h e = absurd (let z : false ≡ true = sym (ap not (eq-eqb h h refl)) ∙ e in cc)

    or_clear : (t clear : Bool) → not t ≡ true → (t || clear) ≡ true → clear ≡ true
    or_clear true clear e f = absurd cc
    or_clear false clear e f = f

    by : (a : Action) → is_leaving n s a ≡ true → can_act n turns s a ≡ true → s.clear ≡ true
    by Fence e r = r
    by (Spawn d f args hint) e r = r
    by (End v) e r = r
    by Turn e r = same s.here e
    by (Issue at op a v) e r = same s.here e
    by (Init at a v) e r = same s.here e
    by Where e r = same s.here e
    by (Trap at kind) e r = same s.here e
    by (Load at a) e r = or_clear (stays n s (Load at a)) s.clear e r
    by (Fetch at f a) e r = or_clear (stays n s (Fetch at f a)) s.clear e r
    by (Move at a) e r = or_clear (stays n s (Move at a)) s.clear e r
    by (Print bytes) e r = or_clear (stays n s (Print bytes)) s.clear e r
    by (Alloc request) e r = or_clear (stays n s (Alloc request)) s.clear e r
    by (Sync d) e r = sync (s.childless d) (s.all_ended d) (s.here == s.home) refl s.clear (is_some s.late) e r
      where
        sync : (childless ended home : Bool) → (s.here == s.home) ≡ home → (clear late : Bool) → not ((if childless then s.here else s.home) == s.here) ≡ true →
            (childless || (ended && (home || clear)) || (clear && late && not home)) ≡ true → clear ≡ true
        sync true ended home h clear late e r = same s.here e
        sync false ended home h true late e r = refl
        sync false ended true h false late e r = same s.here (ap (λ y. not (y == s.here)) (eqb-true _ _ h) ∙ e)
        sync false true false h false late e r = absurd cc
        sync false false false h false late e r = absurd cc
