-- An action that is done, or refused, at a nodelet is so in the world.
use Rattle.std.proofs.Common.{◌≡◌, ℕ, ◌⊎◌, inl, inr, Option, Some, None, refl, sym, ap, ◌∙◌, subst, Bool, true, false, not, ◌&&◌, ◌||◌, ⊎_elim, ℤ, is_some, option_map, option_and_then, IfSome}
use Rattle.std.specs.Prelude.{if◌then◌else◌, ◌==◌}
use Rattle.std.specs.Option.{option_or}
use Rattle.std.proofs.lemmas.Bool.{eqb-true, eq-eqb}
use Rattle.word_ops.specs.declared.place.Pos.{Pos}
use Rattle.word_ops.specs.declared.name.Name.{Name}
use Rattle.word_ops.specs.declared.step.Step.TheVariants.{Act}
use Rattle.word_ops.specs.declared.ending.TrapKind.{TrapKind}
use Rattle.word_ops.specs.declared.ending.TrapKind.TheVariants.{BadAddress, OutOfBounds}
use Rattle.data_layout.specs.Address.{owner_of}
use Rattle.world_model.specs.Action.{Action, Turn, Load, Issue, Fetch, Init, Fence, Move, Where, Print, Alloc, Spawn, Sync, End, Trap, pos_of}
use Rattle.world_model.specs.Sight.{Sight, is_bad, place_after, can_act, can_sync, is_leaving, is_ready, stays}
use Rattle.world_model.specs.World.{Strand, World, strand_of, with_strand, with_trap, is_empty, children_at}
use Rattle.world_model.specs.World as world
use Rattle.world_model.specs.Step.{Refusal, acted, done_by, refusal_of, refused_as_late, refused_as_outside, used_at_once, step, due}
use Rattle.threadlet_code.specs.Breaches.{is_sound}
use Rattle.threadlet_code.specs.Machine.{State}
use Rattle.core_model.specs.Contexts.{Context}
use Rattle.core_model.specs.Nodes.{Setup, is_granted}
use Rattle.core_model.specs.Runs.{outside}
use Rattle.core_model.specs.Core.{Core, setting_of}
use Rattle.core_model.proofs.Invariant.Views.{view}
use Rattle.core_model.proofs.Invariant.Statement.{IsAway, Invariant}
use Rattle.core_model.proofs.Actions.Sights.{Sees, and_true_from, can_act-same, place_after-same, is_leaving-same, moves_ready}
use Rattle.core_model.proofs.Actions.DueContext.{Before, seen_here, seen, is_due, away_action, sees, none_under_way, world_clear, same_late, childless_same, all_ended_same}
use Rattle.core_model.proofs.Actions.Ways.{IsDone, IsLate, leaving_clear}

or_left : (a b : Bool) → a ≡ true → (a || b) ≡ true
or_left a b e = rw e refl

or_right : (a b : Bool) → b ≡ true → (a || b) ≡ true
or_right true b e = refl
or_right false b e = e

-- a word used at once is used where the strand is then
abbrev GoesTo : ℕ → ℕ → ℕ → ℕ → Action → Type 0
GoesTo n home p k a = (y : Sight) → y.home ≡ home → (y.here ≡ p) ⊎ (y.here ≡ k) → ((d : ℕ) → a ≡ Sync d → y.childless d ≡ false) → place_after n y a ≡ k

abbrev look : ℕ → ℕ → Sight
look home p = record { here = p; home = home; clear = true; served = 0; childless = λ d. false; all_ended = λ d. false; late = None }

used_away : (n home p k : ℕ) (a : Action) → GoesTo n home p k a → used_at_once n p a ≡ used_at_once n k a
used_away n home p k (Load at a) goes = ap (λ h. Some (h, a)) (goes (look home p) refl (inl refl) (λ d e. refl) ∙ sym (goes (look home k) refl (inr refl) (λ d e. refl)))
used_away n home p k (Fetch at f a) goes = ap (λ h. Some (h, a)) (goes (look home p) refl (inl refl) (λ d e. refl) ∙ sym (goes (look home k) refl (inr refl) (λ d e. refl)))
used_away n home p k (Issue at op a v) goes = ap (λ h. used_at_once n h (Issue at op a v)) (goes (look home p) refl (inl refl) (λ d e. refl))
used_away n home p k (Init at a v) goes = ap (λ h. used_at_once n h (Init at a v)) (goes (look home p) refl (inl refl) (λ d e. refl))
used_away n home p k Turn goes = refl
used_away n home p k Fence goes = refl
used_away n home p k (Move at a) goes = refl
used_away n home p k Where goes = refl
used_away n home p k (Print bytes) goes = refl
used_away n home p k (Alloc request) goes = refl
used_away n home p k (Spawn d f args hint) goes = refl
used_away n home p k (Sync d) goes = refl
used_away n home p k (End v) goes = refl
used_away n home p k (Trap at kind) goes = refl

-- an action that must be done elsewhere is ready with nothing under way, or stays where it is
ready_away : (n turns home p k : ℕ) (y : Sight) (a : Action) → GoesTo n home p k a → y.clear ≡ true → ((d : ℕ) → a ≡ Sync d → can_sync y d ≡ true) → (p ≡ k) ⊎ (can_act n turns y a ≡ true)
ready_away n turns home p k y (Load at a) goes clear sync = inr (or_right (stays n y (Load at a)) _ clear)
ready_away n turns home p k y (Fetch at f a) goes clear sync = inr (or_right (stays n y (Fetch at f a)) _ clear)
ready_away n turns home p k y (Move at a) goes clear sync = inr (or_right (stays n y (Move at a)) _ clear)
ready_away n turns home p k y (Print bytes) goes clear sync = inr (or_right (stays n y (Print bytes)) _ clear)
ready_away n turns home p k y (Alloc request) goes clear sync = inr (or_right (stays n y (Alloc request)) _ clear)
ready_away n turns home p k y (Sync d) goes clear sync = inr (sync d refl)
ready_away n turns home p k y (Issue at op a v) goes clear sync = inr refl
ready_away n turns home p k y (Init at a v) goes clear sync = inr refl
ready_away n turns home p k y Where goes clear sync = inr refl
ready_away n turns home p k y (Trap at kind) goes clear sync = inr refl
ready_away n turns home p k y Fence goes clear sync = inr clear
ready_away n turns home p k y (Spawn d f args hint) goes clear sync = inr clear
ready_away n turns home p k y (End v) goes clear sync = inr clear
ready_away n turns home p k y Turn goes clear sync = inl (goes (look home p) refl (inl refl) (λ d e. refl))

-- the word that an action uses here
used_here : (n : ℕ) (y : Sight) (a : Action) → place_after n y a ≡ y.here → IfSome (used_at_once n y.here a) (λ z. z.0 ≡ y.here)
used_here n y (Load at a) e = e
used_here n y (Fetch at f a) e = e
used_here n y (Issue at op a v) e = elim (owner_of a y.here n == y.here) as (λ t. IfSome {T = ℕ × ℤ} (if t then Some (y.here, a) else None) (λ z. z.0 ≡ y.here)) [ true ↦ refl | false ↦ tt ]
used_here n y (Init at a v) e = refl
used_here n y Turn e = tt
used_here n y Fence e = tt
used_here n y (Move at a) e = tt
used_here n y Where e = tt
used_here n y (Print bytes) e = tt
used_here n y (Alloc request) e = tt
used_here n y (Spawn d f args hint) e = tt
used_here n y (Sync d) e = tt
used_here n y (End v) e = tt
used_here n y (Trap at kind) e = tt

abbrev pub refusal_at : ℕ → TrapKind → Pos → Refusal
refusal_at k kind at = record { place = k; kind = kind; pos = at }

module _ (u : Setup) (sound : is_sound u.code ≡ true) (c : Core) (w : World) (inv : Invariant u c w) (k : ℕ) (q : Name) (x : Context) (state : State) (action : Action) (b : Before u c w inv k q x state action) where
  abbrev n : ℕ
  n = u.nodelets

  abbrev here : Sight
  here = seen_here u sound c w inv k q x state action b

  abbrev there : Sight
  there = seen u sound c w inv k q x state action b

  -- what a done action is in the world
  pub record InWorld : Type 0 where
    pub ready : can_act n u.turns there action ≡ true
    pub prompt : (b.s.late ≡ None) ⊎ (is_leaving n there action ≡ false)
    pub used : used_at_once n b.s.place action ≡ used_at_once n k action
    pub how : (b.s.place ≡ k) ⊎ ((view c q).under_way b.s.place ≡ 0)
    pub goes : place_after n there action ≡ k

  in_place : (free : Bool) → IsDone n u.turns here action free → b.s.place ≡ k → InWorld
  in_place free d e = record {
    ready = can_act-same n u.turns here there s action d.stays_here d.ready;
    prompt = ⊎_elim (λ none. by none (is_leaving n here action) refl) (λ f. inr (sym (is_leaving-same n here there s action) ∙ f)) d.prompt;
    used = ap (λ p. used_at_once n p action) e;
    how = inl e;
    goes = sym (place_after-same n here there s action) ∙ d.stays_here;
  }
    where
      s : Sees here there
      s = sees u sound c w inv k q x state action b e

      by : x.late ≡ None → (t : Bool) → is_leaving n here action ≡ t → (b.s.late ≡ None) ⊎ (is_leaving n there action ≡ false)
      by none false f = inr (sym (is_leaving-same n here there s action) ∙ f)
      by none true f =
          let clear = leaving_clear n u.turns here action f d.ready in
          inl (sym (same_late u sound c w inv k q x state action b (none_under_way u sound c w inv k q x state action b e clear)) ∙ none)

  on_arrival : (free : Bool) → IsDone n u.turns here action free → IsAway u (view c q) b.s x k → InWorld
  on_arrival free d away = ⊎_elim
      (λ e. in_place free d e)
      (λ ready. record {
        ready = ready;
        prompt = inl away.late;
        used = used_away n b.s.home b.s.place k action goes;
        how = inr away.clear;
        goes = goes there refl (inl refl) joins;
      })
      (ready_away n u.turns b.s.home b.s.place k there action goes clear synced)
    where
      same : away.action ≡ action
      same = away_action u sound c w inv k q x state action b away

      goes : GoesTo n b.s.home b.s.place k action
      goes = subst (λ (a : Action). GoesTo n b.s.home b.s.place k a) same away.goes

      joins : (d : ℕ) → action ≡ Sync d → is_empty (children_at d b.s.children) ≡ false
      joins d e = away.joins d (same ∙ e)

      clear : there.clear ≡ true
      clear = world_clear u sound c w inv k q x state action b away.clear

      synced : (d : ℕ) → action ≡ Sync d → can_sync there d ≡ true
      synced e is =
          let some : here.childless e ≡ false = childless_same u sound c w inv k q x state action b e ∙ joins e is in
          let home : x.home ≡ k = sym (ap (λ t. if t then k else x.home) some) ∙ sym (ap (place_after n here) is) ∙ d.stays_here in
          let at_home : (k == x.home) ≡ true = eq-eqb _ _ (sym home) in
          let ready : can_sync here e ≡ true = sym (ap (can_act n u.turns here) is) ∙ d.ready in
          let all : here.all_ended e ≡ true = ended (here.childless e) (here.all_ended e) (k == x.home) here.clear (is_some x.late) some at_home ready in
          or_left _ _ (or_right (there.childless e) _ (and_true_from _ _ (all_ended_same u sound c w inv k q x state action b (sym home) e all) (or_right (there.here == there.home) _ clear)))
        where
          ended : (childless all home clear late : Bool) → childless ≡ false → home ≡ true → (childless || (all && (home || clear)) || (clear && late && not home)) ≡ true → all ≡ true
          ended true all home clear late e f r = absurd cc
          ended false true home clear late e f r = refl
          ended false false false clear late e f r = absurd cc
          ended false false true true true e f r = absurd cc
          ended false false true true false e f r = absurd cc
          ended false false true false late e f r = absurd cc

  pub in_world : (free : Bool) → IsDone n u.turns here action free → InWorld
  in_world free d = ⊎_elim (λ e. in_place free d e) (λ away. on_arrival free d away) b.here.bound

  -- ---- the step

  pub step_is : (child : Option Name) (r : Option Refusal) → is_ready n u.turns there action ≡ true → refusal_of (setting_of u) w b.s action ≡ r →
      step (setting_of u) w (Act q child) ≡ done_by (setting_of u) w q b.s child action r
  step_is child r ready refused =
      ap (option_and_then (λ s. acted (setting_of u) w q s child (due (setting_of u) s))) b.known
      ∙ ap (acted (setting_of u) w q b.s child) (is_due u sound c w inv k q x state action b)
      ∙ ap (λ t. if t then done_by (setting_of u) w q b.s child action (refusal_of (setting_of u) w b.s action) else None) ready
      ∙ ap (done_by (setting_of u) w q b.s child action) refused

  -- what is refused as outside is so at the nodelet
  outside_by : (used : Option (ℕ × ℤ)) → IfSome used (λ z. z.0 ≡ k) →
      option_map (refusal_at k OutOfBounds) (option_and_then (λ z. if is_granted u.rules (c.nodes k) z.1 then None else Some (pos_of action)) used) ≡ refused_as_outside (setting_of u) w action used
  outside_by None at = refl
  outside_by (Some (j, a)) at =
      ap (λ t. option_map (refusal_at k OutOfBounds) (if t then None else Some (pos_of action))) (inv.shares.granted k a b.inside)
      ∙ by (world.is_granted u.rules w k a)
      ∙ ap (λ i. if world.is_granted u.rules w i a then None else Some (refusal_at i OutOfBounds (pos_of action))) (sym at)
    where
      by : (t : Bool) → option_map (refusal_at k OutOfBounds) (if t then None else Some (pos_of action)) ≡ (if t then None else Some (refusal_at k OutOfBounds (pos_of action)))
      by true = refl
      by false = refl

  -- an action that is done here is refused in the world as it is here
  pub refused_here : (free : Bool) → IsDone n u.turns here action free → refusal_of (setting_of u) w b.s action ≡ option_map (refusal_at k OutOfBounds) (outside u k (c.nodes k) action)
  refused_here free d =
      ap (λ t. option_or (if t then Some (refusal_at b.s.place BadAddress (pos_of action)) else None) later) d.good
      ∙ ap (λ o. option_or o (refused_as_outside (setting_of u) w action (used_at_once n b.s.place action))) (on_time i.prompt)
      ∙ ap (refused_as_outside (setting_of u) w action) i.used
      ∙ sym (outside_by (used_at_once n k action) (used_here n here action d.stays_here))
    where
      i : InWorld
      i = in_world free d

      later : Option Refusal
      later = option_or (refused_as_late (setting_of u) w b.s action) (refused_as_outside (setting_of u) w action (used_at_once n b.s.place action))

      leaves : (t : Bool) → (if t then option_map (refusal_at b.s.place OutOfBounds) (let o : Option Pos = None in o) else None) ≡ None
      leaves true = refl
      leaves false = refl

      on_time : (b.s.late ≡ None) ⊎ (is_leaving n there action ≡ false) → refused_as_late (setting_of u) w b.s action ≡ None
      on_time (inl none) = ap (λ o. if is_leaving n there action then option_map (refusal_at b.s.place OutOfBounds) o else None) none ∙ leaves (is_leaving n there action)
      on_time (inr stays) = ap (λ t. if t then option_map (refusal_at b.s.place OutOfBounds) b.s.late else None) stays

  -- it is done in the world, or refused there
  pub acts_here : (child : Option Name) (free : Bool) → IsDone n u.turns here action free →
      step (setting_of u) w (Act q child) ≡ done_by (setting_of u) w q b.s child action (option_map (refusal_at k OutOfBounds) (outside u k (c.nodes k) action))
  acts_here child free d = step_is child _ (or_right (is_bad n action) _ (in_world free d).ready) (refused_here free d)

  -- a bad action is refused in the world too
  pub bad_refused : is_bad n action ≡ true → refusal_of (setting_of u) w b.s action ≡ Some (refusal_at b.s.place BadAddress (pos_of action))
  bad_refused bad = ap (λ t. option_or (if t then Some (refusal_at b.s.place BadAddress (pos_of action)) else None) later) bad
    where
      later : Option Refusal
      later = option_or (refused_as_late (setting_of u) w b.s action) (refused_as_outside (setting_of u) w action (used_at_once n b.s.place action))

  pub bad_there : is_bad n action ≡ true → step (setting_of u) w (Act q None) ≡ Some (with_strand w q (with_trap b.s b.s.place BadAddress (pos_of action)))
  bad_there bad = step_is None (Some (refusal_at b.s.place BadAddress (pos_of action))) (or_left _ _ bad) (bad_refused bad)

  -- and so is a late strand that would leave
  late_refusal : (at : Pos) → IsLate n u.turns here action at → (is_ready n u.turns there action ≡ true) × (refusal_of (setting_of u) w b.s action ≡ Some (refusal_at b.s.place OutOfBounds at))
  late_refusal at l = (
    or_right (is_bad n action) _ ready,
    ap (λ t. option_or (if t then Some (refusal_at b.s.place BadAddress (pos_of action)) else None) later) l.good
        ∙ ap (λ t. option_or (if t then option_map (refusal_at b.s.place OutOfBounds) b.s.late else None) outside_there) leaving
        ∙ ap (λ o. option_or (option_map (refusal_at b.s.place OutOfBounds) o) outside_there) late,
  )
    where
      outside_there : Option Refusal
      outside_there = refused_as_outside (setting_of u) w action (used_at_once n b.s.place action)

      later : Option Refusal
      later = option_or (refused_as_late (setting_of u) w b.s action) outside_there

      clear : here.clear ≡ true
      clear = leaving_clear n u.turns here action l.leaving l.ready

      -- a late strand's context is where its strand is
      place : b.s.place ≡ k
      place = ⊎_elim (λ e. e) (λ (away : IsAway u (view c q) b.s x k). absurd (
          let none : x.late ≡ None = same_late u sound c w inv k q x state action b away.clear ∙ away.late in
          let z : Some at ≡ None = sym l.late ∙ none in cc)) b.here.bound

      s : Sees here there
      s = sees u sound c w inv k q x state action b place

      late : b.s.late ≡ Some at
      late = sym (same_late u sound c w inv k q x state action b (none_under_way u sound c w inv k q x state action b place clear)) ∙ l.late

      leaving : is_leaving n there action ≡ true
      leaving = sym (is_leaving-same n here there s action) ∙ l.leaving

      ready : can_act n u.turns there action ≡ true
      ready = by (place_after n there action == there.here) refl
        where
          by : (t : Bool) → (place_after n there action == there.here) ≡ t → can_act n u.turns there action ≡ true
          by true e = can_act-same n u.turns here there s action (place_after-same n here there s action ∙ eqb-true _ _ e ∙ sym s.here) l.ready
          by false e = moves_ready n u.turns there action (s.clear clear) (ap is_some late) e

  pub late_refused : (at : Pos) → IsLate n u.turns here action at → refusal_of (setting_of u) w b.s action ≡ Some (refusal_at b.s.place OutOfBounds at)
  late_refused at l = (late_refusal at l).1

  pub late_there : (at : Pos) → IsLate n u.turns here action at → step (setting_of u) w (Act q None) ≡ Some (with_strand w q (with_trap b.s b.s.place OutOfBounds at))
  late_there at l = let r = late_refusal at l in step_is None (Some (refusal_at b.s.place OutOfBounds at)) r.0 r.1
