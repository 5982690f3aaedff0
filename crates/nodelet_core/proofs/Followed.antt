-- What becomes of the action of a context, and what is left where it was done.
use Rattle.std.proofs.Common.{◌≡◌, ◌≢◌, ℕ, zero, suc, ◌+◌, ◌≤◌, ◌<◌, ℤ, List, [], ◌∷◌, Bool, true, false, Option, Some, None, Result, Ok, Err, refl, sym, ap, ◌∙◌, subst, arith}
use Rattle.std.specs.Prelude.{if◌then◌else◌, ◌==◌, ◌&&◌, not, nat_lt, is_some, option_and_then, OnOk}
use Rattle.std.specs.List.{list_all}
use Rattle.std.proofs.lemmas.Bool.Decides.{eqb_tells, nat_tests}
use Rattle.word_ops.specs.declared.place.Pos.{Pos}
use Rattle.word_ops.specs.declared.ending.TrapKind.{TrapKind}
use Rattle.word_ops.specs.declared.ending.TrapKind.TheVariants.{BadAddress, OutOfBounds}
use Rattle.data_layout.specs.Address.{owner_of}
use Rattle.world_model.specs.Action.{Action, Turn, Load, Issue, Fetch, Init, Fence, Move, Where, Print, Alloc, Spawn, Sync, End, Trap, Striped, Blocked, Local, Replicated, pos_of}
use Rattle.world_model.specs.Sight.{Sight, is_bad, can_act, place_after, is_leaving}
use Rattle.world_model.proofs.Bounds.{place_within}
use Rattle.merge_law.specs.Machine.{is_linked}
use Rattle.threadlet_code.specs.declared.code.Code.{Code}
use Rattle.threadlet_code.specs.Machine.{State, Next}
use Rattle.threadlet_state.specs.declared.context.Context as carried
use Rattle.nodelet_core.specs.declared.nodelet.Nodelet.{Nodelet}
use Rattle.nodelet_core.specs.declared.due.Due.{Due}
use Rattle.core_model.specs.Contexts.{Context}
use Rattle.nodelet_core.specs.Carried.{context_in}
use Rattle.core_model.specs.Nodes.{Setup, Node, is_granted, with_strand}
use Rattle.core_model.specs.Effects.{nothing}
use Rattle.core_model.specs.Runs.{Outcome, Way, Refused, DoneHere, SentTo, Waits, way_by, late_way, way_of, outside, stays_before}
use Rattle.nodelet_core.specs.code.Dues.{due_of, asked}
use Rattle.core_model.specs.Machine.{stamped_node}
use Rattle.nodelet_core.specs.Kept.{node_of, context_fits}
use Rattle.nodelet_core.specs.code.Became.{Became}
use Rattle.nodelet_core.specs.Left.{Sent}
use Rattle.nodelet_core.specs.code.Doing.{SentMore, Left}
use Rattle.core_model.specs.Takes.{has_home}
use Rattle.nodelet_core.specs.code.Standing.{is_among}
use Rattle.nodelet_core.proofs.Found.{both}
use Rattle.nodelet_core.proofs.Stamps.{nothing_sent}

pub on_ok : {X E : Type 0} (r : Result X E) (P Q : Type 0) → (P → Q) → OnOk r P → OnOk r Q
on_ok (Ok x) P Q f p = f p
on_ok (Err e) P Q f p = tt

-- The place of a context is one of the nodelets.
pub place_among : (n : ℕ) (x : carried.Context) → is_among n x ≡ true → x.place < n
place_among n x e =
    let placed = (both (nat_lt x.place n) (nat_lt x.home n) (both (nat_lt x.place n && nat_lt x.home n) (has_home n x.ticket) e).0).0 in
    grind (arith, nat_tests)

-- ---- what decides of an action

-- Whether it is bad and which word it uses does not hang on the rest of it.
pub bad_is : (n : ℕ) (action : Action) → is_bad n (asked (due_of action)) ≡ is_bad n action
bad_is n (Alloc (Striped words)) = refl
bad_is n (Alloc (Blocked blocks words)) = refl
bad_is n (Alloc (Local at words address)) = refl
bad_is n (Alloc (Replicated words)) = refl
bad_is n (Spawn d function args None) = refl
bad_is n (Spawn d function args (Some hint)) = refl
bad_is n action = refl

outside_is : (m : Setup) (here : ℕ) (v : Node) (action : Action) → outside m here v (asked (due_of action)) ≡ outside m here v action
outside_is m here v (Alloc (Striped words)) = refl
outside_is m here v (Alloc (Blocked blocks words)) = refl
outside_is m here v (Alloc (Local at words address)) = refl
outside_is m here v (Alloc (Replicated words)) = refl
outside_is m here v (Spawn d function args None) = refl
outside_is m here v (Spawn d function args (Some hint)) = refl
outside_is m here v action = refl

guarded : (granted : Bool) (p at : Pos) → (if granted then None else Some p) ≡ Some at → at ≡ p
guarded true p at e = absurd (let wrong : None ≡ Some at = e in cc)
guarded false p at e = let same : p ≡ at = cc in sym same

issued : (granted : ℤ → Bool) (here : ℕ) (a : ℤ) (p at : Pos) (owned : Bool) →
    option_and_then (λ (used : ℕ × ℤ). if granted used.1 then None else Some p) (if owned then Some (here, a) else None) ≡ Some at → at ≡ p
issued granted here a p at true e = guarded (granted a) p at e
issued granted here a p at false e = absurd (let wrong : None ≡ Some at = e in cc)

-- Where a word is used that is not granted, it is the action's place in the text.
outside_at : (m : Setup) (here : ℕ) (v : Node) (action : Action) (at : Pos) → outside m here v action ≡ Some at → at ≡ pos_of (asked (due_of action))
outside_at m here v (Load p a) at e = guarded _ p at e
outside_at m here v (Fetch p f a) at e = guarded _ p at e
outside_at m here v (Init p a w) at e = guarded _ p at e
outside_at m here v (Issue p op a w) at e = issued (is_granted m.rules v) here a p at (owner_of a here m.nodelets == here) e
outside_at m here v action at e = absurd (let wrong : None ≡ Some at = e in cc)

module _ (m : Setup) (here : ℕ) (v : Node) (action : Action) (due : Due) (decides : due_of action ≡ due) where
  same_outside : outside m here v (asked due) ≡ outside m here v action
  same_outside = ap (λ (d : Due). outside m here v (asked d)) (sym decides) ∙ outside_is m here v action

  pub is_outside : is_some (outside m here v (asked due)) ≡ true → outside m here v action ≡ Some (pos_of (asked due))
  is_outside e = go (outside m here v action) refl
    where
      go : (o : Option Pos) → outside m here v action ≡ o → outside m here v action ≡ Some (pos_of (asked due))
      go None f = absurd (let wrong : false ≡ true = sym (ap is_some (same_outside ∙ f)) ∙ e in cc)
      go (Some at) f = f ∙ ap Some (outside_at m here v action at f ∙ ap (λ (d : Due). pos_of (asked d)) decides)

  pub is_inside : is_some (outside m here v (asked due)) ≡ false → outside m here v action ≡ None
  is_inside e = go (outside m here v action) refl
    where
      go : (o : Option Pos) → outside m here v action ≡ o → outside m here v action ≡ None
      go None f = f
      go (Some at) f = absurd (let wrong : true ≡ false = sym (ap is_some (same_outside ∙ f)) ∙ e in cc)

-- ---- the way of an action

abbrev IsNotRefused : Way → Type 0
IsNotRefused w = (kind : TrapKind) (at : Pos) → w ≢ Refused kind at

passed : (b : Bool) (kind : TrapKind) (at : Pos) (rest w : Way) → IsNotRefused w → (if b then Refused kind at else rest) ≡ w → (b ≡ false) × (rest ≡ w)
passed true kind at rest w on e = absurd (on kind at (sym e))
passed false kind at rest w on e = (refl, e)

module _ (n turns : ℕ) (s : Sight) (action : Action) (free : Bool) where
  abbrev ready : Bool
  ready = can_act n turns s action && free

  on_time : (late : Option Pos) (w : Way) → IsNotRefused w → late_way n s action ready late ≡ w → way_by n s action ready ≡ w
  on_time None w on e = e
  on_time (Some at) w on e = (passed (ready && is_leaving n s action) OutOfBounds at (way_by n s action ready) w on e).1

  -- One that is not refused is not bad, and goes by whether it is ready.
  pub not_refused : (w : Way) → IsNotRefused w → way_of n turns s action free ≡ w → (is_bad n action ≡ false) × (way_by n s action ready ≡ w)
  not_refused w on e =
      let p = passed (is_bad n action) BadAddress (pos_of action) (late_way n s action ready s.late) w on e in
      (p.0, on_time s.late w on p.1)

  sent_by : (here other clear : Bool) (place k : ℕ) → (if here then (if other then DoneHere else Waits) else (if clear then SentTo place else Waits)) ≡ SentTo k → (here ≡ false) × (place ≡ k)
  sent_by true true clear place k e = absurd (let wrong : DoneHere ≡ SentTo k = e in cc)
  sent_by true false clear place k e = absurd (let wrong : Waits ≡ SentTo k = e in cc)
  sent_by false other true place k e = (refl, let z : SentTo place ≡ SentTo k = e in cc)
  sent_by false other false place k e = absurd (let wrong : Waits ≡ SentTo k = e in cc)

  done_by : (here other clear : Bool) (place : ℕ) → (if here then (if other then DoneHere else Waits) else (if clear then SentTo place else Waits)) ≡ DoneHere → (here ≡ true) × (other ≡ true)
  done_by true true clear place e = (refl, refl)
  done_by true false clear place e = absurd (let wrong : Waits ≡ DoneHere = e in cc)
  done_by false other true place e = absurd (let wrong : SentTo place ≡ DoneHere = e in cc)
  done_by false other false place e = absurd (let wrong : Waits ≡ DoneHere = e in cc)

  -- One that is done here leaves the strand here, and is ready.
  pub done_ready : way_of n turns s action free ≡ DoneHere → (is_bad n action ≡ false) × ((place_after n s action == s.here) ≡ true) × (ready ≡ true)
  done_ready e =
      let p = not_refused DoneHere (λ kind at w. absurd (let wrong : DoneHere ≡ Refused kind at = w in cc)) e in
      let q = done_by (place_after n s action == s.here) ready s.clear (place_after n s action) p.1 in
      (p.0, q.0, q.1)

  -- One that is sent goes to another nodelet.
  pub sent_linked : 1 ≤ n → s.here < n → s.home < n → (k : ℕ) → way_of n turns s action free ≡ SentTo k → is_linked n s.here k ≡ true
  sent_linked some here home k e =
      let p = not_refused (SentTo k) (λ kind at w. absurd (let wrong : SentTo k ≡ Refused kind at = w in cc)) e in
      let q = sent_by (place_after n s action == s.here) ready s.clear (place_after n s action) k p.1 in
      let there : k < n = subst (λ i. i < n) q.1 (place_within n s action some here home p.0) in
      let other : (k == s.here) ≡ false = ap (λ i. i == s.here) (sym q.1) ∙ q.0 in
      grind (arith, eqb_tells, nat_tests)

-- ---- a nodelet where it was done

-- An outcome with the same node and bodies is left too.
pub left_as : (code : Code) (stamp : ℕ) (before after : Nodelet) (sent_before sent_after : Sent) (a b : Outcome) → a.node ≡ b.node → a.bodies ≡ b.bodies →
    Left code stamp before after sent_before sent_after a → Left code stamp before after sent_before sent_after b
left_as code stamp before after sent_before sent_after a b node bodies l = record {
  settings = l.settings;
  node = l.node ∙ ap (stamped_node stamp) node;
  entries = l.entries;
  fits = l.fits;
  sends = subst (λ sends. SentMore code before.nodelets before.number stamp sends sent_before sent_after) bodies l.sends;
}

-- A context stays before its action.
pub stay_left : (code : Code) (before after : Nodelet) (x : carried.Context) (state : State) (sent : Sent) (silent : ℕ) (left : Outcome) → context_fits code x ≡ true →
    state ≡ (context_in code x).state → Became (λ c v. with_strand (stamped_node (suc v.stamp) v) (context_in c x)) (x ∷ []) before after →
    stays_before (node_of code before) (context_in code x) state silent ≡ Some left → Left code (suc before.stamp) before after sent sent left
stay_left code before after x state sent zero left fits same became e = absurd (let wrong : None ≡ Some left = e in cc)
stay_left code before after x state sent (suc silent) left fits same became e =
    let made : Outcome = record { node = with_strand (node_of code before) (record (context_in code x) { state = state }); bodies = nothing; count = suc silent; step = None } in
    let is : made ≡ left = let z : Some made ≡ Some left = e in cc in
    subst (Left code (suc before.stamp) before after sent sent) is (record {
      settings = became.settings;
      node = became.node code ∙ ap (λ t. let y : Context = record (context_in code x) { state = t } in stamped_node (suc before.stamp) (with_strand (node_of code before) y)) (sym same);
      entries = became.entries;
      fits = became.keeps (context_fits code) (λ w late f. f) (ap (λ b. b && true) fits);
      sends = nothing_sent code before.nodelets before.number (suc before.stamp) sent;
    })
