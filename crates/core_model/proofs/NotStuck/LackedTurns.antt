-- Where nothing can happen any more, each live strand lacks a turn or waits for a child that has not ended.
use Rattle.std.proofs.Common.{◌≡◌, ℕ, zero, suc, ◌<◌, ◌≤◌, ◌⊎◌, inl, inr, List, [], ◌∷◌, length, Option, Some, None, refl, sym, ap, ◌∙◌, subst, arith, Bool, true, false, not, ◌&&◌, ◌||◌, ⊎_elim, is_some, option_and_then, nat_lt, ℤ}
use Rattle.std.specs.Prelude.{◌==◌, slice_get}
use Rattle.std.specs.List.{list_all}
use Rattle.std.proofs.lemmas.Bool.{eq-eqb}
use Rattle.std.proofs.lemmas.List.Folds.{list_all-append}
use Rattle.word_ops.specs.Report.{below}
use Rattle.word_ops.specs.declared.name.Name.{Name}
use Rattle.merge_law.proofs.Somes.{some_is}
use Rattle.world_model.specs.Action.{Action, Turn, Sync}
use Rattle.world_model.specs.Sight.{Sight, place_after, can_sync}
use Rattle.world_model.specs.World.{Live, Strand, World, is_empty, is_clear, strand_of, value_of, children_at}
use Rattle.world_model.specs.Effect.{sight_of}
use Rattle.world_model.specs.Step.{due}
use Rattle.threadlet_code.specs.Breaches.{is_sound}
use Rattle.threadlet_code.specs.Machine.{State, Next}
use Rattle.threadlet_code.specs.Machine as code
use Rattle.threadlet_code.specs.Running.{halt, owed}
use Rattle.threadlet_code.specs.Running as running
use Rattle.core_model.specs.Contexts.{Context, context_of}
use Rattle.core_model.specs.Nodes.{Setup, Node}
use Rattle.core_model.specs.Runs.{Waits, way_of, sight_at, is_free, action_in, by_way, stays_before, taken_up}
use Rattle.core_model.specs.Core.{Core, setting_of}
use Rattle.core_model.proofs.Invariant.Views.{view, result_of}
use Rattle.core_model.proofs.Invariant.StrandStates.{halted_is, halted_due, halted_step, due_is}
use Rattle.core_model.proofs.Invariant.Statement.{relative, relative_of, result_by, promise, IsGiven, relatives_in, results_in, returns_in, IsAway, Invariant}
use Rattle.core_model.proofs.Invariant.StandingStrand.{Present, present}
use Rattle.core_model.proofs.Invariant.OtherStrands.{value_by}
use Rattle.core_model.proofs.Invariant.FreeEnds.{live_free}
use Rattle.core_model.proofs.Actions.DueContext.{Before, childless_same, settled}
use Rattle.core_model.proofs.Invariant.Agreement.{always_due}
use Rattle.core_model.proofs.NotStuck.StillCore.{Rests, run_none, no_parts, nothing_pending, stands_somewhere}
use Rattle.core_model.proofs.NotStuck.BlockedContext.{way_waits, held_way, ForTurn, ForChildren, waits_for}

-- ---- in the world

-- a live strand is due a Turn where all turns are served
abbrev pub LacksTurn : Setup → World → Strand → Type 0
LacksTurn u w s = (due (setting_of u) s ≡ Some Turn) × (nat_lt (w.turns s.place) u.turns ≡ false)

-- or waits for a child that has no value yet
pub record LacksChild (u : Setup) (w : World) (s : Strand) : Type 0 where
  pub depth : ℕ
  pub is : due (setting_of u) s ≡ Some (Sync depth)
  pub not_ready : can_sync (sight_of (setting_of u) w s) depth ≡ false
  pub order : ℕ
  pub child : Name
  pub known : slice_get (children_at depth s.children) order ≡ Some child
  pub unended : value_of w child ≡ None

-- ---- lists of which not all are so

pub one_fails : (p : ℕ → Bool) (n : ℕ) → list_all p (below n) ≡ false → (i : ℕ) × (i < n) × (p i ≡ false)
one_fails p zero e = absurd cc
one_fails p (suc n) e = go (λ h. one_fails p n h) (list_all p (below n)) refl (p n) refl
  where
    go : (list_all p (below n) ≡ false → (i : ℕ) × (i < n) × (p i ≡ false)) → (a : Bool) → list_all p (below n) ≡ a → (b : Bool) → p n ≡ b → (i : ℕ) × (i < suc n) × (p i ≡ false)
    go ih false f b g = let r = ih f in (r.0, (let z = r.1 in omega arith), r.2)
    go ih true f false g = (n, omega arith, g)
    go ih true f true g = absurd (let z : true ≡ false = sym (list_all-append p (below n) (n ∷ []) ∙ rw (f, g) refl) ∙ e in cc)

stands_at : {A : Type 0} (l : List A) (i : ℕ) → i < length l → (x : A) × (slice_get l i ≡ Some x)
stands_at [] i less = absurd (omega arith)
stands_at (x ∷ xs) zero less = (x, refl)
stands_at (x ∷ xs) (suc i) less = stands_at xs i (omega arith)

fails_all : {A : Type 0} (p : A → Bool) (l : List A) (i : ℕ) (x : A) → slice_get l i ≡ Some x → p x ≡ false → list_all p l ≡ false
fails_all p [] i x at e = absurd cc
fails_all p (y ∷ ys) zero x at e = let same : y ≡ x = cc in ap (λ z. p z && list_all p ys) same ∙ ap (λ t. t && list_all p ys) e
fails_all p (y ∷ ys) (suc i) x at e = ap (λ t. p y && t) (fails_all p ys i x at e) ∙ both (p y)
  where
    both : (t : Bool) → (t && false) ≡ false
    both true = refl
    both false = refl

no_sync : (childless ended home clear late : Bool) → childless ≡ false → ended ≡ false → (home ≡ true) ⊎ (late ≡ false) → (childless || (ended && (home || clear)) || (clear && late && not home)) ≡ false
no_sync true ended home clear late e f g = absurd cc
no_sync false true home clear late e f g = absurd cc
no_sync false false home false late e f g = refl
no_sync false false home true false e f g = refl
no_sync false false true true true e f g = refl
no_sync false false false true true e f (inl g) = absurd cc
no_sync false false false true true e f (inr g) = absurd cc

-- ---- at a nodelet

module _ (u : Setup) (sound : is_sound u.code ≡ true) (some : 1 ≤ u.nodelets) (c : Core) (rests : Rests u c) (w : World) (inv : Invariant u c w) (q : Name) (k : ℕ) (x : Context) (inside : k < u.nodelets) (found : context_of q (c.nodes k).contexts ≡ Some x) where
  abbrev v : Node
  v = c.nodes k

  abbrev p : Present u inv.tickets (view c q) q (strand_of w q) k x
  p = present u inv.tickets (view c q) q (strand_of w q) k x (inv.each q) found

  abbrev state : State
  state = (halt u.code x.state).state

  abbrev seen : Sight
  seen = sight_at k v x state

  is_next : (action : Action) → action_in (running.due u.code x.state) ≡ Some action → action_in (code.step u.code state) ≡ Some action
  is_next action e = ap action_in (halted_step u.code sound x.state) ∙ e

  abbrev before : (action : Action) → action_in (running.due u.code x.state) ≡ Some action → Before u c w inv k q x state action
  before action e = record {
    s = p.s;
    known = p.known;
    here = p.here;
    inside = inside;
    is = halted_is u.code sound p.s x.state p.here.state;
    same = halted_due u.code sound x.state;
    next = ap action_in (halted_due u.code sound x.state) ∙ e;
  }

  leaves_nothing : (action : Action) → action_in (running.due u.code x.state) ≡ Some action →
      by_way u k v x state (halt u.code x.state).silent (code.step u.code state) action (way_of u.nodelets u.turns seen action (is_free k v x.ticket action)) ≡ None
  leaves_nothing action e =
      ap (option_and_then (λ a. by_way u k v x state (halt u.code x.state).silent (code.step u.code state) a (way_of u.nodelets u.turns seen a (is_free k v x.ticket a)))) (sym (is_next action e))
      ∙ ap (option_and_then (λ y. taken_up u k v y (halt u.code y.state))) (sym found)
      ∙ run_none u c rests k q inside

  waits : (action : Action) → action_in (running.due u.code x.state) ≡ Some action → way_of u.nodelets u.turns seen action (is_free k v x.ticket action) ≡ Waits
  waits action e = way_waits u k v x state (halt u.code x.state).silent (code.step u.code state) action _ (is_next action e) (leaves_nothing action e)

  -- it stands right before its action: no silent instruction is left
  pub none_silent : (action : Action) → action_in (running.due u.code x.state) ≡ Some action → (halt u.code x.state).silent ≡ 0
  none_silent action e = by (halt u.code x.state).silent
      (ap (by_way u k v x state (halt u.code x.state).silent (code.step u.code state) action) (sym (waits action e)) ∙ leaves_nothing action e)
    where
      by : (silent : ℕ) → stays_before v x state silent ≡ None → silent ≡ 0
      by zero f = refl
      by (suc n) f = absurd cc

  clear : seen.clear ≡ true
  clear = eq-eqb _ _ (ap v.under_way p.here.name ∙ (nothing_pending u c rests some w inv q p.s p.known).under_way k)

  module _ (action : Action) (next : action_in (running.due u.code x.state) ≡ Some action) where
    is_due : due (setting_of u) p.s ≡ Some action
    is_due = due_is u sound p.s x.state action p.here.state p.here.live next

    for_turn : ForTurn u.turns seen action → LacksTurn u w p.s
    for_turn h = (is_due ∙ ap Some h.0, sym (ap (λ t. nat_lt t u.turns) (inv.shares.turns k inside ∙ ap w.turns (sym place))) ∙ h.1)
      where
        place : p.s.place ≡ k
        place = settled u sound c w inv k q x state action (before action next) (λ y. ap (place_after u.nodelets y) h.0)

    for_children : ForChildren seen action → LacksChild u w p.s
    for_children h = record {
      depth = h.depth;
      is = is_due ∙ ap Some h.is;
      not_ready = no_sync (is_empty (children_at h.depth p.s.children)) _ (p.s.place == p.s.home) (is_clear u.nodelets p.s) (is_some p.s.late)
          (sym (childless_same u sound c w inv k q x state action (before action next) h.depth) ∙ h.childless)
          (fails_all (λ child. is_some (value_of w child)) (children_at h.depth p.s.children) missing.0 child.0 child.1 (ap is_some unended)) at_home;
      order = missing.0;
      child = child.0;
      known = child.1;
      unended = unended;
    }
      where
        owes : owed h.depth state ≡ length (children_at h.depth p.s.children)
        owes = (halted_is u.code sound p.s x.state p.here.state).owes h.depth

        missing : (i : ℕ) × (i < owed h.depth state) × (is_some (v.results x.name h.depth i) ≡ false)
        missing = one_fails (λ i. is_some (v.results x.name h.depth i)) (owed h.depth state) h.all_ended

        child : (c : Name) × (slice_get (children_at h.depth p.s.children) missing.0 ≡ Some c)
        child = stands_at (children_at h.depth p.s.children) missing.0 (let less = missing.1 in let same = owes in omega arith)

        -- its result is not here: it would be, had it ended
        unended : value_of w child.0 ≡ None
        unended = value_by w child.0 ∙ by (result_by (relatives_in w child.0)) given
          where
            given : IsGiven (results_in c p.s.home q h.depth missing.0) (λ a. returns_in c a p.s.home q h.depth missing.0) (result_by (relatives_in w child.0))
            given = subst (λ (o : Option Name). IsGiven (results_in c p.s.home q h.depth missing.0) (λ a. returns_in c a p.s.home q h.depth missing.0) (promise (relatives_in w) o)) child.1
                (inv.kin.given q (relative_of p.s) (ap relative p.known) h.depth missing.0)

            unkept : is_some (results_in c p.s.home q h.depth missing.0) ≡ false
            unkept = ap (λ j. is_some ((c.nodes j).results q h.depth missing.0)) (sym p.here.home ∙ h.at_home) ∙ ap (λ r. is_some (v.results r h.depth missing.0)) (sym p.here.name) ∙ missing.2

            by : (o : Option ℤ) → IsGiven (results_in c p.s.home q h.depth missing.0) (λ a. returns_in c a p.s.home q h.depth missing.0) o → o ≡ None
            by None g = refl
            by (Some value) (inl g) = absurd (let z : true ≡ false = sym (ap is_some g.0) ∙ unkept in cc)
            by (Some value) (inr g) = absurd (let z : [] ≡ value ∷ [] = sym (no_parts u c rests (result_of q h.depth missing.0) (g.1).0 p.s.home) ∙ (g.1).1 in cc)

        at_home : ((p.s.place == p.s.home) ≡ true) ⊎ (is_some p.s.late ≡ false)
        at_home = ⊎_elim
            (λ e. inl (eq-eqb _ _ (e ∙ sym (sym p.here.home ∙ h.at_home))))
            (λ (away : IsAway u (view c q) p.s x k). inr (ap is_some away.late))
            p.here.bound

  stuck_here : LacksTurn u w p.s ⊎ LacksChild u w p.s
  stuck_here =
      let a = always_due u sound p.s x.state p.here.state in
      ⊎_elim (λ h. inl (for_turn a.0 a.1 h)) (λ h. inr (for_children a.0 a.1 h))
      (waits_for u.nodelets u.turns seen a.0 (is_free k v x.ticket a.0) (held_way u.nodelets u.turns seen a.0 (is_free k v x.ticket a.0) (waits a.0 a.1) clear) clear (live_free u c w inv q k x found a.0))

-- so it is with each live strand
pub lacking : (u : Setup) → is_sound u.code ≡ true → 1 ≤ u.nodelets → (c : Core) → Rests u c → (w : World) (inv : Invariant u c w) (q : Name) (s : Strand) → strand_of w q ≡ Some s → s.status ≡ Live → LacksTurn u w s ⊎ LacksChild u w s
lacking u sound some c rests w inv q s known live =
    let at = stands_somewhere u c rests some w inv q s known live in
    let here = present u inv.tickets (view c q) q (strand_of w q) at.0 at.1 (inv.each q) at.3 in
    let same : here.s ≡ s = some_is here.s s (sym here.known ∙ known) in
    subst (λ (y : Strand). LacksTurn u w y ⊎ LacksChild u w y) same (stuck_here u sound some c rests w inv q at.0 at.1 at.2 at.3)
