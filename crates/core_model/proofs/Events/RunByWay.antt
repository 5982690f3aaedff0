-- Each way that a run can go keeps the invariant.
use Rattle.std.proofs.Common.{◌≡◌, ℕ, suc, ◌<◌, ◌≤◌, inl, inr, List, Option, Some, None, refl, sym, ap, ◌∙◌, subst, arith, Bool, true, false, ⊎_elim, not, ℤ, nat_lt, option_map, IsTrue}
use Rattle.std.specs.Prelude.{if◌then◌else◌, ◌==◌}
use Rattle.std.proofs.lemmas.Bool.Decides.{eqb_tells, nat_tests}
use Rattle.word_ops.specs.declared.name.Name.{Name}
use Rattle.word_ops.specs.declared.place.Pos.{Pos}
use Rattle.word_ops.specs.declared.ticket.Ticket.{Ticket}
use Rattle.word_ops.specs.declared.step.Step.TheVariants.{Act}
use Rattle.word_ops.specs.declared.step.NodeEvent.{NodeEvent}
use Rattle.word_ops.specs.declared.ending.TrapKind.{TrapKind}
use Rattle.word_ops.specs.declared.ending.TrapKind.TheVariants.{OutOfBounds}
use Rattle.data_layout.specs.Address.{is_valid}
use Rattle.data_layout.proofs.AddressLaws.{owner_of-below}
use Rattle.merge_law.specs.Machine.{Raw, is_linked}
use Rattle.world_model.specs.Action.{Action, Turn, Load, Issue, Fetch, Init, Fence, Move, Where, Print, Alloc, Spawn, Sync, End, Trap, Striped, Blocked, Local, Replicated, pos_of}
use Rattle.world_model.specs.Sight.{Sight, is_bad, place_after}
use Rattle.world_model.specs.World.{World, with_strand, with_trap}
use Rattle.world_model.specs.Step.{done_by, step}
use Rattle.threadlet_code.specs.Breaches.{is_sound}
use Rattle.threadlet_code.specs.Machine.{State, goes, asks}
use Rattle.threadlet_code.specs.Machine as code
use Rattle.threadlet_code.specs.Running.{due}
use Rattle.core_model.specs.Contexts.{Context, Body}
use Rattle.core_model.specs.Nodes.{Setup, Node, moved_from}
use Rattle.core_model.specs.Effects.{effect}
use Rattle.core_model.specs.Runs.{Refused, SentTo, way_of, is_free, outside, went_on, trapped, sent_whole, last_done}
use Rattle.core_model.specs.Core.{Core, setting_of}
use Rattle.core_model.proofs.Invariant.Views.{after_run}
use Rattle.core_model.proofs.Invariant.Statement.{Invariant}
use Rattle.core_model.proofs.Invariant.OtherStrands.{Kept}
use Rattle.core_model.proofs.Actions.DueContext.{Before, seen_here}
use Rattle.core_model.proofs.Actions.Ways.{IsDone, IsSent, IsLate, IsBad, sent_way, refused_way}
use Rattle.core_model.proofs.Actions.Sights.{never_same}
use Rattle.core_model.proofs.Actions.DoneOrRefused.{in_world, refusal_at, acts_here, bad_there, late_there}
use Rattle.core_model.proofs.Actions.StayOrLeave.{KeepsShared, sent_kept}
use Rattle.core_model.proofs.Actions.WordActions.{moved-part, IsPlain, plain_kept}
use Rattle.core_model.proofs.Events.QuietActions.{turn_plain, fence_plain, where_plain, move_plain, print_plain, load_plain, fetch_plain}
use Rattle.core_model.proofs.Events.Issue.{issue_plain, init_plain}
use Rattle.core_model.proofs.Events.Alloc.{alloc_plain}
use Rattle.core_model.proofs.Events.Trap.{trap_kept}
use Rattle.core_model.proofs.Events.End.{end_kept}
use Rattle.core_model.proofs.Events.Sync.{join_kept}
use Rattle.core_model.proofs.Events.Spawn.{spawn_kept}
use Rattle.core_model.proofs.Actions.LastActions.{IsLast, IsAsked}

-- ---- small facts

not_bad : (n : ℕ) (a : ℤ) → not (is_valid a n) ≡ false → IsTrue (is_valid a n)
not_bad n a e = go (is_valid a n) e
  where
    go : (t : Bool) → not t ≡ false → IsTrue t
    go true f = refl
    go false f = absurd cc

pub place_within : (n : ℕ) (s : Sight) (action : Action) → 1 ≤ n → s.here < n → s.home < n → is_bad n action ≡ false → place_after n s action < n
place_within n s (Load at a) some here home good = owner_of-below a s.here n some (not_bad n a good) here
place_within n s (Fetch at f a) some here home good = owner_of-below a s.here n some (not_bad n a good) here
place_within n s (Move at a) some here home good = owner_of-below a s.here n some (not_bad n a good) here
place_within n s (Print bytes) some here home good = some
place_within n s (Alloc (Striped c)) some here home good = some
place_within n s (Alloc (Blocked b c)) some here home good = some
place_within n s (Alloc (Local at c a)) some here home good = owner_of-below a s.here n some (not_bad n a good) here
place_within n s (Alloc (Replicated c)) some here home good = some
place_within n s (Sync d) some here home good = elim (s.childless d) as (λ t. (if t then s.here else s.home) < n) [ true ↦ here | false ↦ home ]
place_within n s Turn some here home good = here
place_within n s (Issue at op a v) some here home good = here
place_within n s (Init at a v) some here home good = here
place_within n s Fence some here home good = here
place_within n s Where some here home good = here
place_within n s (Spawn d f args hint) some here home good = here
place_within n s (End v) some here home good = here
place_within n s (Trap at kind) some here home good = here

-- only an End may have to wait for the result before it, and it moves nobody
pub free_moving : (n k : ℕ) (s : Sight) (v : Node) (ticket : Option Ticket) (action : Action) → (place_after n s action == s.here) ≡ false → is_free k v ticket action ≡ true
free_moving n k s v None action ne = refl
free_moving n k s v (Some t) (End value) ne = never_same s.here ne
free_moving n k s v (Some t) Turn ne = refl
free_moving n k s v (Some t) (Load at a) ne = refl
free_moving n k s v (Some t) (Issue at op a w) ne = refl
free_moving n k s v (Some t) (Fetch at f a) ne = refl
free_moving n k s v (Some t) (Init at a w) ne = refl
free_moving n k s v (Some t) Fence ne = refl
free_moving n k s v (Some t) (Move at a) ne = refl
free_moving n k s v (Some t) Where ne = refl
free_moving n k s v (Some t) (Print bytes) ne = refl
free_moving n k s v (Some t) (Alloc request) ne = refl
free_moving n k s v (Some t) (Spawn d f args hint) ne = refl
free_moving n k s v (Some t) (Sync d) ne = refl
free_moving n k s v (Some t) (Trap at kind) ne = refl

both_linked : (n k to : ℕ) → k < n → to < n → (to == k) ≡ false → is_linked n k to ≡ true
both_linked n k to inside below ne =
    let r : nat_lt k n ≡ true = tested k inside in
    let s : nat_lt to n ≡ true = tested to below in
    let y : (k == to) ≡ false = grind (arith, eqb_tells) in rw (r, s, y) refl
  where
    tested : (j : ℕ) → j < n → nat_lt j n ≡ true
    tested j less = grind (arith, nat_tests)

-- ---- a context before its action

module _ (u : Setup) (sound : is_sound u.code ≡ true) (some : 1 ≤ u.nodelets) (c : Core) (w : World) (inv : Invariant u c w) (k : ℕ) (q : Name) (x : Context) (state : State) (action : Action) (b : Before u c w inv k q x state action) (stamp : ℕ) (event : ℕ → NodeEvent) (silent : ℕ) where
  abbrev v : Node
  v = c.nodes k

  abbrev here : Sight
  here = seen_here u sound c w inv k q x state action b

  abbrev free : Bool
  free = is_free k v x.ticket action

  abbrev KeptBy : Raw Node Body → Type 0
  KeptBy raw = Kept u w (after_run u c k stamp event raw) raw.step

  keeps_all : KeepsShared v v
  keeps_all = record { cells = refl; granted = refl; cursors = refl; pieces = refl; served = refl }

  -- the steps of the world that make it trap
  pub outside_step : (at : Pos) → IsDone u.nodelets u.turns here action free → outside u k v action ≡ Some at → step (setting_of u) w (Act q None) ≡ Some (with_strand w q (with_trap b.s k OutOfBounds at))
  outside_step at done e = acts_here u sound c w inv k q x state action b None free done ∙ ap (λ o. done_by (setting_of u) w q b.s None action (option_map (refusal_at k OutOfBounds) o)) e

  pub refused_step : (kind : TrapKind) (at : Pos) → way_of u.nodelets u.turns here action free ≡ Refused kind at → step (setting_of u) w (Act q None) ≡ Some (with_strand w q (with_trap b.s b.s.place kind at))
  refused_step kind at e = ⊎_elim
      (λ (bad : IsBad u.nodelets action kind at). bad_there u sound c w inv k q x state action b bad.bad ∙ ap (λ y. Some (with_strand w q (with_trap b.s b.s.place y (pos_of action)))) (sym bad.kind_is) ∙ ap (λ y. Some (with_strand w q (with_trap b.s b.s.place kind y))) (sym bad.pos_is))
      (λ (late : IsLate u.nodelets u.turns here action at × (kind ≡ OutOfBounds)). late_there u sound c w inv k q x state action b at late.0 ∙ ap (λ y. Some (with_strand w q (with_trap b.s b.s.place y at))) (sym late.1))
      (refused_way u.nodelets u.turns here action free kind at e)

  -- it traps where it would use a word that is not granted
  pub outside_kept : (at : Pos) → IsDone u.nodelets u.turns here action free → outside u k v action ≡ Some at → KeptBy (trapped (moved_from k x.place v) x.name (suc silent) OutOfBounds at)
  outside_kept at done e = trap_kept u sound c w inv k q x state action b stamp event (moved_from k x.place v) (suc silent) OutOfBounds at k some
      (moved-part (λ (y : Node). y.contexts) k x.place v (λ t. refl)) (moved-part (λ (y : Node). y.under_way) k x.place v (λ t. refl)) (moved-part (λ (y : Node). y.results) k x.place v (λ t. refl))
      (moved-part (λ (y : Node). y.next_number) k x.place v (λ t. refl)) (moved-part (λ (y : Node). y.main_value) k x.place v (λ t. refl))
      (record {
        cells = moved-part (λ (y : Node). y.cells) k x.place v (λ t. refl);
        granted = moved-part (λ (y : Node). y.granted) k x.place v (λ t. refl);
        cursors = moved-part (λ (y : Node). y.cursors) k x.place v (λ t. refl);
        pieces = moved-part (λ (y : Node). y.pieces) k x.place v (λ t. refl);
        served = moved-part (λ (y : Node). y.served) k x.place v (λ t. refl);
      })
      (inr (refl, (in_world u sound c w inv k q x state action b free done).how))
      (outside_step at done e)

  pub refused_kept : (kind : TrapKind) (at : Pos) → way_of u.nodelets u.turns here action free ≡ Refused kind at → KeptBy (trapped v x.name (suc silent) kind at)
  refused_kept kind at e = trap_kept u sound c w inv k q x state action b stamp event v (suc silent) kind at b.s.place some refl refl refl refl refl keeps_all (inl refl)
      (refused_step kind at e)

  pub sent_away_kept : (to : ℕ) → way_of u.nodelets u.turns here action free ≡ SentTo to → KeptBy (sent_whole v x state (suc silent) to)
  sent_away_kept to e = sent_kept u sound c w inv k q x state action b stamp event (suc silent) to way
      (both_linked u.nodelets k to b.inside
      (subst (λ j. j < u.nodelets) way.goes (place_within u.nodelets here action some b.inside (subst (λ j. j < u.nodelets) (sym b.here.home) (inv.within q b.s b.known).home) way.good))
      (ap (λ j. j == k) (sym way.goes) ∙ way.moves))
    where
      way : IsSent u.nodelets here action to
      way = sent_way u.nodelets u.turns here action free to (free_moving u.nodelets k here v x.ticket action) e

-- ---- an action that is asked for, and the last one

module _ (u : Setup) (sound : is_sound u.code ≡ true) (some : 1 ≤ u.nodelets) (c : Core) (w : World) (inv : Invariant u c w) (k : ℕ) (q : Name) (x : Context) (state : State) (stamp : ℕ) (event : ℕ → NodeEvent) (count : ℕ) where
  abbrev old : Node
  old = c.nodes k

  -- what the effect of an action keeps
  abbrev Does : (action : Action) → Before u c w inv k q x state action → (List ℤ → State) → Type 0
  Does action b resume =
      due u.code state ≡ asks action resume → code.step u.code state ≡ asks action resume → (free : Bool) → IsDone u.nodelets u.turns (seen_here u sound c w inv k q x state action b) action free → outside u k old action ≡ None →
      Kept u w (after_run u c k stamp event (went_on k x count resume (effect u k old x state action))) (went_on k x count resume (effect u k old x state action)).step

  plainly : (action : Action) (b : Before u c w inv k q x state action) (resume : List ℤ → State) →
      ((free : Bool) → IsDone u.nodelets u.turns (seen_here u sound c w inv k q x state action b) action free → IsPlain u sound c w inv k q x state action b (effect u k old x state action)) → Does action b resume
  plainly action b resume plain is_due is_next free done out =
      plain_kept u sound c w inv k q x state action b stamp event count resume some is_due is_next free done out (effect u k old x state action) (plain free done)

  pub asked_kept : (action : Action) (b : Before u c w inv k q x state action) (resume : List ℤ → State) → IsAsked action → Does action b resume
  asked_kept Turn b resume s = plainly Turn b resume (λ f d. turn_plain u sound c w inv k q x state b)
  asked_kept Fence b resume s = plainly Fence b resume (λ f d. fence_plain u sound c w inv k q x state b)
  asked_kept Where b resume s = plainly Where b resume (λ f d. where_plain u sound c w inv k q x state b)
  asked_kept (Move at a) b resume s = plainly (Move at a) b resume (λ f d. move_plain u sound c w inv k q x state at a b (in_world u sound c w inv k q x state (Move at a) b f d))
  asked_kept (Print bytes) b resume s = plainly (Print bytes) b resume (λ f d. print_plain u sound c w inv k q x state bytes b (in_world u sound c w inv k q x state (Print bytes) b f d))
  asked_kept (Load at a) b resume s = plainly (Load at a) b resume (λ f d. load_plain u sound c w inv k q x state at a b (in_world u sound c w inv k q x state (Load at a) b f d))
  asked_kept (Fetch at f a) b resume s = plainly (Fetch at f a) b resume (λ g d. fetch_plain u sound c w inv k q x state at f a b (in_world u sound c w inv k q x state (Fetch at f a) b g d))
  asked_kept (Issue at op a word) b resume s = plainly (Issue at op a word) b resume
      (λ f d. issue_plain u sound c w inv k q x state at op a word b (owner_of-below a k u.nodelets some (not_bad u.nodelets a d.good) b.inside))
  asked_kept (Init at a word) b resume s = plainly (Init at a word) b resume (λ f d. init_plain u sound c w inv k q x state at a word b)
  asked_kept (Alloc request) b resume s = plainly (Alloc request) b resume
      (λ f d. alloc_plain u sound c w inv k q x state request b (in_world u sound c w inv k q x state (Alloc request) b f d) d.stays_here)
  asked_kept (Spawn d f args hint) b resume s = λ is_due is_next free done out. spawn_kept u sound c w inv k q x state d f args hint b stamp event count some resume is_due is_next free done
  asked_kept (Sync d) b resume s = λ is_due is_next free done out. join_kept u sound c w inv k q x state d b stamp event count some resume is_due is_next free done
  asked_kept (End value) b resume s = absurd s
  asked_kept (Trap at kind) b resume s = absurd s

  pub last_kept : (action : Action) (b : Before u c w inv k q x state action) → IsLast action → (free : Bool) → IsDone u.nodelets u.turns (seen_here u sound c w inv k q x state action b) action free →
      Kept u w (after_run u c k stamp event (last_done u k old x state count action)) (last_done u k old x state count action).step
  last_kept (End value) b s f done = end_kept u sound c w inv k q x state value b stamp event count some (acts_here u sound c w inv k q x state (End value) b None f done)
  last_kept (Trap at kind) b s f done =
      trap_kept u sound c w inv k q x state (Trap at kind) b stamp event old count kind at b.s.place some refl refl refl refl refl (record { cells = refl; granted = refl; cursors = refl; pieces = refl; served = refl }) (inl refl)
      (acts_here u sound c w inv k q x state (Trap at kind) b None f done)
  last_kept Turn b s f done = absurd s
  last_kept Fence b s f done = absurd s
  last_kept Where b s f done = absurd s
  last_kept (Move at a) b s f done = absurd s
  last_kept (Print bytes) b s f done = absurd s
  last_kept (Load at a) b s f done = absurd s
  last_kept (Fetch at g a) b s f done = absurd s
  last_kept (Issue at op a word) b s f done = absurd s
  last_kept (Init at a word) b s f done = absurd s
  last_kept (Alloc request) b s f done = absurd s
  last_kept (Spawn d g args hint) b s f done = absurd s
  last_kept (Sync d) b s f done = absurd s
