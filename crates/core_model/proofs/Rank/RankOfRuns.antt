-- A run lowers what its nodelet counts, what it sends included.
use Rattle.std.proofs.Common.{◌≡◌, ℕ, suc, ◌+◌, ◌*◌, ◌<◌, ◌≤◌, ◌⊎◌, inl, inr, List, [], Some, None, refl, sym, ap, ◌∙◌, subst, arith, Bool, true, false, ⊎_elim, ℤ, nat_lt, not}
use Rattle.std.specs.Prelude.{if◌then◌else◌}
use Rattle.std.proofs.Math.Nat.{mul-le-mul_left}
use Rattle.std.proofs.lemmas.Bool.{eq-eqb}
use Rattle.std.proofs.lemmas.Bool.Decides.{nat_tests}
use Rattle.word_ops.specs.declared.place.Pos.{Pos}
use Rattle.word_ops.specs.declared.name.Name.{Name}
use Rattle.word_ops.specs.declared.ending.TrapKind.{TrapKind}
use Rattle.word_ops.specs.declared.ending.TrapKind.TheVariants.{OutOfBounds}
use Rattle.merge_law.specs.Machine.{Raw}
use Rattle.merge_law.proofs.Somes.{some_is}
use Rattle.world_model.specs.Action.{Action, Turn, Load, Issue, Fetch, Init, Fence, Move, Where, Print, Alloc, Spawn, Sync, End, Trap}
use Rattle.world_model.specs.Sight.{Sight, is_bad, is_leaving}
use Rattle.threadlet_code.specs.declared.code.Code.{Code}
use Rattle.threadlet_code.specs.Breaches.{is_sound}
use Rattle.threadlet_code.specs.Machine.{State, Next, goes, asks, stops, stuck, step}
use Rattle.threadlet_code.proofs.Kept.{has_turns}
use Rattle.core_model.specs.Contexts.{Context, Body, Arrival, without_context}
use Rattle.core_model.specs.Nodes.{Setup, Node, moved_from}
use Rattle.core_model.specs.Effects.{nothing, only_to, effect}
use Rattle.core_model.specs.Runs.{Refused, way_of, sight_at, is_free, outside, run, went_on, gone, trapped, sent_whole, last_done, action_in}
use Rattle.core_model.specs.Rank.{left_in, weight, context_rank, must_leave}
use Rattle.core_model.proofs.Actions.Sights.{not_both}
use Rattle.core_model.proofs.Actions.Ways.{IsDone, IsSent, IsLate, IsBad, done_way, sent_way, refused_way}
use Rattle.core_model.proofs.Actions.WordActions.{moved-part}
use Rattle.core_model.proofs.Actions.LastActions.{IsLast, IsAsked}
use Rattle.core_model.proofs.Events.RunByWay.{free_moving}
use Rattle.core_model.proofs.Census.ContextOrder.{Ascending}
use Rattle.core_model.proofs.Actions.RunOutcomes.{halted, silent_of, stayed, IsAt, Ways, ran_by}
use Rattle.core_model.proofs.Rank.Balance.{carried, carried-nothing, carried-only}
use Rattle.core_model.proofs.Rank.InstructionsLeft.{Leaves, LeavesAnswered, step_leaves, halted_left}
use Rattle.core_model.proofs.Rank.Departures.{at_halt, rank_least, rank_there, rank_away, leaves_halted, sent_leaves, sent_arrives, weighed_less}
use Rattle.core_model.proofs.Rank.NodeletSums.{Lowers, gone_lowers, stays_lowers, light_lowers, turn_lowers}
use Rattle.core_model.proofs.Rank.LightActions.{asked_light, end_light}

-- ---- an action that is no Turn

answered_less : (code : Code) (l : ℕ) (action : Action) (resume : List ℤ → State) → (action ≡ Turn → ⊥) → LeavesAnswered code l action resume → (answer : List ℤ) → left_in code (resume answer) < l
answered_less code l Turn resume other less = absurd (other refl)
answered_less code l (Load at a) resume other less = less
answered_less code l (Issue at op a word) resume other less = less
answered_less code l (Fetch at f a) resume other less = less
answered_less code l (Init at a word) resume other less = less
answered_less code l Fence resume other less = less
answered_less code l (Move at a) resume other less = less
answered_less code l Where resume other less = less
answered_less code l (Print bytes) resume other less = less
answered_less code l (Alloc request) resume other less = less
answered_less code l (Spawn d g args hint) resume other less = less
answered_less code l (Sync d) resume other less = less
answered_less code l (End value) resume other less = less
answered_less code l (Trap at kind) resume other less = less

-- something is left before it
something_left : (code : Code) (l : ℕ) (next : Next) (action : Action) → Leaves code l next → action_in next ≡ Some action → (action ≡ Turn → ⊥) → 1 ≤ l
something_left code l (goes after) action leaves e other = absurd cc
something_left code l stuck action leaves e other = absurd cc
something_left code l (stops a) action leaves e other = leaves
something_left code l (asks a resume) action leaves e other =
    let is : a ≡ action = some_is a action e in
    let less = answered_less code l a resume (λ t. other (sym is ∙ t)) leaves [] in omega arith

-- a Turn is never refused
refused_other : (n turns : ℕ) (s : Sight) (action : Action) (free : Bool) (kind : TrapKind) (at : Pos) → way_of n turns s action free ≡ Refused kind at → action ≡ Turn → ⊥
refused_other n turns s action free kind at e is =
    ⊎_elim
    (λ (bad : IsBad n action kind at). let z : is_bad n action ≡ false = ap (is_bad n) is in not_both (is_bad n action) bad.bad z)
    (λ (late : IsLate n turns s action at × (kind ≡ OutOfBounds)).
    let z : is_leaving n s action ≡ false = ap (is_leaving n s) is ∙ ap not (eq-eqb s.here s.here refl) in not_both (is_leaving n s action) late.0.leaving z)
    (refused_way n turns s action free kind at e)

-- ---- a context before its action

module _ (u : Setup) (sound : is_sound u.code ≡ true) (k : ℕ) (v : Node) (up : Ascending v.contexts) (q : Name) (x : Context) (action : Action) (at : IsAt u k v q x action) where
  abbrev state : State
  state = halted u x

  abbrev silent : ℕ
  silent = silent_of u x

  abbrev here : Sight
  here = sight_at k v x state

  abbrev LowersBy : Raw Node Body → Type 0
  LowersBy raw = Lowers u k v raw.node raw.bodies

  nothing_sent : carried u nothing ≡ 0
  nothing_sent = carried-nothing u

  leaves : Leaves u.code (left_in u.code state) (step u.code state)
  leaves = step_leaves u.code (has_turns u.code sound) state

  -- a strand that is before no Turn counts
  counts_much : (action ≡ Turn → ⊥) → 8 ≤ context_rank u k x
  counts_much other =
      let some = something_left u.code (left_in u.code state) (step u.code state) action leaves at.next other in
      let halts = halted_left u.code sound x.state in
      let much : weight u * 0 + weight u ≤ weight u * left_in u.code x.state = weighed_less (weight u) 0 (left_in u.code x.state) (omega arith) in
      let least : weight u * left_in u.code x.state ≤ context_rank u k x = rank_least u k x in
      ends u.nodelets (weight u * 0) (weight u * left_in u.code x.state) (context_rank u k x) much least
    where
      ends : (n z a r : ℕ) → z + (3 * n + 8) ≤ a → a ≤ r → 8 ≤ r
      ends n z a r e1 e2 = omega arith

  trapped_lowers : (v' : Node) (count : ℕ) (kind : TrapKind) (place : Pos) → v'.contexts ≡ v.contexts → v'.served ≡ v.served → (action ≡ Turn → ⊥) → LowersBy (trapped v' x.name count kind place)
  trapped_lowers v' count kind place contexts served other =
      let much = counts_much other in
      gone_lowers u k v q x at.found up (trapped v' x.name count kind place).node nothing (ap (without_context x.name) contexts) served (let z = nothing_sent in omega arith)

  sent_lowers : (to : ℕ) → IsSent u.nodelets here action to → LowersBy (sent_whole v x state (suc silent) to)
  sent_lowers to way =
      let halts = halted_left u.code sound x.state in
      let only : carried u (only_to to (Arrival (at_halt u x))) ≤ suc (context_rank u to (at_halt u x)) = carried-only u to (Arrival (at_halt u x)) in
      let there : context_rank u to (at_halt u x) ≡ weight u * left_in u.code state = rank_there u to (at_halt u x) (sent_arrives u sound k v x action to at.next way) in
      let away : context_rank u k x ≡ weight u * left_in u.code x.state + 2 = rank_away u k x (sent_leaves u k x sound v action to at.next way) in
      let most : weight u * left_in u.code state ≤ weight u * left_in u.code x.state = mul-le-mul_left (weight u) (omega arith) in
      gone_lowers u k v q x at.found up (sent_whole v x state (suc silent) to).node (only_to to (Arrival (at_halt u x))) refl refl
      (ends (carried u (only_to to (Arrival (at_halt u x)))) (context_rank u to (at_halt u x)) (context_rank u k x) (weight u * left_in u.code state) (weight u * left_in u.code x.state) only there away most)
    where
      ends : (c r' r a b : ℕ) → c ≤ suc r' → r' ≡ a → r ≡ b + 2 → a ≤ b → c < r
      ends c r' r a b e1 e2 e3 e4 = omega arith

  stayed_lowers : (less : ℕ) → silent ≡ suc less → LowersBy (stayed v x state (suc less))
  stayed_lowers m is =
      let halts = halted_left u.code sound x.state in
      let step : weight u * left_in u.code state + weight u ≤ weight u * left_in u.code x.state = weighed_less (weight u) (left_in u.code state) (left_in u.code x.state) (omega arith) in
      stays_lowers u k v q x at.found up (at_halt u x) refl
      (subst (λ t. weight u * left_in u.code state + (if t then 2 else 0) < context_rank u k x) (sym (leaves_halted u k x sound))
      (ends u.nodelets (weight u * left_in u.code state) (weight u * left_in u.code x.state) (if must_leave u k x then 2 else 0) step)) nothing nothing_sent
    where
      ends : (n a b m : ℕ) → a + (3 * n + 8) ≤ b → a + m < b + m
      ends n a b m e1 = omega arith

  -- ---- an action that has its effect

  turn_or : (a : Action) → (a ≡ Turn) ⊎ (a ≡ Turn → ⊥)
  turn_or Turn = inl refl
  turn_or _ = inr (λ e. absurd cc)

  asked_turn : (resume : List ℤ → State) → LeavesAnswered u.code (left_in u.code state) Turn resume → v.served < u.turns → (count : ℕ) → LowersBy (went_on k x count resume (effect u k v x state Turn))
  asked_turn resume more before count =
      let halts = halted_left u.code sound x.state in
      let first = more [] in
      turn_lowers u k v q x at.found up count resume (effect u k v x state Turn) refl refl before nothing_sent (omega arith)

  asked_other : (action ≡ Turn → ⊥) → IsAsked action → (resume : List ℤ → State) → LeavesAnswered u.code (left_in u.code state) action resume → (count : ℕ) → LowersBy (went_on k x count resume (effect u k v x state action))
  asked_other other asked resume more count =
      let halts = halted_left u.code sound x.state in
      let less = answered_less u.code (left_in u.code state) action resume other more (effect u k v x state action).answer in
      light_lowers u k v q x at.found up count resume (effect u k v x state action) (omega arith) (asked_light u sound k v q x at.found up state action asked other)

  asked_lowers : (free : Bool) → IsDone u.nodelets u.turns here action free → (resume : List ℤ → State) → step u.code state ≡ asks action resume → IsAsked action → (count : ℕ) →
      LowersBy (went_on k x count resume (effect u k v x state action))
  asked_lowers free done resume is asked count = ⊎_elim
      (λ (turn : action ≡ Turn). subst (λ (a : Action). LowersBy (went_on k x count resume (effect u k v x state a))) (sym turn)
      (asked_turn resume (subst (λ (a : Action). LeavesAnswered u.code (left_in u.code state) a resume) turn more)
      (served (subst (λ (a : Action). IsDone u.nodelets u.turns here a free) turn done)) count))
      (λ other. asked_other other asked resume more count)
      (turn_or action)
    where
      more : LeavesAnswered u.code (left_in u.code state) action resume
      more = subst (Leaves u.code (left_in u.code state)) is leaves

      served : IsDone u.nodelets u.turns here Turn free → v.served < u.turns
      served done = let ready : nat_lt v.served u.turns ≡ true = done.ready in grind (arith, nat_tests)

  last_lowers : IsLast action → (count : ℕ) → LowersBy (last_done u k v x state count action)
  last_lowers last count = by action refl last
    where
      by : (a : Action) → action ≡ a → IsLast a → LowersBy (last_done u k v x state count a)
      by (Trap place kind) is last = trapped_lowers v count kind place refl refl (λ turn. let z : Trap place kind ≡ Turn = sym is ∙ turn in absurd cc)
      by (End value) is last =
          let much = counts_much (λ turn. let z : End value ≡ Turn = sym is ∙ turn in absurd cc) in
          let ends = end_light u sound k v q x at.found up x.ticket value in
          gone_lowers u k v q x at.found up (gone x count (effect u k v x state (End value))).node (effect u k v x state (End value)).sends
          (ap (without_context x.name) ends.0) ends.1 (let z = ends.2 in omega arith)
      by other is last = absurd last

-- ---- a run

pub ran_lowers : (u : Setup) → is_sound u.code ≡ true → (k : ℕ) (v : Node) → Ascending v.contexts → (q : Name) (raw : Raw Node Body) → run u k v q ≡ Some raw → Lowers u k v raw.node raw.bodies
ran_lowers u sound k v up q raw e = ran_by u k v q (λ r. Lowers u k v r.node r.bodies) ways raw e
  where
    outside_other : (action : Action) (place : Pos) → outside u k v action ≡ Some place → action ≡ Turn → ⊥
    outside_other action place e is = let z : None ≡ Some place = sym (ap (outside u k v) is) ∙ e in absurd cc

    ways : Ways u k v q (λ r. Lowers u k v r.node r.bodies)
    ways = record {
      refused = λ x action at kind place way. trapped_lowers u sound k v up q x action at v (suc (silent_of u x)) kind place refl refl
          (refused_other u.nodelets u.turns (sight_at k v x (halted u x)) action (is_free k v x.ticket action) kind place way);
      sent = λ x action at to way. sent_lowers u sound k v up q x action at to
          (sent_way u.nodelets u.turns (sight_at k v x (halted u x)) action (is_free k v x.ticket action) to (free_moving u.nodelets k (sight_at k v x (halted u x)) v x.ticket action) way);
      stays = λ x action at way less is. stayed_lowers u sound k v up q x action at less is;
      outside_of = λ x action at way place out. trapped_lowers u sound k v up q x action at (moved_from k x.place v) (suc (silent_of u x)) OutOfBounds place
          (moved-part (λ (y : Node). y.contexts) k x.place v (λ t. refl)) (moved-part (λ (y : Node). y.served) k x.place v (λ t. refl)) (outside_other action place out);
      asked = λ x action at way out resume is sorted. asked_lowers u sound k v up q x action at (is_free k v x.ticket action)
          (done_way u.nodelets u.turns (sight_at k v x (halted u x)) action (is_free k v x.ticket action) way) resume is sorted (suc (silent_of u x));
      last = λ x action at way out is sorted. last_lowers u sound k v up q x action at sorted (suc (silent_of u x));
    }
