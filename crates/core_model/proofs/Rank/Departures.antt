-- Which strands must leave their nodelet before their next action.
use Rattle.std.proofs.Common.{◌≡◌, ℕ, ◌+◌, ◌*◌, ◌<◌, ◌≤◌, suc, Some, refl, ap, ◌∙◌, arith, Bool, true, false, not}
use Rattle.std.specs.Prelude.{if◌then◌else◌, ◌==◌}
use Rattle.std.proofs.lemmas.Bool.{eq-eqb}
use Rattle.std.proofs.Math.Nat.{mul-suc, mul-le-mul_left}
use Rattle.world_model.specs.Action.{Action, Turn, Load, Issue, Fetch, Init, Fence, Move, Where, Print, Alloc, Spawn, Sync, End, Trap}
use Rattle.world_model.specs.Sight.{Sight, place_after}
use Rattle.threadlet_code.specs.Breaches.{is_sound}
use Rattle.threadlet_code.specs.Machine.{State, step}
use Rattle.core_model.specs.Contexts.{Context}
use Rattle.core_model.specs.Nodes.{Setup, Node}
use Rattle.core_model.specs.Runs.{action_in, sight_at}
use Rattle.core_model.specs.Rank.{left_in, placed_at, is_elsewhere, must_leave, weight, context_rank}
use Rattle.core_model.proofs.Actions.Sights.{goes_fixed, not_both}
use Rattle.core_model.proofs.Actions.Ways.{IsSent}
use Rattle.core_model.proofs.Actions.RunOutcomes.{halted}
use Rattle.core_model.proofs.Rank.InstructionsLeft.{halted_again}

-- the place is that of the nodelet's own sight
placed_same : (n k : ℕ) (v : Node) (x : Context) (state : State) (action : Action) → place_after n (placed_at k x state) action ≡ place_after n (sight_at k v x state) action
placed_same n k v x state Turn = refl
placed_same n k v x state (Load at a) = refl
placed_same n k v x state (Issue at op a word) = refl
placed_same n k v x state (Fetch at f a) = refl
placed_same n k v x state (Init at a word) = refl
placed_same n k v x state Fence = refl
placed_same n k v x state (Move at a) = refl
placed_same n k v x state Where = refl
placed_same n k v x state (Print bytes) = refl
placed_same n k v x state (Alloc request) = refl
placed_same n k v x state (Spawn d f args hint) = refl
placed_same n k v x state (Sync d) = refl
placed_same n k v x state (End value) = refl
placed_same n k v x state (Trap at kind) = refl

-- more than a number is a whole weight more
pub weighed_less : (w a b : ℕ) → a < b → w * a + w ≤ w * b
weighed_less w a b less =
    let e : w * suc a ≡ w * a + w = mul-suc w a in
    let le : w * suc a ≤ w * b = mul-le-mul_left w (let z : suc a ≤ b = omega arith in z) in omega arith

-- a context with its silent instructions done
abbrev pub at_halt : Setup → Context → Context
at_halt u x = record x { state = halted u x }

module _ (u : Setup) (k : ℕ) (x : Context) where
  -- a strand that must leave counts no more than two besides
  pub rank_most : context_rank u k x ≤ weight u * left_in u.code x.state + 2
  rank_most = go (must_leave u k x)
    where
      go : (t : Bool) → weight u * left_in u.code x.state + (if t then 2 else 0) ≤ weight u * left_in u.code x.state + 2
      go true = omega arith
      go false = omega arith

  pub rank_least : weight u * left_in u.code x.state ≤ context_rank u k x
  rank_least = omega arith

  pub rank_there : must_leave u k x ≡ false → context_rank u k x ≡ weight u * left_in u.code x.state
  rank_there e = let z : context_rank u k x ≡ weight u * left_in u.code x.state + 0 = ap (λ t. weight u * left_in u.code x.state + (if t then 2 else 0)) e in omega arith

  pub rank_away : must_leave u k x ≡ true → context_rank u k x ≡ weight u * left_in u.code x.state + 2
  rank_away e = ap (λ t. weight u * left_in u.code x.state + (if t then 2 else 0)) e

  abbrev state : State
  state = halted u x

  module _ (sound : is_sound u.code ≡ true) where
    -- silent instructions make no difference
    pub leaves_halted : must_leave u k (at_halt u x) ≡ must_leave u k x
    leaves_halted = ap (λ y. is_elsewhere u k x y (action_in (step u.code y))) (halted_again u.code sound x.state)

    leaves_by : (action : Action) → action_in (step u.code state) ≡ Some action → must_leave u k x ≡ not (place_after u.nodelets (placed_at k x state) action == k)
    leaves_by action e = ap (is_elsewhere u k x state) e

    -- one that is sent on must leave
    pub sent_leaves : (v : Node) (action : Action) (to : ℕ) → action_in (step u.code state) ≡ Some action → IsSent u.nodelets (sight_at k v x state) action to → must_leave u k x ≡ true
    sent_leaves v action to e way =
        leaves_by action e ∙ ap (λ p. not (p == k)) (placed_same u.nodelets k v x state action) ∙ ap not way.moves

-- and not from where it is sent
pub sent_arrives : (u : Setup) → is_sound u.code ≡ true → (k : ℕ) (v : Node) (x : Context) (action : Action) (to : ℕ) → action_in (step u.code (halted u x)) ≡ Some action →
    IsSent u.nodelets (sight_at k v x (halted u x)) action to → must_leave u to (at_halt u x) ≡ false
sent_arrives u sound k v x action to e way =
    leaves_halted u to x sound ∙ leaves_by u to x sound action e ∙ ap (λ p. not (p == to)) there ∙ ap not (eq-eqb to to refl)
  where
    seen : Sight
    seen = sight_at k v x (halted u x)

    has_children : (d : ℕ) → action ≡ Sync d → (t : Bool) → seen.childless d ≡ t → t ≡ false
    has_children d is false f = refl
    has_children d is true f =
        let stays : place_after u.nodelets seen (Sync d) ≡ k = ap (λ t. if t then k else x.home) f in
        not_both (place_after u.nodelets seen action == k) (eq-eqb _ _ (ap (place_after u.nodelets seen) is ∙ stays)) way.moves

    there : place_after u.nodelets (placed_at to x (halted u x)) action ≡ to
    there = goes_fixed u.nodelets seen (placed_at to x (halted u x)) action way.moves refl (λ d is. has_children d is (seen.childless d) refl) ∙ way.goes
