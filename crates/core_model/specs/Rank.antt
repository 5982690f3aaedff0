-- How much a core can still do: a number that each event lowers.
use Rattle.std.specs.Prelude.{ℕ, suc, ◌+◌, ◌-◌, ◌*◌, max, List, [], ◌∷◌, Bool, true, false, not, ◌==◌, if◌then◌else◌, length, sum_by, slice_get, Option, None, Some}
use Rattle.word_ops.specs.Report.{below}
use Rattle.threadlet_code.specs.declared.code.FuncCode.{FuncCode}
use Rattle.threadlet_code.specs.declared.code.Code.{Code}
use Rattle.threadlet_code.specs.Naming.{is_turn}
use Rattle.threadlet_code.specs.Machine.{State, step}
use Rattle.threadlet_code.specs.Running.{halt, owed}
use Rattle.world_model.specs.Action.{Action}
use Rattle.world_model.specs.Sight.{Sight, place_after}
use Rattle.core_model.specs.Contexts.{Context, Body, Arrival, Issued, Ack, Returned}
use Rattle.core_model.specs.Nodes.{Setup}
use Rattle.core_model.specs.Runs.{action_in}
use Rattle.core_model.specs.Core.{Core}

-- ---- instructions

-- How many instructions of a function an activation takes up at most before it ends, is left for another, or is at a
-- Turn; none before a Turn.
abbrev pub left_from : ℕ → Option FuncCode → ℕ
left_from place None = 0
left_from place (Some f) = if is_turn (slice_get f.body place) then 0 else suc (length f.body - place)

-- So all activations together.
abbrev pub left_in : Code → State → ℕ
left_in code [] = 0
left_in code (frame ∷ frames) = left_from frame.at (slice_get code.functions frame.function) + left_in code frames

-- The length of the longest of some functions.
abbrev pub longest : List FuncCode → ℕ
longest [] = 0
longest (f ∷ fs) = max (length f.body) (longest fs)

-- ---- strands

-- What counts of a strand that stands in a state at nodelet k, where its place after an action is asked for.
abbrev pub placed_at : ℕ → Context → State → Sight
placed_at k x state = record {
  here = k;
  home = x.home;
  clear = true;
  served = 0;
  childless = λ d. owed d state == 0;
  all_ended = λ d. false;
  late = None;
}

-- The action is done at another nodelet than k.
abbrev pub is_elsewhere : Setup → ℕ → Context → State → Option Action → Bool
is_elsewhere u k x state None = false
is_elsewhere u k x state (Some action) = not (place_after u.nodelets (placed_at k x state) action == k)

-- A strand must leave nodelet k before its next action.
abbrev pub must_leave : Setup → ℕ → Context → Bool
must_leave u k x =
    let state = (halt u.code x.state).state in
    is_elsewhere u k x state (action_in (step u.code state))

-- ---- the rank

-- More than all that one action sends, with what comes of it.
abbrev pub weight : Setup → ℕ
weight u = 3 * u.nodelets + 8

-- What a strand that is at nodelet k can do before its next Turn.
abbrev pub context_rank : Setup → ℕ → Context → ℕ
context_rank u k x = weight u * left_in u.code x.state + (if must_leave u k x then 2 else 0)

-- What a packet to nodelet k can do.
abbrev pub body_rank : Setup → ℕ → Body → ℕ
body_rank u k (Arrival x) = suc (context_rank u k x)
body_rank u k (Issued name item) = 2
body_rank u k (Ack name late) = 1
body_rank u k (Returned t value) = 1

-- More than all that follows a Turn, with the strand that it spawns, before the next one.
abbrev pub turn_weight : Setup → ℕ
turn_weight u = weight u * (longest u.code.functions + 2)

-- What is left at nodelet k: turns, strands, and packets to it.
abbrev pub node_rank : Setup → Core → ℕ → ℕ
node_rank u c k =
    turn_weight u * (u.turns - (c.nodes k).served)
    + sum_by (context_rank u k) (c.nodes k).contexts
    + sum_by (λ o. sum_by (λ p. body_rank u k p.body) (c.links o k)) (below u.nodelets)

-- What is left in all.
abbrev pub rank : Setup → Core → ℕ
rank u c = sum_by (node_rank u c) (below u.nodelets)
