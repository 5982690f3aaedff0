-- A context goes on at a nodelet up to its next action.
use Rattle.std.specs.Prelude.{ℕ, zero, suc, ℤ, List, Bool, true, not, ◌&&◌, ◌||◌, ◌==◌, if◌then◌else◌, Option, Some, None, is_some, option_and_then}
use Rattle.std.specs.List.{list_all}
use Rattle.word_ops.specs.declared.place.Pos.{Pos}
use Rattle.word_ops.specs.declared.name.Name.{Name}
use Rattle.word_ops.specs.declared.ticket.Ticket.{Ticket}
use Rattle.word_ops.specs.declared.step.Step.TheVariants.{Act}
use Rattle.word_ops.specs.declared.ending.TrapKind.{TrapKind}
use Rattle.word_ops.specs.declared.ending.TrapKind.TheVariants.{BadAddress, OutOfBounds}
use Rattle.word_ops.specs.Report.{below}
use Rattle.world_model.specs.Action.{Action, End, Trap, pos_of}
use Rattle.world_model.specs.Sight.{Sight, is_bad, can_act, is_leaving, place_after}
use Rattle.world_model.specs.Step.{used_at_once}
use Rattle.merge_law.specs.Machine.{Raw}
use Rattle.threadlet_code.specs.Machine.{State, Next, asks, stops, step}
use Rattle.threadlet_code.specs.Running.{halt, Halt, owed}
use Rattle.core_model.specs.Contexts.{Context, Body, Arrival, context_of}
use Rattle.core_model.specs.Nodes.{Setup, Node, is_granted, with_strand, without_strand, with_trap, moved_from, sent_away}
use Rattle.core_model.specs.Effects.{nothing, only_to, Effect, effect}

-- What an event leaves, stamps aside.
abbrev pub Outcome : Type 0
Outcome = Raw Node Body

-- ---- what the context sees

-- All children of an activation have their results here.
abbrev pub are_recorded : Node → Name → ℕ → ℕ → Bool
are_recorded v name d count = list_all (λ order. is_some (v.results name d order)) (below count)

-- What a context sees at nodelet `here` that stands in a state before its action. That nothing of it is pending is
-- that nothing of it is under way, and that children have ended that their results are here.
abbrev pub sight_at : ℕ → Node → Context → State → Sight
sight_at here v x state = record {
  here = here;
  home = x.home;
  clear = v.under_way x.name == 0;
  served = v.served;
  childless = λ d. owed d state == 0;
  all_ended = λ d. are_recorded v x.name d (owed d state);
  late = x.late;
}

-- The result is not here yet.
abbrev pub has_no_result : Node → Option Ticket → Bool
has_no_result v None = true
has_no_result v (Some t) = not (is_some (v.results t.parent t.depth t.order))

-- An action that is not bad is ready; an End whose parent's home is here besides only where its result is not here.
abbrev pub is_free : ℕ → Node → Option Ticket → Action → Bool
is_free here v (Some t) (End value) = not (t.home == here) || has_no_result v (Some t)
is_free here v ticket action = true

-- ---- what becomes of it

-- An action is refused, is done here, must be done at another nodelet, or must wait.
pub data Way : Type 0 where
  Refused : TrapKind → Pos → Way
  DoneHere : Way
  SentTo : ℕ → Way
  Waits : Way

-- The way of an action that neither is bad nor is refused to a late strand, by whether it is ready.
abbrev pub way_by : ℕ → Sight → Action → Bool → Way
way_by n s action ready =
    let k = place_after n s action in
    if k == s.here then (if ready then DoneHere else Waits)
    else (if s.clear then SentTo k else Waits)

-- A ready action that leaves is refused to a late strand, where it stands.
abbrev pub late_way : ℕ → Sight → Action → Bool → Option Pos → Way
late_way n s action ready None = way_by n s action ready
late_way n s action ready (Some at) =
    if ready && is_leaving n s action then Refused OutOfBounds at else way_by n s action ready

-- The way of an action: a bad one is refused first.
abbrev pub way_of : ℕ → ℕ → Sight → Action → Bool → Way
way_of n turns s action free =
    if is_bad n action then Refused BadAddress (pos_of action)
    else late_way n s action (can_act n turns s action && free) s.late

-- ---- what an event leaves

-- A strand traps here and goes. The stamp is that of the event.
abbrev pub trapped : Node → Name → ℕ → TrapKind → Pos → Outcome
trapped v name count kind at = record {
  node = with_trap (without_strand v name) (record { stamp = suc v.stamp; kind = kind; pos = at; name = name });
  bodies = nothing;
  count = count;
  step = Some (Act name None);
}

-- A context is sent whole to nodelet k, to act there.
abbrev pub sent_whole : Node → Context → State → ℕ → ℕ → Outcome
sent_whole v x state count k = record {
  node = sent_away (without_strand v x.name);
  bodies = only_to k (Arrival (record x { state = state }));
  count = count;
  step = None;
}

-- A context stays before its action, where it has got further.
abbrev pub stays_before : Node → Context → State → ℕ → Option Outcome
stays_before v x state zero = None
stays_before v x state (suc count) = Some (record { node = with_strand v (record x { state = state }); bodies = nothing; count = suc count; step = None })

-- A strand goes on here behind its action, which had its effect.
abbrev pub went_on : ℕ → Context → ℕ → (List ℤ → State) → Effect → Outcome
went_on here x count resume e = record {
  node = with_strand (moved_from here x.place e.node) (record x { place = here; state = resume e.answer });
  bodies = e.sends;
  count = count;
  step = Some (Act x.name e.child);
}

-- A strand has ended, and goes.
abbrev pub gone : Context → ℕ → Effect → Outcome
gone x count e = record { node = without_strand e.node x.name; bodies = e.sends; count = count; step = Some (Act x.name None) }

-- ---- an action that is done here

-- An action would use a word here that is not granted: its place in the text.
abbrev pub outside : Setup → ℕ → Node → Action → Option Pos
outside m here v action =
    option_and_then (λ used. if is_granted m.rules v used.1 then None else Some (pos_of action)) (used_at_once m.nodelets here action)

-- The last action of a strand: it traps, or ends.
abbrev pub last_done : Setup → ℕ → Node → Context → State → ℕ → Action → Outcome
last_done m here v x state count (Trap at kind) = trapped v x.name count kind at
last_done m here v x state count action = gone x count (effect m here v x state action)

-- An action that has its effect; an answer leads on.
abbrev pub has_effect : Setup → ℕ → Node → Context → State → ℕ → Next → Option Outcome
has_effect m here v x state count (asks action resume) = Some (went_on here x count resume (effect m here v x state action))
has_effect m here v x state count (stops action) = Some (last_done m here v x state count action)
has_effect m here v x state count _ = None

-- An action that is done here: where it would use a word that is not granted, the strand traps here in its place.
abbrev pub done_here : Setup → ℕ → Node → Context → State → ℕ → Next → Option Pos → Option Outcome
done_here m here v x state count next None = has_effect m here v x state count next
done_here m here v x state count next (Some at) = Some (trapped (moved_from here x.place v) x.name count OutOfBounds at)

-- ---- a run

-- The action that comes next, if one does.
abbrev pub action_in : Next → Option Action
action_in (asks action resume) = Some action
action_in (stops action) = Some action
action_in _ = None

-- What becomes of a context that stands in a state before an action, behind so many silent instructions.
abbrev pub by_way : Setup → ℕ → Node → Context → State → ℕ → Next → Action → Way → Option Outcome
by_way m here v x state silent next action (Refused kind at) = Some (trapped v x.name (suc silent) kind at)
by_way m here v x state silent next action DoneHere = done_here m here v x state (suc silent) next (outside m here v action)
by_way m here v x state silent next action (SentTo k) = Some (sent_whole v x state (suc silent) k)
by_way m here v x state silent next action Waits = stays_before v x state silent

-- A context takes up its silent instructions, and then its action.
abbrev pub taken_up : Setup → ℕ → Node → Context → Halt → Option Outcome
taken_up m here v x at =
    let next = step m.code at.state in
    option_and_then (λ action. by_way m here v x at.state at.silent next action
    (way_of m.nodelets m.turns (sight_at here v x at.state) action (is_free here v x.ticket action))) (action_in next)

-- What a run of the context of a name leaves at nodelet `here`; none where the context is not here or waits.
abbrev pub run : Setup → ℕ → Node → Name → Option Outcome
run m here v name = option_and_then (λ x. taken_up m here v x (halt m.code x.state)) (context_of name v.contexts)
