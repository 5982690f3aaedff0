-- What of an action decides whether it can be done, and where, as the code carries it.
use Rattle.std.specs.Prelude.{[], option_map}
use Rattle.world_model.specs.Action as act
use Rattle.world_model.specs.Action.{Action}
use Rattle.world_model.specs.Sight as world
use Rattle.nodelet_core.specs.declared.due.Due.{Due}
use Rattle.nodelet_core.specs.declared.due.Due.TheVariants as due
use Rattle.nodelet_core.specs.declared.due.Hint.{Hint}
use Rattle.nodelet_core.specs.declared.due.Request.{Request}
use Rattle.nodelet_core.specs.declared.due.Request.TheVariants as request
use Rattle.nodelet_core.specs.declared.sight.Sight.{Sight}
use Rattle.nodelet_core.specs.declared.sight.Way as coded
use Rattle.nodelet_core.specs.declared.sight.Way.TheVariants as by
use Rattle.core_model.specs.Runs.{Way, Refused, DoneHere, SentTo, Waits}

abbrev pub request_of : act.Request → Request
request_of (act.Striped words) = request.Striped words
request_of (act.Blocked blocks words) = request.Blocked blocks words
request_of (act.Local at words address) = request.Local at words address
request_of (act.Replicated words) = request.Replicated words

abbrev pub hint_of : act.Hint → Hint
hint_of hint = record { pos = hint.pos; address = hint.address }

-- An action, without what it prints, what it hands to a child and which activation makes it.
abbrev pub due_of : Action → Due
due_of act.Turn = due.Turn
due_of (act.Load at a) = due.Load at a
due_of (act.Issue at op a v) = due.Issue at op a v
due_of (act.Fetch at f a) = due.Fetch at f a
due_of (act.Init at a v) = due.Init at a v
due_of act.Fence = due.Fence
due_of (act.Move at a) = due.Move at a
due_of act.Where = due.Where
due_of (act.Print bytes) = due.Print
due_of (act.Alloc request) = due.Alloc (request_of request)
due_of (act.Spawn d f args hint) = due.Spawn (option_map hint_of hint)
due_of (act.Sync d) = due.Sync
due_of (act.End value) = due.End value
due_of (act.Trap at kind) = due.Trap at kind

-- ---- back to an action

abbrev pub asked_request : Request → act.Request
asked_request (request.Striped words) = act.Striped words
asked_request (request.Blocked blocks words) = act.Blocked blocks words
asked_request (request.Local at words address) = act.Local at words address
asked_request (request.Replicated words) = act.Replicated words

abbrev pub asked_hint : Hint → act.Hint
asked_hint hint = record { pos = hint.pos; address = hint.address }

-- An action of which this is what decides; nothing looks at the rest of it.
abbrev pub asked : Due → Action
asked due.Turn = act.Turn
asked (due.Load at a) = act.Load at a
asked (due.Issue at op a v) = act.Issue at op a v
asked (due.Fetch at f a) = act.Fetch at f a
asked (due.Init at a v) = act.Init at a v
asked due.Fence = act.Fence
asked (due.Move at a) = act.Move at a
asked due.Where = act.Where
asked due.Print = act.Print []
asked (due.Alloc request) = act.Alloc (asked_request request)
asked (due.Spawn hint) = act.Spawn 0 0 [] (option_map asked_hint hint)
asked due.Sync = act.Sync 0
asked (due.End value) = act.End value
asked (due.Trap at kind) = act.Trap at kind

-- ---- what is seen

-- What the code's sight says, of whatever activation.
abbrev pub seen : Sight → world.Sight
seen s = record {
  here = s.here;
  home = s.home;
  clear = s.clear;
  served = s.served;
  childless = λ d. s.childless;
  all_ended = λ d. s.all_ended;
  late = s.late;
}

abbrev pub way_seen : coded.Way → Way
way_seen (by.Refused kind at) = Refused kind at
way_seen by.DoneHere = DoneHere
way_seen (by.SentTo k) = SentTo k
way_seen by.Waits = Waits
