-- What a nodelet is that the code keeps.
use Rattle.std.specs.Prelude.{◌≡◌, ℕ, ◌+◌, List, length, map, Bool, true, ◌==◌, if◌then◌else◌, Option, Some, None}
use Rattle.std.specs.List.{list_all}
use Rattle.word_ops.specs.declared.name.Name.{Name}
use Rattle.threadlet_code.specs.declared.code.Code.{Code}
use Rattle.threadlet_state.specs.declared.context.Context as carried
use Rattle.threadlet_state.specs.declared.packet.Packet as sent
use Rattle.threadlet_state.specs.declared.packet.Body as sent_body
use Rattle.threadlet_state.specs.declared.packet.Body.TheVariants as by
use Rattle.threadlet_state.specs.Activations.{state_of}
use Rattle.threadlet_state.specs.Fit.{frames_fit}
use Rattle.threadlet_code.specs.Machine.{step}
use Rattle.threadlet_code.specs.Running.{owed}
use Rattle.world_model.specs.Run.{is_turn}
use Rattle.nodelet_mem.specs.Words.{word_of, is_granted}
use Rattle.spawn_tree.specs.Joining.{result_of}
use Rattle.ack_fence.specs.Counting.{count_of}
use Rattle.data_layout.specs.CursorTable.{cursor_of}
use Rattle.nodelet_core.specs.declared.nodelet.Nodelet.{Nodelet}
use Rattle.nodelet_core.specs.declared.due.Due.{Due}
use Rattle.nodelet_core.specs.declared.due.Due.TheVariants.{Sync}
use Rattle.nodelet_core.specs.declared.sight.Sight.{Sight}
use Rattle.nodelet_core.specs.declared.next.Next.{Next}
use Rattle.nodelet_core.specs.declared.next.Next.TheVariants.{Goes, Waits}
use Rattle.nodelet_core.specs.Carried.{context_in, body_in}
use Rattle.core_model.specs.Nodes.{Setup, Node}
use Rattle.nodelet_core.specs.code.Standing.{names_of}
use Rattle.core_model.specs.Runs.{are_recorded, action_in}
use Rattle.nodelet_core.specs.code.Tallied.{tallies_of}
use Rattle.core_model.specs.Machine.{Packet}

-- The first number that a nodelet gives to a strand that is spawned there: nodelet 0 gave 0 to main.
abbrev pub first_number : ℕ → ℕ
first_number number = if number == 0 then 1 else 0

-- The contexts that stand at a nodelet, as the code carries them, in the order of their names.
abbrev pub carried_at : Nodelet → List carried.Context
carried_at v = v.standing.contexts.items

-- What all nodelets of the run share, by what this one keeps.
abbrev pub setup_of : Code → Nodelet → Setup
setup_of code v = record { code = code; nodelets = v.nodelets; turns = v.turns; rules = v.rules }

-- The node that a nodelet is.
abbrev pub node_of : Code → Nodelet → Node
node_of code v = record {
  cells = word_of v.words;
  granted = is_granted v.words;
  contexts = map (context_in code) (carried_at v);
  results = result_of v.joins;
  under_way = count_of v.under_way;
  cursors = cursor_of v.services.cursors;
  pieces = v.services.pieces;
  next_number = first_number v.number + v.spawned;
  served = v.counts.turns;
  tallies = tallies_of v.tally v.counts;
  main_value = v.main_value;
  first_trap = v.first_trap;
  stamp = v.stamp;
}

-- A packet as the machine has it.
abbrev pub packet_in : Code → sent.Packet → Packet
packet_in code p = record { stamp = p.stamp; body = body_in code p.body }

-- ---- what fits the code

-- A context fits the code.
abbrev pub context_fits : Code → carried.Context → Bool
context_fits code x = frames_fit code x.frames

-- So do all that stand at a nodelet.
abbrev pub all_fit : Code → Nodelet → Bool
all_fit code v = list_all (context_fits code) (carried_at v)

-- A context in a packet fits the code.
abbrev pub body_fits : Code → sent_body.Body → Bool
body_fits code (by.Ctx x) = context_fits code x
body_fits code _ = true

abbrev pub packet_fits : Code → sent.Packet → Bool
packet_fits code p = body_fits code p.body

-- ---- what stays

-- A nodelet has the number and the settings of another.
pub record SameSettings (v w : Nodelet) : Type 0 where
  pub number : w.number ≡ v.number
  pub nodelets : w.nodelets ≡ v.nodelets
  pub turns : w.turns ≡ v.turns
  pub rules : w.rules ≡ v.rules

-- A nodelet is as it was, whatever memory it now has.
pub record IsUnchanged (v w : Nodelet) : Type 0 where
  pub settings : SameSettings v w
  pub node : (code : Code) → node_of code w ≡ node_of code v
  pub contexts : carried_at w ≡ carried_at v
  pub entries : w.entries ≡ v.entries

-- ---- whether a context can go on

abbrev pub next_by : {A : Type 0} → Option A → Next
next_by None = Waits
next_by (Some _) = Goes

-- The names of the contexts at a nodelet, in their order.
abbrev pub names_at : Nodelet → List Name
names_at v = names_of (carried_at v)

-- A context stands at a Turn.
abbrev pub is_at_turn : Code → carried.Context → Bool
is_at_turn code x = is_turn (action_in (step code (state_of code x.frames)))

-- ---- what a context sees

-- What a context that is due an action sees at a nodelet; whether its children have ended is told for a Sync alone.
pub record SeesFor (v : Nodelet) (x : carried.Context) (due : Due) (s : Sight) : Type 0 where
  pub here : s.here ≡ v.number
  pub home : s.home ≡ x.home
  pub clear : s.clear ≡ (count_of v.under_way x.name == 0)
  pub served : s.served ≡ v.counts.turns
  pub late : s.late ≡ x.late
  pub childless : (code : Code) → s.childless ≡ (owed (length x.frames) (state_of code x.frames) == 0)
  pub all_ended : (code : Code) → due ≡ Sync →
      s.all_ended ≡ are_recorded (node_of code v) x.name (length x.frames) (owed (length x.frames) (state_of code x.frames))
