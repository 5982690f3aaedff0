-- Events, and the entries that tell of them.
use Rattle.std.specs.Prelude.{ℕ}
use Rattle.word_ops.specs.declared.step.Entry.{Entry}
use Rattle.word_ops.specs.declared.step.NodeEvent.{NodeEvent}
use Rattle.word_ops.specs.declared.step.NodeEvent.TheVariants as node
use Rattle.merge_law.specs.declared.event.Event.{Event}
use Rattle.merge_law.specs.declared.event.Event.TheVariants as event

-- An entry and the nodelet that made it.
pub record Placed : Type 0 where
  pub nodelet : ℕ
  pub entry : Entry

-- The nodelet at which an event happens.
abbrev pub nodelet_of : Event → ℕ
nodelet_of (event.Run nodelet name) = nodelet
nodelet_of (event.Take origin nodelet) = nodelet

-- What happens at nodelet k, as an event.
abbrev pub event_at : ℕ → NodeEvent → Event
event_at k (node.Run name count) = event.Run k name
event_at k (node.Take origin) = event.Take origin k

-- The event that an entry tells of.
abbrev pub event_of : Placed → Event
event_of x = event_at x.nodelet x.entry.event
