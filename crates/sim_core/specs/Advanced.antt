-- What an event leaves of a core that the code keeps.
use Rattle.std.specs.Prelude.{◌≡◌, ℕ, List, [], ◌∷◌, ◌++◌, ◌==◌, if◌then◌else◌, slice_get, Option, Some, None}
use Rattle.word_ops.specs.declared.step.Entry.{Entry}
use Rattle.merge_law.specs.declared.event.Event.{Event}
use Rattle.merge_law.specs.Events.{nodelet_of}
use Rattle.merge_law.specs.Core as merge
use Rattle.threadlet_code.specs.declared.code.Code.{Code}
use Rattle.nodelet_core.specs.declared.nodelet.Nodelet.{Nodelet}
use Rattle.core_model.specs.Nodes.{Node}
use Rattle.core_model.specs.Machine.{Packet, machine_of}
use Rattle.sim_core.specs.declared.machine.Core.{Core as Kept}
use Rattle.sim_core.specs.Kept.{setup_in, core_in}
use Rattle.core_model.specs.Laws.{IsPlayed}

-- A core has the nodelets, turns and rules of another.
pub record SameRun (before after : Kept) : Type 0 where
  pub count : after.count ≡ before.count
  pub turns : after.turns ≡ before.turns
  pub rules : after.rules ≡ before.rules

-- The entries of a nodelet, if it is there.
abbrev pub entries_in : Option Nodelet → List Entry
entries_in None = []
entries_in (Some v) = v.entries

abbrev pub entries_at : Kept → ℕ → List Entry
entries_at kept k = entries_in (slice_get kept.nodes.items k)

-- The core is what a legal event leaves, and the nodelet at which it happened has the entry that tells of it besides.
pub record HasAdvanced (code : Code) (before after : Kept) (event : Event) : Type 0 where
  pub settings : SameRun before after
  pub left : merge.After Node Packet
  pub legal : merge.after (machine_of (setup_in code before)) (core_in code before) event ≡ Some left
  pub core : core_in code after ≡ left.core
  pub entries : (k : ℕ) → entries_at after k ≡ entries_at before k ++ (if k == nodelet_of event then left.entry.entry ∷ [] else [])

-- A core is as it was, whatever memory it now has.
pub record IsUnchanged (before after : Kept) : Type 0 where
  pub settings : SameRun before after
  pub core : (code : Code) → core_in code after ≡ core_in code before
  pub entries : (k : ℕ) → entries_at after k ≡ entries_at before k

-- Legal events have led to a core from the start.
pub record IsReached (code : Code) (kept : Kept) : Type 0 where
  pub events : List Event
  pub played : merge.Played Node Packet
  pub plays : IsPlayed (setup_in code kept) events played
  pub core : core_in code kept ≡ played.core
