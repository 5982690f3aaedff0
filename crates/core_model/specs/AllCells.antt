-- The words of all nodelets, also of those that are not there.
use Rattle.std.specs.Prelude.{◌≡◌, ◌≤◌, ℕ, ℤ, pos, List, true, Some}
use Rattle.word_ops.specs.declared.step.Step.{Step}
use Rattle.merge_law.specs.declared.event.Event.{Event}
use Rattle.merge_law.specs.Core.{Played}
use Rattle.merge_law.specs.Merge.{steps_of}
use Rattle.threadlet_code.specs.Breaches.{is_sound}
use Rattle.world_model.specs.World.{Setting, World}
use Rattle.world_model.specs.Run.{run_of}
use Rattle.core_model.specs.Nodes.{Setup, Node}
use Rattle.core_model.specs.Machine.{Packet}
use Rattle.core_model.specs.Core.{setting_of}
use Rattle.core_model.specs.Laws.{IsPlayed}

-- In every run the words of nodelets that are not there are 0.
abbrev pub CellsBeyondAreZero : Type 0
CellsBeyondAreZero = (on : Setting) → 1 ≤ on.nodelets → (told : List Step) (w : World) → run_of on told ≡ Some w →
    (k : ℕ) (a : ℤ) → on.nodelets ≤ k → w.cells k a ≡ pos 0

-- A core has the words of the world, at nodelets that are there and at those that are not.
abbrev pub CellsAreAll : Type 0
CellsAreAll = (u : Setup) → is_sound u.code ≡ true → 1 ≤ u.nodelets → (events : List Event) (played : Played Node Packet) → IsPlayed u events played →
    (w : World) → run_of (setting_of u) (steps_of played.told) ≡ Some w → (k : ℕ) (a : ℤ) → (played.core.nodes k).cells a ≡ w.cells k a
