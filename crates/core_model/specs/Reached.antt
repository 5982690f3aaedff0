-- What the entries of a run make of a world, one by one.
use Rattle.std.specs.Prelude.{ℕ, List, [], ◌∷◌, ◌==◌, filter_map, slice_get, if◌then◌else◌, Option, Some, None, option_and_then}
use Rattle.std.specs.Option.{option_map_or}
use Rattle.word_ops.specs.declared.name.Name.{Name}
use Rattle.word_ops.specs.declared.step.Step.{Step}
use Rattle.word_ops.specs.declared.step.Step.TheVariants.{Act}
use Rattle.merge_law.specs.Events.{Placed}
use Rattle.world_model.specs.World.{Setting, Status, Live, Ended, Trapped, World, strand_of}
use Rattle.world_model.specs.Step.{step}
use Rattle.core_model.specs.declared.trapped.Trapped.{Trapped as Trap}

-- An entry, and the world behind it.
pub record Reached : Type 0 where
  pub entry : Placed
  pub world : World

-- The world behind an entry's step, and the same world where it has none.
abbrev pub stepped : Setting → World → Option Step → Option World
stepped u w None = Some w
stepped u w (Some t) = step u w t

-- Entries from a world on, each with the world behind it, as far as their steps are possible.
abbrev pub reached : Setting → World → List Placed → List Reached
reached u w [] = []
reached u w (x ∷ told) =
    option_map_or (λ v. record { entry = x; world = v } ∷ reached u v told) (stepped u w x.entry.step) []

-- ---- the first strand that traps at a nodelet

-- What a nodelet keeps of a strand with this status that has just acted there.
abbrev pub kept_trap : ℕ → Name → Status → Option Trap
kept_trap stamp name Live = None
kept_trap stamp name (Ended value) = None
kept_trap stamp name (Trapped kind at) = Some (record { stamp = stamp; kind = kind; pos = at; name = name })

-- The trap that a step with this stamp tells of.
abbrev pub trapped_in : ℕ → World → Option Step → Option Trap
trapped_in stamp w (Some (Act name child)) = option_and_then (λ s. kept_trap stamp name s.status) (strand_of w name)
trapped_in stamp w _ = None

-- The trap that an entry of nodelet k tells of.
abbrev pub trapped_at : ℕ → Reached → Option Trap
trapped_at k r =
    if r.entry.nodelet == k then trapped_in r.entry.entry.stamp r.world r.entry.entry.step else None

-- The first of them.
abbrev pub first_trapped : ℕ → List Reached → Option Trap
first_trapped k rs = slice_get (filter_map (trapped_at k) rs) 0
