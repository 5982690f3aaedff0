-- What holds of the contexts of a core, and of the strands that live.
use Rattle.std.specs.Prelude.{◌≡◌, ◌≢◌, ◌≤◌, ◌<◌, ◌⊎◌, ℕ, zero, suc, List, [], ◌∷◌, length, true, Option, Some, None, IsSome, Contains, slice_get, option_and_then}
use Rattle.word_ops.specs.declared.name.Name.{Name}
use Rattle.merge_law.specs.declared.event.Event.{Event}
use Rattle.merge_law.specs.Core.{Played}
use Rattle.merge_law.specs.Merge.{steps_of}
use Rattle.threadlet_code.specs.declared.code.FuncCode.{FuncCode}
use Rattle.threadlet_code.specs.declared.code.Code.{Code}
use Rattle.threadlet_code.specs.Breaches.{is_sound}
use Rattle.threadlet_code.specs.Naming.{slot_named, named}
use Rattle.threadlet_code.specs.Machine.{Frame, State, Next, goes, asks, stops, stuck, step}
use Rattle.threadlet_code.specs.Fitting.{AreSlots}
use Rattle.world_model.specs.World.{Setting, Strand, World, strand_of, value_in}
use Rattle.world_model.specs.Run.{run_of}
use Rattle.core_model.specs.Contexts.{Context, Arrival, context_of}
use Rattle.core_model.specs.Nodes.{Setup, Node}
use Rattle.core_model.specs.Machine.{Packet}
use Rattle.core_model.specs.Core.{Core, setting_of, census}
use Rattle.core_model.specs.Agreement.{IsOf}
use Rattle.core_model.specs.Laws.{IsPlayed, IsLiveIn, MainHasEnded}

-- ---- contexts on links

-- Each context on a link is that of a live strand: it has its place, and is due the action that the meaning gives it.
abbrev pub TravellersAreOf : Setup → Setting → Core → World → Type 0
TravellersAreOf u on c w = (from to : ℕ) (p : Packet) (x : Context) → Contains (c.links from to) p → p.body ≡ Arrival x → IsOf u on w x

abbrev pub ContextsTravel : Type 0
ContextsTravel = (u : Setup) → is_sound u.code ≡ true → 1 ≤ u.nodelets → (events : List Event) (played : Played Node Packet) → IsPlayed u events played →
    (w : World) → run_of (setting_of u) (steps_of played.told) ≡ Some w → TravellersAreOf u (setting_of u) played.core w

-- ---- once main has ended

-- Each strand has ended, so that none lives; and no context is left.
pub record IsOver (u : Setup) (c : Core) (w : World) : Type 0 where
  pub all_ended : (name : Name) (s : Strand) → strand_of w name ≡ Some s → IsSome (value_in s.status)
  pub none_live : (name : Name) → IsLiveIn w name → ⊥
  pub none_left : census u c ≡ []

abbrev pub MainEndsLast : Type 0
MainEndsLast = (u : Setup) → is_sound u.code ≡ true → 1 ≤ u.nodelets → (events : List Event) (played : Played Node Packet) → IsPlayed u events played →
    (w : World) → run_of (setting_of u) (steps_of played.told) ≡ Some w → MainHasEnded w → IsOver u played.core w

-- ---- nothing is missing

-- What a silent instruction leads to.
abbrev pub led_to : Next → Option State
led_to (goes after) = Some after
led_to (asks action resume) = None
led_to (stops action) = None
led_to stuck = None

-- The state after so many silent instructions, where so many come next.
abbrev pub silently : ℕ → Code → State → Option State
silently zero code state = Some state
silently (suc n) code state = option_and_then (λ after. silently n code after) (led_to (step code state))

-- In this state there is something to do: the instruction is there, with the operands that it takes and what it names.
-- The slot that it names is one of its function's, and so are those where children's values go.
pub record MissesNothing (code : Code) (state : State) : Type 0 where
  pub next : step code state ≢ stuck
  pub slot : (frame : Frame) (frames : State) (f : FuncCode) → state ≡ frame ∷ frames → slice_get code.functions frame.function ≡ Some f →
      (slot : ℕ) → named slot_named f frame.at ≡ Some slot → slot < length frame.slots
  pub targets : (frame : Frame) (frames : State) → state ≡ frame ∷ frames → AreSlots (length frame.slots) frame.targets

-- A context stands at a nodelet or travels to one.
abbrev pub IsContextOf : Core → Context → Type 0
IsContextOf c x =
    ((k : ℕ) × (name : Name) × (context_of name (c.nodes k).contexts ≡ Some x))
    ⊎ ((from : ℕ) × (to : ℕ) × (p : Packet) × Contains (c.links from to) p × (p.body ≡ Arrival x))

-- So it is in each state through which an event takes a context.
abbrev pub NothingIsMissing : Setup → Core → Type 0
NothingIsMissing u c = (x : Context) → IsContextOf c x → (n : ℕ) (state : State) → silently n u.code x.state ≡ Some state → MissesNothing u.code state

abbrev pub EventsMissNothing : Type 0
EventsMissNothing = (u : Setup) → is_sound u.code ≡ true → 1 ≤ u.nodelets → (events : List Event) (played : Played Node Packet) → IsPlayed u events played →
    NothingIsMissing u played.core
