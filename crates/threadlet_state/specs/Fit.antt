-- Whether frames fit verified code.
use Rattle.std.specs.Prelude.{◌≡◌, ◌≤◌, ◌+◌, ℕ, Bool, true, false, not, ◌&&◌, ◌==◌, nat_lt, List, [], ◌∷◌, length, reverse, Option, Some, None, slice_get}
use Rattle.std.specs.List.{list_all}
use Rattle.threadlet_code.specs.declared.code.FuncCode.{FuncCode}
use Rattle.threadlet_code.specs.declared.code.Code.{Code}
use Rattle.world_model.specs.Activation.{Targets, max_depth}
use Rattle.threadlet_code.specs.Naming.{is_past}
use Rattle.threadlet_code.specs.Breaches.{is_sound, height_at}
use Rattle.threadlet_code.specs.Fitting.{Fits}
use Rattle.threadlet_state.specs.declared.frame.Frame.{Frame}
use Rattle.threadlet_state.specs.Activations.{state_of}

-- Targets are none or slots.
abbrev pub are_slots : ℕ → Targets → Bool
are_slots slots targets = list_all (λ target. not (is_past slots target)) targets

-- So many words, and those that are to come, make up the height of a place.
abbrev pub makes_up : ℕ → ℕ → Option ℕ → Bool
makes_up top waits None = false
makes_up top waits (Some height) = top + waits == height

-- A frame that waits for so many words fits its function: it has the words of this, and its stack has the
-- height of its place.
abbrev pub suits : Code → ℕ → Frame → Option FuncCode → Bool
suits code waits frame None = false
suits code waits frame (Some f) =
    length frame.words == f.slots + f.height
    && are_slots f.slots frame.targets
    && makes_up frame.top waits (height_at code frame.function frame.at)

abbrev pub frame_fits : Code → ℕ → Frame → Bool
frame_fits code waits frame = suits code waits frame (slice_get code.functions frame.function)

-- Frames fit, the deepest first: it runs, and the others wait for the value of a call.
abbrev pub run_fits : Code → List Frame → Bool
run_fits code [] = false
run_fits code (frame ∷ callers) =
    nat_lt (length callers) max_depth && frame_fits code 0 frame && list_all (frame_fits code 1) callers

-- Frames fit, the deepest last.
abbrev pub frames_fit : Code → List Frame → Bool
frames_fit code frames = run_fits code (reverse frames)

-- ---- the words of a frame

-- A frame has the slots of a function and places for its stack, of which no more are taken than there are.
pub record IsLaidOut (f : FuncCode) (frame : Frame) : Type 0 where
  pub words : length frame.words ≡ f.slots + f.height
  pub top : frame.top ≤ f.height

abbrev pub AreLaidOut : Code → List Frame → Type 0
AreLaidOut code [] = Unit {0}
AreLaidOut code (frame ∷ frames) =
    ((f : FuncCode) → slice_get code.functions frame.function ≡ Some f → IsLaidOut f frame) × AreLaidOut code frames

-- ---- laws

-- Frames that fit verified code are a state that fits it.
abbrev pub FramesFit : Type 0
FramesFit = (code : Code) → is_sound code ≡ true → (frames : List Frame) → frames_fit code frames ≡ true →
    Fits code (state_of code frames) × AreLaidOut code (reverse frames)

-- Frames whose words are those of their functions fit where the state does that they are.
abbrev pub StatesFit : Type 0
StatesFit = (code : Code) → (frames : List Frame) → AreLaidOut code (reverse frames) → Fits code (state_of code frames) →
    frames_fit code frames ≡ true
