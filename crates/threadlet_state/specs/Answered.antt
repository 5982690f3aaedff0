-- A context goes on behind its action, or up to it.
use Rattle.std.specs.Prelude.{◌≡◌, ◌≤◌, ◌<◌, ◌+◌, ◌-◌, ◌^◌, ℕ, ℤ, List, length, Some, Bool, true, false}
use Rattle.word_ops.specs.declared.format.Part.{Part}
use Rattle.word_ops.specs.declared.format.Part.TheVariants.{Byte, Long}
use Rattle.world_model.specs.Action as act
use Rattle.world_model.specs.Action.{Action}
use Rattle.threadlet_code.specs.declared.instr.Instr.{Instr}
use Rattle.threadlet_code.specs.declared.code.FuncCode.{FuncCode}
use Rattle.threadlet_code.specs.declared.code.Code.{Code}
use Rattle.threadlet_code.specs.Fitting.{AreSlots}
use Rattle.threadlet_code.specs.Machine.{State, Next, asks, onward, answered, step}
use Rattle.threadlet_code.specs.Naming.{function_named, format_named}
use Rattle.threadlet_code.specs.Operands.{results}
use Rattle.threadlet_code.specs.Running.{halt}
use Rattle.threadlet_state.specs.declared.frame.Frame.{Frame}
use Rattle.threadlet_state.specs.Activations.{activation, state_of}
use Rattle.threadlet_state.specs.Fit.{IsLaidOut, frames_fit}

-- An action comes next that is answered.
abbrev pub is_asked : Next → Bool
is_asked (asks action resume) = true
is_asked _ = false

-- A Spawn comes next.
abbrev pub is_spawn : Next → Bool
is_spawn (asks (act.Spawn depth function args hint) resume) = true
is_spawn _ = false

pub record IsBeforeAction (code : Code) (frames : List Frame) : Type 0 where
  pub fits : frames_fit code frames ≡ true
  pub asked : is_asked (step code (state_of code frames)) ≡ true

-- Frames are followed by others that fit, by the answer to their action.
pub record IsAnswered (code : Code) (before : List Frame) (answer : List ℤ) (after : List Frame) : Type 0 where
  pub resumes : (action : Action) (resume : List ℤ → State) → step code (state_of code before) ≡ asks action resume →
      state_of code after ≡ resume answer
  pub fits : frames_fit code after ≡ true

-- Frames are followed by others, by all silent instructions that come next, so many of them.
abbrev pub IsHalted : Code → List Frame → ℕ → List Frame → Type 0
IsHalted code before done after = halt code (state_of code before) ≡ record { silent = done; state = state_of code after }

-- ---- an answer, in the deepest frame

-- The function and the format that an instruction names, if any, are there.
pub record NamesWhatIsThere (code : Code) (instr : Instr) : Type 0 where
  pub function : (g : ℕ) → function_named instr ≡ Some g → g < length code.functions
  pub format : (i : ℕ) → format_named instr ≡ Some i → i < length code.formats

-- A part of a format prints a word.
abbrev pub is_word : Part → Bool
is_word (Byte byte) = false
is_word Long = true

-- A frame without so many operands on its stack.
abbrev pub without : ℕ → Frame → Frame
without count frame = record frame { top = frame.top - count }

-- A frame of a function has so many operands of an instruction, room for what its answer pushes, the slots for
-- the results of its children, and a next place.
pub record IsReady (f : FuncCode) (instr : Instr) (count : ℕ) (frame : Frame) : Type 0 where
  pub laid : IsLaidOut f frame
  pub operands : count ≤ frame.top
  pub room : frame.top - count + results instr ≤ f.height
  pub targets : AreSlots f.slots frame.targets
  pub next_place : frame.at + 1 < 2 ^ 32

-- A frame goes on behind an instruction with so many operands, once it is answered.
abbrev pub GoesOnBehind : FuncCode → Instr → ℕ → List ℤ → Frame → Frame → Type 0
GoesOnBehind f instr count answer before after =
    activation f.slots after ≡ onward (answered instr answer (activation f.slots (without count before)))
