-- One silent step of a context.
use Rattle.std.specs.Prelude.{◌≡◌, ◌≤◌, ◌<◌, ◌+◌, ◌-◌, ◌^◌, ℕ, Bool, true, false, List, [], ◌∷◌, reverse, Option, Some, None}
use Rattle.word_ops.specs.declared.place.Pos.{Pos}
use Rattle.threadlet_code.specs.declared.instr.Instr.{Instr}
use Rattle.threadlet_code.specs.declared.instr.Instr.TheVariants.{Push, Get, Set, Pop, Dup, Un, Bin, Jump, JumpZero, Call}
use Rattle.threadlet_code.specs.declared.code.FuncCode.{FuncCode}
use Rattle.threadlet_code.specs.declared.code.Code.{Code}
use Rattle.threadlet_code.specs.Naming.{slot_named}
use Rattle.threadlet_code.specs.Operands.{operands, own_operands, results}
use Rattle.threadlet_code.specs.Machine as machine
use Rattle.threadlet_code.specs.Machine.{State, Next, goes, asks, stops, stuck, pops, step}
use Rattle.threadlet_state.specs.declared.frame.Frame.{Frame}
use Rattle.threadlet_state.specs.Activations.{state_of, instr_of}
use Rattle.threadlet_state.specs.Fit.{IsLaidOut, frames_fit}

-- A silent instruction comes next: it leads to another state.
abbrev pub goes_on : Next → Bool
goes_on (goes state) = true
goes_on _ = false

pub record IsBeforeSilent (code : Code) (frames : List Frame) : Type 0 where
  pub fits : frames_fit code frames ≡ true
  pub silent : goes_on (step code (state_of code frames)) ≡ true

-- Frames are followed by others that fit, by one silent step of the machine.
pub record IsStepped (code : Code) (before after : List Frame) : Type 0 where
  pub step_goes : step code (state_of code before) ≡ goes (state_of code after)
  pub fits : frames_fit code after ≡ true

abbrev pub is_call : Option Instr → Bool
is_call (Some (Call function)) = true
is_call _ = false

-- The next instruction of the deepest frame, which is the first here.
abbrev pub first_instr : Code → List Frame → Option Instr
first_instr code [] = None
first_instr code (frame ∷ callers) = instr_of code frame

-- The next instruction of frames, the deepest last.
abbrev pub next_instr : Code → List Frame → Option Instr
next_instr code frames = first_instr code (reverse frames)

-- ---- instructions of one frame

-- A silent instruction that concerns its own frame alone, and goes on to the next place.
abbrev pub computes : Instr → Bool
computes (Push word) = true
computes (Get slot) = true
computes (Set slot) = true
computes Pop = true
computes Dup = true
computes (Un op) = true
computes (Bin op) = true
computes _ = false

-- One that concerns its own frame alone.
abbrev pub stays : Instr → Bool
stays (Jump to) = true
stays (JumpZero to) = true
stays instr = computes instr

-- A frame of a function has what an instruction pops, room for what it pushes, the slot that it names, and a
-- next place.
pub record HasRoom (f : FuncCode) (instr : Instr) (frame : Frame) : Type 0 where
  pub laid : IsLaidOut f frame
  pub operands : own_operands instr ≤ frame.top
  pub room : frame.top - own_operands instr + results instr ≤ f.height
  pub slot : (slot : ℕ) → slot_named instr ≡ Some slot → slot < f.slots
  pub next_place : frame.at + 1 < 2 ^ 32

-- Where another state follows, it is this one.
abbrev pub LeadsTo : Next → State → Type 0
LeadsTo (goes after) state = after ≡ state
LeadsTo _ state = Unit {0}

-- An instruction leads from a frame to another, wherever it stands and whatever frames wait for it.
abbrev pub Leads : Instr → machine.Frame → machine.Frame → Type 0
Leads instr before after =
    (code : Code) (at : Pos) (callers : State) → LeadsTo (pops code at instr before callers (operands code instr)) (after ∷ callers)

-- Whether an instruction leads on from a frame is this, wherever it stands and whatever frames wait for it.
abbrev pub GoesOnWith : Instr → machine.Frame → Bool → Type 0
GoesOnWith instr before on =
    (code : Code) (at : Pos) (callers : State) → on ≡ goes_on (pops code at instr before callers (operands code instr))
