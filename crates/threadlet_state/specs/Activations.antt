-- The frames of a context as the machine's state.
use Rattle.std.specs.Prelude.{ℕ, List, map, take, drop, reverse, Option, Some, None, slice_get}
use Rattle.threadlet_code.specs.declared.instr.Instr.{Instr}
use Rattle.threadlet_code.specs.declared.code.FuncCode.{FuncCode}
use Rattle.threadlet_code.specs.declared.code.Code.{Code}
use Rattle.threadlet_code.specs.Machine as machine
use Rattle.threadlet_code.specs.Machine.{State}
use Rattle.threadlet_state.specs.declared.frame.Frame.{Frame}

-- How many slots a function has, and none where it is not there.
abbrev pub slots_of : Option FuncCode → ℕ
slots_of None = 0
slots_of (Some f) = f.slots

-- A frame that has so many slots, as the machine's: the stack stands behind the slots, its top last.
abbrev pub activation : ℕ → Frame → machine.Frame
activation slots frame = record {
  function = frame.function;
  at = frame.at;
  slots = take slots frame.words;
  stack = reverse (take frame.top (drop slots frame.words));
  targets = frame.targets;
}

-- The same, with the slots of its function.
abbrev pub activation_in : Code → Frame → machine.Frame
activation_in code frame = activation (slots_of (slice_get code.functions frame.function)) frame

-- Frames, the deepest last, as the machine's state.
abbrev pub state_of : Code → List Frame → State
state_of code frames = map (activation_in code) (reverse frames)

-- The next instruction of a frame of a function, if there is one.
abbrev pub instr_in : Frame → Option FuncCode → Option Instr
instr_in frame None = None
instr_in frame (Some f) = slice_get f.body frame.at

-- The next instruction of a frame, and of the deepest one, if there is one.
abbrev pub instr_of : Code → Frame → Option Instr
instr_of code frame = instr_in frame (slice_get code.functions frame.function)
