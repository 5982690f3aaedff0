-- What the machine does with the next instruction.
use Rattle.std.specs.Prelude.{ℕ, suc, Bool, true, false, if◌then◌else◌, ◌==◌, List, [], ◌∷◌, ◌++◌, length, drop, Option, Some, None, ℤ, pos, slice_get, slice_set, slice_index_or}
use Rattle.word_ops.specs.declared.place.Pos.{Pos}
use Rattle.word_ops.specs.declared.ending.TrapKind.TheVariants as trap
use Rattle.word_ops.specs.Operators.{binary_of, unary_of, same_word}
use Rattle.word_ops.specs.Formats.{printed}
use Rattle.mem_atomics.specs.declared.fetch_op.FetchOp.TheVariants as fetch
use Rattle.world_model.specs.Action as act
use Rattle.world_model.specs.Action.{Action, Request, Hint}
use Rattle.world_model.specs.Meaning.{word_of}
use Rattle.threadlet_code.specs.declared.instr.AllocCode.{AllocCode}
use Rattle.threadlet_code.specs.declared.instr.AllocCode.TheVariants as kind
use Rattle.threadlet_code.specs.declared.instr.Instr.{Instr}
use Rattle.threadlet_code.specs.declared.instr.Instr.TheVariants.{Push, Get, Set, Pop, Dup, Un, Bin, Jump, JumpZero, Call, Return, Turn, Load, Post, FetchAdd, FetchSwap, FetchCas, Init, Fence, Move, Where, Print, Alloc, Spawn, Sync}
use Rattle.threadlet_code.specs.declared.code.FuncCode.{FuncCode}
use Rattle.threadlet_code.specs.declared.code.Code.{Code}
use Rattle.world_model.specs.Activation.{Slots, Targets, max_depth, word_at, first_slots, joined}
use Rattle.threadlet_code.specs.Operands.{operands, taken}

-- An activation: its function, the place of its next instruction, its slots, its stack with the top first, and
-- the targets of its children. One that waits for a call stands behind the call.
pub record Frame : Type 0 where
  pub function : ℕ
  pub at : ℕ
  pub slots : Slots
  pub stack : List ℤ
  pub targets : Targets

-- The activations of a strand, the deepest first.
abbrev pub State : Type 0
State = List Frame

-- What comes next: a silent instruction leads to another state; an action is asked for, and its answer leads on;
-- the strand makes its last action; or an operand, a function, a format or an instruction is missing.
pub data Next : Type 0 where
  goes : State → Next
  asks : Action → (List ℤ → State) → Next
  stops : Action → Next
  stuck : Next

-- ---- frames

-- The frame at its next place.
abbrev pub onward : Frame → Frame
onward frame = record frame { at = suc frame.at }

-- The frame with a word more on its stack.
abbrev pub push : ℤ → Frame → Frame
push word frame = record frame { stack = word ∷ frame.stack }

-- A new frame of a function.
abbrev pub entered : ℕ → FuncCode → List ℤ → Frame
entered function f args = record { function = function; at = 0; slots = first_slots f.slots args; stack = []; targets = [] }

-- ---- actions

-- What an allocation asks for, at a place in the text.
abbrev pub request_of : Pos → AllocCode → List ℤ → Request
request_of at kind.Striped words = act.Striped (word_at words 0)
request_of at kind.Blocked words = act.Blocked (word_at words 0) (word_at words 1)
request_of at kind.Local words = act.Local at (word_at words 0) (word_at words 1)
request_of at kind.Replicated words = act.Replicated (word_at words 0)

-- A child of the activation at a depth; where it is hinted, the address comes before the arguments.
abbrev pub spawn_of : Pos → ℕ → ℕ → Bool → List ℤ → Action
spawn_of at depth function false words = act.Spawn depth function words None
spawn_of at depth function true words =
    act.Spawn depth function (drop 1 words) (Some (record { pos = at; address = word_at words 0 }))

-- The action on a word that an instruction makes of its operands, if any.
abbrev pub memory_action : Pos → Instr → List ℤ → Option Action
memory_action at Load words = Some (act.Load at (word_at words 0))
memory_action at (Post op) words = Some (act.Issue at op (word_at words 0) (word_at words 1))
memory_action at FetchAdd words = Some (act.Fetch at (fetch.Add (word_at words 1)) (word_at words 0))
memory_action at FetchSwap words = Some (act.Fetch at (fetch.Swap (word_at words 1)) (word_at words 0))
memory_action at FetchCas words = Some (act.Fetch at (fetch.Cas (word_at words 1) (word_at words 2)) (word_at words 0))
memory_action at Init words = Some (act.Init at (word_at words 0) (word_at words 1))
memory_action at Move words = Some (act.Move at (word_at words 0))
memory_action at _ words = None

-- The action that an instruction makes of its operands, in the activation at a depth; a silent one makes none.
abbrev pub action_of : Code → Pos → ℕ → Instr → List ℤ → Option Action
action_of code at depth Turn words = Some act.Turn
action_of code at depth Fence words = Some act.Fence
action_of code at depth Where words = Some act.Where
action_of code at depth (Print format) words = Some (act.Print (printed (slice_index_or code.formats format []) words))
action_of code at depth (Alloc kind) words = Some (act.Alloc (request_of at kind words))
action_of code at depth (Spawn function target hinted) words = Some (spawn_of at depth function hinted words)
action_of code at depth Sync words = Some (act.Sync depth)
action_of code at depth instr words = memory_action at instr words

-- The frame once its action is answered: a spawn notes where the child's result goes, and a sync brings the
-- results there.
abbrev pub answered : Instr → List ℤ → Frame → Frame
answered Load answer frame = push (word_of answer) frame
answered FetchAdd answer frame = push (word_of answer) frame
answered FetchSwap answer frame = push (word_of answer) frame
answered FetchCas answer frame = push (word_of answer) frame
answered Where answer frame = push (word_of answer) frame
answered (Alloc _) answer frame = push (word_of answer) frame
answered (Spawn _ target _) answer frame = record frame { targets = frame.targets ++ target ∷ [] }
answered Sync answer frame = record frame { slots = joined frame.slots frame.targets answer; targets = [] }
answered _ answer frame = frame

-- ---- silent instructions

-- Goes on with a quotient or remainder, and traps where there is none.
abbrev pub divided : Pos → Option ℤ → (ℤ → Next) → Next
divided at None next = stops (act.Trap at trap.Divide)
divided at (Some word) next = next word

-- A test goes to a place where the word is 0, and on where it is not.
abbrev pub tested : ℤ → ℕ → Frame → Frame
tested word to frame = if same_word word (pos 0) then record frame { at = to } else onward frame

-- A call adds a frame; from the deepest activation it traps.
abbrev pub called : Pos → ℕ → Option FuncCode → List ℤ → Frame → State → Next
called at function None args frame frames = stuck
called at function (Some f) args frame frames =
    if suc (length frames) == max_depth then stops (act.Trap at trap.Depth)
    else goes (entered function f args ∷ onward frame ∷ frames)

-- A return gives its word to the caller, or ends the strand.
abbrev pub returned : ℤ → State → Next
returned word [] = stops (act.End word)
returned word (caller ∷ frames) = goes (push word caller ∷ frames)

-- What a silent instruction does with its operands; they are off the stack of the frame.
abbrev pub does_silently : Code → Pos → Instr → List ℤ → Frame → State → Next
does_silently code at (Push word) words frame frames = goes (onward (push word frame) ∷ frames)
does_silently code at (Get slot) words frame frames = goes (onward (push (word_at frame.slots slot) frame) ∷ frames)
does_silently code at (Set slot) words frame frames = goes (onward (record frame { slots = slice_set frame.slots slot (word_at words 0) }) ∷ frames)
does_silently code at Pop words frame frames = goes (onward frame ∷ frames)
does_silently code at Dup words frame frames = goes (onward (push (word_at words 0) (push (word_at words 0) frame)) ∷ frames)
does_silently code at (Un op) words frame frames = goes (onward (push (unary_of op (word_at words 0)) frame) ∷ frames)
does_silently code at (Bin op) words frame frames =
    divided at (binary_of op (word_at words 0) (word_at words 1)) (λ word. goes (onward (push word frame) ∷ frames))
does_silently code at (Jump to) words frame frames = goes (record frame { at = to } ∷ frames)
does_silently code at (JumpZero to) words frame frames = goes (tested (word_at words 0) to frame ∷ frames)
does_silently code at (Call function) words frame frames = called at function (slice_get code.functions function) words frame frames
does_silently code at Return words frame frames = returned (word_at words 0) frames
does_silently code at _ words frame frames = stuck

-- ---- one instruction

-- An instruction makes its action, or is silent.
abbrev pub acts_or_goes : Code → Pos → Instr → List ℤ → Frame → State → Option Action → Next
acts_or_goes code at instr words frame frames (Some action) = asks action (λ answer. onward (answered instr answer frame) ∷ frames)
acts_or_goes code at instr words frame frames None = does_silently code at instr words frame frames

-- An instruction with its operands, and the stack under them.
abbrev pub does : Code → Pos → Instr → Frame → State → Option (List ℤ × List ℤ) → Next
does code at instr frame frames None = stuck
does code at instr frame frames (Some taken) =
    acts_or_goes code at instr taken.0 (record frame { stack = taken.1 }) frames (action_of code at (suc (length frames)) instr taken.0)

-- An instruction that pops so many operands.
abbrev pub pops : Code → Pos → Instr → Frame → State → Option ℕ → Next
pops code at instr frame frames None = stuck
pops code at instr frame frames (Some n) = does code at instr frame frames (taken n frame.stack [])

-- The place in the text of an instruction.
abbrev pub place_in : FuncCode → ℕ → Pos
place_in f at = slice_index_or f.places at (record { line = 0; column = 0 })

-- The next instruction of a frame of a function.
abbrev pub meets : Code → FuncCode → Frame → State → Option Instr → Next
meets code f frame frames None = stuck
meets code f frame frames (Some instr) = pops code (place_in f frame.at) instr frame frames (operands code instr)

abbrev pub enters : Code → Frame → State → Option FuncCode → Next
enters code frame frames None = stuck
enters code frame frames (Some f) = meets code f frame frames (slice_get f.body frame.at)

-- One instruction of the deepest activation.
abbrev pub step : Code → State → Next
step code [] = stuck
step code (frame ∷ frames) = enters code frame frames (slice_get code.functions frame.function)
