-- What code means: the actions that a strand makes when its answers come.
use Rattle.std.specs.Prelude.{ℕ, zero, suc, ◌+◌, ◌-◌, if◌then◌else◌, ◌==◌, List, [], ◌∷◌, length, Option, Some, None, ℤ, slice_get}
use Rattle.world_model.specs.Action.{Action, Answers}
use Rattle.world_model.specs.Meaning.{Meaning, Acts}
use Rattle.threadlet_code.specs.declared.code.FuncCode.{FuncCode}
use Rattle.threadlet_code.specs.declared.code.Code.{Code}
use Rattle.threadlet_code.specs.Naming.{body_length}
use Rattle.threadlet_code.specs.Machine.{State, Next, goes, asks, stops, stuck, entered, step}

-- More than the silent instructions that can follow, where loops have turns: each frame goes on from its place
-- to its end at most, and a call or a jump back leads to a Turn.
abbrev pub room : Code → State → ℕ
room code [] = 1
room code (frame ∷ frames) = suc (body_length (slice_get code.functions frame.function) - frame.at + room code frames)

-- What comes next once silent instructions are done, of which there are at most so many.
abbrev pub settled : ℕ → Code → Next → Next
settled zero code next = next
settled (suc n) code (goes state) = settled n code (step code state)
settled (suc n) code next = next

-- The first that is not silent.
abbrev pub due : Code → State → Next
due code state = settled (room code state) code (goes state)

-- The actions that are made when answers come, from what comes next on.
abbrev pub told : Answers → Code → Next → List Action
told answers code (goes state) = []
told answers code (stops action) = action ∷ []
told answers code stuck = []
told [] code (asks action resume) = action ∷ []
told (answer ∷ answers) code (asks action resume) = action ∷ told answers code (due code (resume answer))

-- What is done from a state on.
abbrev pub from : Code → State → Acts
from code state answers = told answers code (due code state)

-- The state of a strand that starts a function on arguments.
abbrev pub started : ℕ → Option FuncCode → List ℤ → State
started function None args = []
started function (Some f) args = entered function f args ∷ []

-- The actions of a strand that runs a function on arguments.
abbrev pub acts : Code → ℕ → List ℤ → Acts
acts code function args = from code (started function (slice_get code.functions function) args)

-- The meaning of code.
abbrev pub meaning_of : Code → Meaning
meaning_of code = record { acts = acts code; main = code.main; globals = code.globals; replicated = code.replicated }

-- ---- where a strand halts

-- How many silent instructions were done, and the state behind them.
pub record Halt : Type 0 where
  pub silent : ℕ
  pub state : State

-- Where a strand halts that has done so many, of at most so many more.
abbrev pub halts : ℕ → Code → ℕ → State → Next → Halt
halts (suc n) code done state (goes after) = halts n code (suc done) after (step code after)
halts n code done state next = record { silent = done; state = state }

-- Where a strand stands before its next action.
abbrev pub halt : Code → State → Halt
halt code state = halts (room code state) code 0 state (step code state)

-- How many children the activation at a depth has to join.
abbrev pub owed : ℕ → State → ℕ
owed depth [] = 0
owed depth (frame ∷ frames) = if depth == suc (length frames) then length frame.targets else owed depth frames
