-- What a strand asks of the world, one action at a time.
use Rattle.std.specs.Prelude.{ℕ, ℤ, List, Option, Some, None}
use Rattle.word_ops.specs.declared.place.Pos.{Pos}
use Rattle.word_ops.specs.declared.ending.TrapKind.{TrapKind}
use Rattle.mem_atomics.specs.declared.op.Op.{Op}
use Rattle.mem_atomics.specs.declared.fetch_op.FetchOp.{FetchOp}

-- A request for fresh words. `Blocked` names the number of blocks, then the words of a block; `Local` the
-- number of words, then an address at whose owner they are to lie, with its place in the text.
pub data Request : Type 0 where
  Striped : ℤ → Request
  Blocked : ℤ → ℤ → Request
  Local : Pos → ℤ → ℤ → Request
  Replicated : ℤ → Request

-- Where a child is to be born: at the owner of an address, with the hint's place in the text.
pub record Hint : Type 0 where
  pub pos : Pos
  pub address : ℤ

-- An action. A place in the text stands where the action has an address or traps.
--   Load at a               reads the word at a
--   Issue at op a v         an operation with the word v on the word at a, without answer
--   Fetch at f a            an atomic on the word at a that answers the old word
--   Init at a v             stores v in each nodelet's copy of the replicated word at a
--   Move at a               goes to the owner of a
--   Where                   asks for the place
--   Print bytes             one piece of output
--   Spawn d f args hint     a child of the activation at depth d, which runs f on args
--   Sync d                  joins the children of the activation at depth d
--   End v, Trap at kind     the last action of a strand
pub data Action : Type 0 where
  Turn : Action
  Load : Pos → ℤ → Action
  Issue : Pos → Op → ℤ → ℤ → Action
  Fetch : Pos → FetchOp → ℤ → Action
  Init : Pos → ℤ → ℤ → Action
  Fence : Action
  Move : Pos → ℤ → Action
  Where : Action
  Print : List ℕ → Action
  Alloc : Request → Action
  Spawn : ℕ → ℕ → List ℤ → Option Hint → Action
  Sync : ℕ → Action
  End : ℤ → Action
  Trap : Pos → TrapKind → Action

-- An answer is a list of words, and a strand's answers stand in the order of its actions.
abbrev pub Answers : Type 0
Answers = List (List ℤ)

-- How many words answer an action, where the activation at each depth has so many children to join.
-- The last action of a strand has no answer.
abbrev pub answer_length : (ℕ → ℕ) → Action → Option ℕ
answer_length children Turn = Some 0
answer_length children (Load _ _) = Some 1
answer_length children (Issue _ _ _ _) = Some 0
answer_length children (Fetch _ _ _) = Some 1
answer_length children (Init _ _ _) = Some 0
answer_length children Fence = Some 0
answer_length children (Move _ _) = Some 0
answer_length children Where = Some 1
answer_length children (Print _) = Some 0
answer_length children (Alloc _) = Some 1
answer_length children (Spawn _ _ _ _) = Some 0
answer_length children (Sync d) = Some (children d)
answer_length children (End _) = None
answer_length children (Trap _ _) = None

-- The place in the text that an action carries, and 0:0 where it carries none.
abbrev pub pos_of : Action → Pos
pos_of Turn = record { line = 0; column = 0 }
pos_of (Load at _) = at
pos_of (Issue at _ _ _) = at
pos_of (Fetch at _ _) = at
pos_of (Init at _ _) = at
pos_of Fence = record { line = 0; column = 0 }
pos_of (Move at _) = at
pos_of Where = record { line = 0; column = 0 }
pos_of (Print _) = record { line = 0; column = 0 }
pos_of (Alloc (Striped _)) = record { line = 0; column = 0 }
pos_of (Alloc (Blocked _ _)) = record { line = 0; column = 0 }
pos_of (Alloc (Local at _ _)) = at
pos_of (Alloc (Replicated _)) = record { line = 0; column = 0 }
pos_of (Spawn _ _ _ None) = record { line = 0; column = 0 }
pos_of (Spawn _ _ _ (Some hint)) = hint.pos
pos_of (Sync _) = record { line = 0; column = 0 }
pos_of (End _) = record { line = 0; column = 0 }
pos_of (Trap at _) = at
