-- A strand stops at an end or a trap, and asks for any other action.
use Rattle.std.proofs.Common.{ℕ, suc, List, [], ◌∷◌, length, Option, Some, None, Bool, true, false, ℤ}
use Rattle.std.specs.Prelude.{slice_get, if◌then◌else◌, ◌==◌}
use Rattle.word_ops.specs.declared.place.Pos.{Pos}
use Rattle.word_ops.specs.declared.ending.TrapKind.TheVariants as trap
use Rattle.word_ops.specs.Operators.{binary_of}
use Rattle.world_model.specs.Action.{Action, End, Trap}
use Rattle.world_model.specs.Activation.{word_at}
use Rattle.threadlet_code.specs.declared.instr.Instr.{Instr}
use Rattle.threadlet_code.specs.declared.instr.Instr.TheVariants as by
use Rattle.threadlet_code.specs.declared.code.FuncCode.{FuncCode}
use Rattle.threadlet_code.specs.declared.code.Code.{Code}
use Rattle.threadlet_code.specs.Machine.{Frame, State, Next, goes, asks, stops, stuck, onward, push, entered, divided, called, returned, place_in, spawn_of, step}
use Rattle.threadlet_code.proofs.Stepping.{effect, by_instruction}

abbrev pub IsLast : Action → Type 0
IsLast (End value) = Unit {0}
IsLast (Trap at kind) = Unit {0}
IsLast _ = ⊥

abbrev pub IsAsked : Action → Type 0
IsAsked (End value) = ⊥
IsAsked (Trap at kind) = ⊥
IsAsked _ = Unit {0}

abbrev pub IsSorted : Next → Type 0
IsSorted (goes state) = Unit {0}
IsSorted (asks action resume) = IsAsked action
IsSorted (stops action) = IsLast action
IsSorted stuck = Unit {0}

divided_sorted : (p : Pos) (o : Option ℤ) (next : ℤ → State) → IsSorted (divided p o (λ word. goes (next word)))
divided_sorted p None next = tt
divided_sorted p (Some word) next = tt

called_sorted : (p : Pos) (g : ℕ) (h : Option FuncCode) (words : List ℤ) (frame : Frame) (frames : State) → IsSorted (called p g h words frame frames)
called_sorted p g None words frame frames = tt
called_sorted p g (Some h) words frame frames = by_depth (suc (length frames) == 256)
  where
    by_depth : (b : Bool) → IsSorted (if b then stops (Trap p trap.Depth) else goes (entered g h words ∷ onward frame ∷ frames))
    by_depth true = tt
    by_depth false = tt

returned_sorted : (word : ℤ) (callers : State) → IsSorted (returned word callers)
returned_sorted word [] = tt
returned_sorted word (caller ∷ callers) = tt

spawn_sorted : (p : Pos) (depth g : ℕ) (hinted : Bool) (words : List ℤ) → IsAsked (spawn_of p depth g hinted words)
spawn_sorted p depth g true words = tt
spawn_sorted p depth g false words = tt

module _ (code : Code) (frame : Frame) (frames : State) (f : FuncCode) where
  each_sorted : (instr : Instr) (words rest : List ℤ) → IsSorted (effect code frame frames f instr words rest)
  each_sorted (by.Bin op) words rest = divided_sorted (place_in f frame.at) (binary_of op (word_at words 0) (word_at words 1)) (λ word. onward (push word (record frame { stack = rest })) ∷ frames)
  each_sorted (by.Call g) words rest = called_sorted (place_in f frame.at) g (slice_get code.functions g) words (record frame { stack = rest }) frames
  each_sorted by.Return words rest = returned_sorted (word_at words 0) frames
  each_sorted (by.Spawn g target hinted) words rest = spawn_sorted (place_in f frame.at) (suc (length frames)) g hinted words
  each_sorted other words rest = tt

pub step_sorted : (code : Code) (state : State) → IsSorted (step code state)
step_sorted code [] = tt
step_sorted code (frame ∷ frames) = by_instruction code frame frames IsSorted tt (λ f instr words rest a. each_sorted code frame frames f instr words rest)
