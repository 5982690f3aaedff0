-- A Sync is of the deepest activation, and an End alone can be held back.
use Rattle.std.proofs.Common.{◌≡◌, ℕ, suc, List, [], ◌∷◌, length, Option, Some, None, refl, Bool, true, false, ℤ}
use Rattle.std.specs.Prelude.{if◌then◌else◌, ◌==◌, slice_get}
use Rattle.word_ops.specs.declared.ticket.Ticket.{Ticket}
use Rattle.word_ops.specs.declared.place.Pos.{Pos}
use Rattle.word_ops.specs.declared.ending.TrapKind.TheVariants as trap
use Rattle.word_ops.specs.Operators.{binary_of}
use Rattle.world_model.specs.Action.{Action, Turn, Load, Issue, Fetch, Init, Fence, Move, Where, Print, Alloc, Spawn, Sync, End, Trap}
use Rattle.world_model.specs.Activation.{word_at}
use Rattle.threadlet_code.specs.declared.instr.Instr.{Instr}
use Rattle.threadlet_code.specs.declared.instr.Instr.TheVariants as by
use Rattle.threadlet_code.specs.declared.code.FuncCode.{FuncCode}
use Rattle.threadlet_code.specs.declared.code.Code.{Code}
use Rattle.threadlet_code.specs.Machine.{Frame, State, Next, goes, stops, onward, push, entered, divided, called, returned, place_in, spawn_of, step}
use Rattle.threadlet_code.proofs.Stepping.{effect, by_instruction}
use Rattle.core_model.specs.Nodes.{Node}
use Rattle.nodelet_core.specs.code.Dues.{due_of, asked}
use Rattle.core_model.specs.Runs.{action_in, is_free}

abbrev IsOfDeepest : State → Next → Type 0
IsOfDeepest state next = (d : ℕ) → action_in next ≡ Some (Sync d) → d ≡ length state

module _ (code : Code) (frame : Frame) (frames : State) (f : FuncCode) where
  divided_syncs : (at : Pos) (o : Option ℤ) (next : ℤ → State) → IsOfDeepest (frame ∷ frames) (divided at o (λ word. goes (next word)))
  divided_syncs at None next d e = absurd (let z : Some (Trap at trap.Divide) ≡ Some (Sync d) = e in cc)
  divided_syncs at (Some word) next d e = absurd cc

  called_syncs : (at : Pos) (g : ℕ) (h : Option FuncCode) (words : List ℤ) (top : Frame) → IsOfDeepest (frame ∷ frames) (called at g h words top frames)
  called_syncs at g None words top d e = absurd cc
  called_syncs at g (Some h) words top d e = by_depth (suc (length frames) == 256) e
    where
      by_depth : (t : Bool) → action_in (if t then stops (Trap at trap.Depth) else goes (entered g h words ∷ onward top ∷ frames)) ≡ Some (Sync d) → d ≡ length (frame ∷ frames)
      by_depth true h = absurd (let z : Some (Trap at trap.Depth) ≡ Some (Sync d) = h in cc)
      by_depth false h = absurd cc

  returned_syncs : (word : ℤ) (callers : State) → IsOfDeepest (frame ∷ frames) (returned word callers)
  returned_syncs word [] d e = absurd (let z : Some (End word) ≡ Some (Sync d) = e in cc)
  returned_syncs word (caller ∷ callers) d e = absurd cc

  spawn_syncs : (at : Pos) (depth g : ℕ) (hinted : Bool) (words : List ℤ) (d : ℕ) → Some (spawn_of at depth g hinted words) ≡ Some (Sync d) → d ≡ length (frame ∷ frames)
  spawn_syncs at depth g true words d e = absurd cc
  spawn_syncs at depth g false words d e = absurd cc

  each_syncs : (instr : Instr) (words rest : List ℤ) → IsOfDeepest (frame ∷ frames) (effect code frame frames f instr words rest)
  each_syncs by.Sync words rest d e = let z : Some (Sync (suc (length frames))) ≡ Some (Sync d) = e in cc
  each_syncs (by.Bin op) words rest d e = divided_syncs (place_in f frame.at) (binary_of op (word_at words 0) (word_at words 1)) (λ word. onward (push word (record frame { stack = rest })) ∷ frames) d e
  each_syncs (by.Call g) words rest d e = called_syncs (place_in f frame.at) g (slice_get code.functions g) words (record frame { stack = rest }) d e
  each_syncs by.Return words rest d e = returned_syncs (word_at words 0) frames d e
  each_syncs (by.Spawn g target hinted) words rest d e = spawn_syncs (place_in f frame.at) (suc (length frames)) g hinted words d e
  each_syncs other words rest d e = absurd cc

pub sync_depth : (code : Code) (state : State) → IsOfDeepest state (step code state)
sync_depth code [] d e = absurd cc
sync_depth code (frame ∷ frames) d e = by_instruction code frame frames (λ next. IsOfDeepest (frame ∷ frames) next) (λ k h. absurd cc) (λ f instr words rest a. each_syncs code frame frames f instr words rest) d e

pub free_is : (here : ℕ) (v : Node) (ticket : Option Ticket) (action : Action) → is_free here v ticket (asked (due_of action)) ≡ is_free here v ticket action
free_is here v None Turn = refl
free_is here v None (Load at a) = refl
free_is here v None (Issue at op a x) = refl
free_is here v None (Fetch at f a) = refl
free_is here v None (Init at a x) = refl
free_is here v None Fence = refl
free_is here v None (Move at a) = refl
free_is here v None Where = refl
free_is here v None (Print bytes) = refl
free_is here v None (Alloc request) = refl
free_is here v None (Spawn d function args hint) = refl
free_is here v None (Sync d) = refl
free_is here v None (End value) = refl
free_is here v None (Trap at kind) = refl
free_is here v (Some t) Turn = refl
free_is here v (Some t) (Load at a) = refl
free_is here v (Some t) (Issue at op a x) = refl
free_is here v (Some t) (Fetch at f a) = refl
free_is here v (Some t) (Init at a x) = refl
free_is here v (Some t) Fence = refl
free_is here v (Some t) (Move at a) = refl
free_is here v (Some t) Where = refl
free_is here v (Some t) (Print bytes) = refl
free_is here v (Some t) (Alloc request) = refl
free_is here v (Some t) (Spawn d function args hint) = refl
free_is here v (Some t) (Sync d) = refl
free_is here v (Some t) (End value) = refl
free_is here v (Some t) (Trap at kind) = refl
