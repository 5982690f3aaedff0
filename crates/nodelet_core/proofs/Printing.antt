-- Only a Print asks to print.
use Rattle.std.proofs.Common.{◌≡◌, ◌≢◌, ℕ, suc, ℤ, List, [], ◌∷◌, length, Option, Some, None, refl, sym, ap, ◌∙◌, Bool, true, false}
use Rattle.std.specs.Prelude.{if◌then◌else◌, ◌==◌, slice_get, option_map}
use Rattle.word_ops.specs.declared.place.Pos.{Pos}
use Rattle.word_ops.specs.declared.ending.TrapKind.TheVariants as trap
use Rattle.word_ops.specs.Operators.{binary_of}
use Rattle.world_model.specs.Action as act
use Rattle.world_model.specs.Action.{Action}
use Rattle.world_model.specs.Activation.{word_at}
use Rattle.threadlet_code.specs.declared.instr.Instr.{Instr}
use Rattle.threadlet_code.specs.declared.instr.Instr.TheVariants as by
use Rattle.threadlet_code.specs.declared.code.FuncCode.{FuncCode}
use Rattle.threadlet_code.specs.declared.code.Code.{Code}
use Rattle.threadlet_code.specs.Operands.{operands, taken}
use Rattle.threadlet_code.specs.Machine as machine
use Rattle.threadlet_code.specs.Machine.{State, Next, goes, onward, push, divided, called, returned, action_of, acts_or_goes, does, pops}
use Rattle.nodelet_core.specs.declared.due.Due.{Due}
use Rattle.nodelet_core.specs.declared.due.Due.TheVariants as due
use Rattle.nodelet_core.specs.code.Dues.{due_of}
use Rattle.core_model.specs.Runs.{action_in}
use Rattle.nodelet_core.proofs.Asking.{due_in}

-- The action that comes next is a print.
abbrev pub prints : Option Due → Bool
prints (Some due.Print) = true
prints _ = false

module _ (code : Code) (at : Pos) (frame : machine.Frame) (callers : State) where
  divided_quiet : (o : Option ℤ) (next : ℤ → State) → prints (due_in (divided at o (λ word. goes (next word)))) ≡ false
  divided_quiet None next = refl
  divided_quiet (Some word) next = refl

  called_quiet : (g : ℕ) (o : Option FuncCode) (words : List ℤ) (f : machine.Frame) → prints (due_in (called at g o words f callers)) ≡ false
  called_quiet g None words f = refl
  called_quiet g (Some h) words f = by_depth (suc (length callers) == 256)
    where
      by_depth : (t : Bool) → prints (due_in (if t then machine.stops (act.Trap at trap.Depth) else goes (machine.entered g h words ∷ onward f ∷ callers))) ≡ false
      by_depth true = refl
      by_depth false = refl

  returned_quiet : (word : ℤ) (all : State) → prints (due_in (returned word all)) ≡ false
  returned_quiet word [] = refl
  returned_quiet word (caller ∷ others) = refl

  acts_quiet : (instr : Instr) → ((i : ℕ) → instr ≢ by.Print i) → (words : List ℤ) (f : machine.Frame) (depth : ℕ) →
      prints (due_in (acts_or_goes code at instr words f callers (action_of code at depth instr words))) ≡ false
  acts_quiet (by.Print i) other words f depth = absurd (other i refl)
  acts_quiet (by.Spawn g target false) other words f depth = refl
  acts_quiet (by.Spawn g target true) other words f depth = refl
  acts_quiet (by.Bin op) other words f depth = divided_quiet (binary_of op (word_at words 0) (word_at words 1)) (λ word. onward (push word f) ∷ callers)
  acts_quiet (by.Call g) other words f depth = called_quiet g (slice_get code.functions g) words f
  acts_quiet by.Return other words f depth = returned_quiet (word_at words 0) callers
  acts_quiet instr other words f depth = refl

  -- No other instruction does.
  pub others_quiet : (instr : Instr) → ((i : ℕ) → instr ≢ by.Print i) → prints (due_in (pops code at instr frame callers (operands code instr))) ≡ false
  others_quiet instr other = by_count (operands code instr)
    where
      by_words : (o : Option (List ℤ × List ℤ)) → prints (due_in (does code at instr frame callers o)) ≡ false
      by_words None = refl
      by_words (Some took) = acts_quiet instr other took.0 (record frame { stack = took.1 }) (suc (length callers))

      by_count : (o : Option ℕ) → prints (due_in (pops code at instr frame callers o)) ≡ false
      by_count None = refl
      by_count (Some n) = by_words (taken n frame.stack [])

-- So an action that is due a print comes of one.
pub never_prints : (next : Next) → prints (due_in next) ≡ false → (action : Action) → action_in next ≡ Some action → due_of action ≡ due.Print → false ≡ true
never_prints next quiet action comes is =
    sym quiet ∙ ap (λ o. prints (option_map due_of o)) comes ∙ ap (λ d. prints (Some d)) is
