-- The action that the machine asks for, by the instruction that comes next and its operands.
use Rattle.std.proofs.Common.{◌≡◌, ◌≢◌, ℕ, suc, ◌≤◌, ◌<◌, List, [], ◌∷◌, length, Option, Some, None, refl, sym, ap, ◌∙◌, arith, Bool, true, false, ℤ}
use Rattle.std.specs.Prelude.{if◌then◌else◌, ◌==◌, is_some, option_map}
use Rattle.std.proofs.lemmas.Bool.{eqb-true}
use Rattle.word_ops.specs.declared.place.Pos.{Pos}
use Rattle.word_ops.specs.declared.operators.BinaryOp.{BinaryOp}
use Rattle.word_ops.specs.declared.ending.TrapKind.TheVariants as trap
use Rattle.word_ops.specs.Operators.{binary_of}
use Rattle.world_model.specs.Action as act
use Rattle.world_model.specs.Action.{Action}
use Rattle.world_model.specs.Activation.{word_at}
use Rattle.threadlet_code.specs.declared.instr.Instr.{Instr}
use Rattle.threadlet_code.specs.declared.instr.Instr.TheVariants as by
use Rattle.threadlet_code.specs.declared.code.Code.{Code}
use Rattle.threadlet_code.specs.Naming.{format_named}
use Rattle.threadlet_code.specs.Operands.{operands, taken}
use Rattle.threadlet_code.specs.Machine as machine
use Rattle.threadlet_code.specs.Machine.{State, Next, goes, asks, stops, stuck, onward, push, divided, returned, answered, action_of, does_silently, acts_or_goes, does, pops, step}
use Rattle.nodelet_core.specs.declared.due.Due.{Due}
use Rattle.nodelet_core.specs.declared.due.Due.TheVariants as due
use Rattle.nodelet_core.specs.code.Dues.{due_of}
use Rattle.core_model.specs.Runs.{action_in}

-- What decides of the action that comes next.
abbrev pub due_in : Next → Option Due
due_in next = option_map due_of (action_in next)

module _ (code : Code) (at : Pos) (frame : machine.Frame) (callers : State) where
  -- An instruction that is no call, return or operator does its action, or goes on.
  silent_none : (instr : Instr) → ((op : BinaryOp) → instr ≢ by.Bin op) → ((g : ℕ) → instr ≢ by.Call g) → instr ≢ by.Return → (words rest : List ℤ) →
      action_in (does_silently code at instr words (record frame { stack = rest }) callers) ≡ None
  silent_none (by.Bin op) bins calls returns words rest = absurd (bins op refl)
  silent_none (by.Call g) bins calls returns words rest = absurd (calls g refl)
  silent_none by.Return bins calls returns words rest = absurd (returns refl)
  silent_none other bins calls returns words rest = refl

  pub plain_asks : (instr : Instr) → ((op : BinaryOp) → instr ≢ by.Bin op) → ((g : ℕ) → instr ≢ by.Call g) → instr ≢ by.Return → (n : ℕ) (words rest : List ℤ) →
      operands code instr ≡ Some n → taken n frame.stack [] ≡ Some (words, rest) →
      action_in (pops code at instr frame callers (operands code instr)) ≡ action_of code at (suc (length callers)) instr words
  plain_asks instr bins calls returns n words rest counted took =
      ap (λ o. action_in (pops code at instr frame callers o)) counted ∙ ap (λ o. action_in (does code at instr frame callers o)) took
      ∙ go (action_of code at (suc (length callers)) instr words)
    where
      go : (o : Option Action) → action_in (acts_or_goes code at instr words (record frame { stack = rest }) callers o) ≡ o
      go (Some action) = refl
      go None = silent_none instr bins calls returns words rest

  -- An operator traps where it has no value.
  pub operator_asks : (op : BinaryOp) (words rest : List ℤ) → taken 2 frame.stack [] ≡ Some (words, rest) →
      due_in (pops code at (by.Bin op) frame callers (operands code (by.Bin op)))
      ≡ (if is_some (binary_of op (word_at words 0) (word_at words 1)) then None else Some (due.Trap at trap.Divide))
  operator_asks op words rest took = ap (λ o. due_in (does code at (by.Bin op) frame callers o)) took ∙ go (binary_of op (word_at words 0) (word_at words 1))
    where
      go : (o : Option ℤ) → due_in (divided at o (λ word. goes (onward (push word (record frame { stack = rest })) ∷ callers))) ≡ (if is_some o then None else Some (due.Trap at trap.Divide))
      go None = refl
      go (Some word) = refl

  -- A print asks to print, whatever the bytes.
  pub print_asks : (format : ℕ) → pops code at (by.Print format) frame callers (operands code (by.Print format)) ≢ stuck →
      Some due.Print ≡ due_in (pops code at (by.Print format) frame callers (operands code (by.Print format)))
  print_asks format on = counted (operands code (by.Print format)) on
    where
      took : (o : Option (List ℤ × List ℤ)) → does code at (by.Print format) frame callers o ≢ stuck → Some due.Print ≡ due_in (does code at (by.Print format) frame callers o)
      took None wrong = absurd (wrong refl)
      took (Some words) right = refl

      counted : (o : Option ℕ) → pops code at (by.Print format) frame callers o ≢ stuck → Some due.Print ≡ due_in (pops code at (by.Print format) frame callers o)
      counted None wrong = absurd (wrong refl)
      counted (Some n) right = took (taken n frame.stack []) right

  -- A return ends the strand where nobody waits for it.
  pub return_asks : (words rest : List ℤ) → taken 1 frame.stack [] ≡ Some (words, rest) → length callers ≡ 0 →
      Some (due.End (word_at words 0)) ≡ due_in (pops code at by.Return frame callers (operands code by.Return))
  return_asks words rest took alone = go callers alone ∙ sym (ap (λ o. due_in (does code at by.Return frame callers o)) took)
    where
      go : (all : State) → length all ≡ 0 → Some (due.End (word_at words 0)) ≡ due_in (returned (word_at words 0) all)
      go [] e = refl
      go (caller ∷ others) e = absurd (omega (arith, e))

  -- It goes on where somebody does.
  pub return_goes : 1 ≤ length callers → None ≡ due_in (pops code at by.Return frame callers (operands code by.Return))
  return_goes some = by_operands (taken 1 frame.stack [])
    where
      goes_on : (word : ℤ) (all : State) → 1 ≤ length all → None ≡ due_in (returned word all)
      goes_on word [] e = absurd (omega (arith, e))
      goes_on word (caller ∷ others) e = refl

      by_operands : (o : Option (List ℤ × List ℤ)) → None ≡ due_in (does code at by.Return frame callers o)
      by_operands None = refl
      by_operands (Some words) = goes_on (word_at words.0 0) callers some

-- An instruction that is no print names no format.
pub no_format : (instr : Instr) → ((i : ℕ) → instr ≢ by.Print i) → format_named instr ≡ None
no_format (by.Print i) prints = absurd (prints i refl)
no_format other prints = refl

-- A call traps from the deepest activation.
pub call_traps : (depth : ℕ) (at : Pos) (after : State) → depth ≡ 256 →
    Some (due.Trap at trap.Depth) ≡ due_in (if depth == 256 then stops (act.Trap at trap.Depth) else goes after)
call_traps depth at after e = sym (ap (λ k. due_in (if k == 256 then stops (act.Trap at trap.Depth) else goes after)) e)

pub call_goes : (depth : ℕ) (at : Pos) (after : State) → depth < 256 →
    None ≡ due_in (if depth == 256 then stops (act.Trap at trap.Depth) else goes after)
call_goes depth at after less = go (depth == 256) refl
  where
    go : (t : Bool) → (depth == 256) ≡ t → None ≡ due_in (if t then stops (act.Trap at trap.Depth) else goes after)
    go false e = refl
    go true e = absurd (let z : depth ≡ 256 = eqb-true _ _ e in omega (arith, z, less))
