-- Which instructions lead on.
use Rattle.std.proofs.Common.{◌≡◌, ◌≢◌, ℕ, suc, ◌≤◌, List, [], ◌∷◌, length, Some, None, refl, sym, ap, ◌∙◌, arith, Bool, true, false, ℤ, Result, Ok, Err}
use Rattle.std.specs.Prelude.{not, nat_lt, ◌==◌, is_ok, MatchResult, if◌then◌else◌}
use Rattle.std.proofs.lemmas.Bool.Decides.{nat_tests}
use Rattle.word_ops.specs.declared.place.Pos.{Pos}
use Rattle.word_ops.specs.declared.operators.BinaryOp.{BinaryOp}
use Rattle.word_ops.specs.Operators.{binary_of}
use Rattle.world_model.specs.Action.{Action}
use Rattle.threadlet_code.specs.declared.instr.Instr.{Instr}
use Rattle.threadlet_code.specs.declared.instr.Instr.TheVariants as by
use Rattle.threadlet_code.specs.declared.code.Code.{Code}
use Rattle.threadlet_code.specs.Operands.{operands, own_operands, taken}
use Rattle.threadlet_code.specs.Machine as machine
use Rattle.threadlet_code.specs.Machine.{State, Next, goes, stops, onward, push, pops, does, divided, returned}
use Rattle.threadlet_state.specs.Silent.{goes_on, stays, GoesOnWith}
use Rattle.threadlet_state.proofs.Rooms.{moves_frames, never_goes}

-- ---- a quotient

value_goes : {E : Type 0} (op : BinaryOp) (left right : ℤ) (r : Result ℤ E) (rest : machine.Frame) →
    MatchResult r (λ z. binary_of op left right ≡ Some z) (λ e. binary_of op left right ≡ None) → GoesOnWith (by.Bin op) (push right (push left rest)) (is_ok r)
value_goes op left right (Ok z) rest e code at callers = sym (ap (λ o. goes_on (divided at o (λ w. goes (onward (push w rest) ∷ callers)))) e)
value_goes op left right (Err z) rest e code at callers = sym (ap (λ o. goes_on (divided at o (λ w. goes (onward (push w rest) ∷ callers)))) e)

-- The right operand is on top.
pub goes_with_value : {E : Type 0} (op : BinaryOp) (left right : ℤ) (r : Result ℤ E) (before one rest : machine.Frame) → before ≡ push right one → one ≡ push left rest →
    MatchResult r (λ z. binary_of op left right ≡ Some z) (λ e. binary_of op left right ≡ None) → GoesOnWith (by.Bin op) before (is_ok r)
goes_with_value op left right r before one rest first second e code at callers =
    value_goes op left right r rest e code at callers
    ∙ ap (λ x. goes_on (pops code at (by.Bin op) x callers (Some 2))) (sym (first ∙ ap (push right) second))

-- ---- instructions of one frame

module _ (code : Code) (at : Pos) (frame : machine.Frame) (callers : State) where
  with_one : (instr : Instr) (stack : List ℤ) → 1 ≤ length stack → ((word : ℤ) (rest : List ℤ) → goes_on (does code at instr frame callers (Some (word ∷ [], rest))) ≡ true) →
      goes_on (does code at instr frame callers (taken 1 stack [])) ≡ true
  with_one instr [] some each = absurd (omega arith)
  with_one instr (word ∷ stack) some each = each word stack

  plain_goes : (instr : Instr) → stays instr ≡ true → ((op : BinaryOp) → instr ≢ by.Bin op) → own_operands instr ≤ length frame.stack →
      goes_on (pops code at instr frame callers (operands code instr)) ≡ true
  plain_goes (by.Push word) s other some = refl
  plain_goes (by.Get slot) s other some = refl
  plain_goes (by.Set slot) s other some = with_one (by.Set slot) frame.stack some (λ word rest. refl)
  plain_goes by.Pop s other some = with_one by.Pop frame.stack some (λ word rest. refl)
  plain_goes by.Dup s other some = with_one by.Dup frame.stack some (λ word rest. refl)
  plain_goes (by.Un op) s other some = with_one (by.Un op) frame.stack some (λ word rest. refl)
  plain_goes (by.Bin op) s other some = absurd (other op refl)
  plain_goes (by.Jump to) s other some = refl
  plain_goes (by.JumpZero to) s other some = with_one (by.JumpZero to) frame.stack some (λ word rest. refl)
  plain_goes instr s other some = absurd (let wrong : false ≡ true = s in cc)

  -- One that is neither a call, nor a return, nor an operator with two operands.
  pub goes_alone : (instr : Instr) → moves_frames instr ≡ false → ((op : BinaryOp) → instr ≢ by.Bin op) → (stays instr ≡ true → own_operands instr ≤ length frame.stack) →
      stays instr ≡ goes_on (pops code at instr frame callers (operands code instr))
  goes_alone instr put other some = by_test (stays instr) refl
    where
      by_test : (b : Bool) → stays instr ≡ b → b ≡ goes_on (pops code at instr frame callers (operands code instr))
      by_test true s = sym (plain_goes instr s other (some s))
      by_test false s = sym (never_goes code at instr frame callers put s)

  -- ---- a return

  back : (word : ℤ) (waiting : State) → goes_on (returned word waiting) ≡ nat_lt 1 (suc (length waiting))
  back word [] = refl
  back word (caller ∷ waiting) = sym (grind (arith, nat_tests))

  return_with : (stack : List ℤ) → 1 ≤ length stack → goes_on (does code at by.Return frame callers (taken 1 stack [])) ≡ nat_lt 1 (suc (length callers))
  return_with [] some = absurd (omega arith)
  return_with (word ∷ stack) some = back word callers

  pub goes_back : 1 ≤ length frame.stack → goes_on (pops code at by.Return frame callers (operands code by.Return)) ≡ nat_lt 1 (suc (length callers))
  goes_back some = return_with frame.stack some

-- What such an instruction pops does not depend on the code.
pub own_is : (code : Code) (instr : Instr) → stays instr ≡ true → operands code instr ≡ Some (own_operands instr)
own_is code (by.Push word) s = refl
own_is code (by.Get slot) s = refl
own_is code (by.Set slot) s = refl
own_is code by.Pop s = refl
own_is code by.Dup s = refl
own_is code (by.Un op) s = refl
own_is code (by.Bin op) s = refl
own_is code (by.Jump to) s = refl
own_is code (by.JumpZero to) s = refl
own_is code other s = absurd (let wrong : false ≡ true = s in cc)

-- ---- a call

goes_unless : (b : Bool) (action : Action) (state : State) → goes_on (if b then stops action else goes state) ≡ not b
goes_unless true action state = refl
goes_unless false action state = refl

not_deepest : (n : ℕ) → n ≤ 256 → nat_lt n 256 ≡ not (n == 256)
not_deepest n le = grind (arith, nat_tests)

pub goes_deeper : (n : ℕ) (action : Action) (state : State) → n ≤ 256 → nat_lt n 256 ≡ goes_on (if n == 256 then stops action else goes state)
goes_deeper n action state le = not_deepest n le ∙ sym (goes_unless (n == 256) action state)
