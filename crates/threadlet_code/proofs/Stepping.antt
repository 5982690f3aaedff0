-- One instruction, by cases.
use Rattle.std.proofs.Common.{◌≡◌, ℕ, suc, List, [], ◌∷◌, length, Option, Some, None, refl, ap, ◌∙◌, ℤ}
use Rattle.std.specs.Prelude.{slice_get}
use Rattle.threadlet_code.specs.declared.instr.Instr.{Instr}
use Rattle.threadlet_code.specs.declared.code.FuncCode.{FuncCode}
use Rattle.threadlet_code.specs.declared.code.Code.{Code}
use Rattle.threadlet_code.specs.Operands.{operands, taken}
use Rattle.threadlet_code.specs.Machine.{Frame, State, Next, stuck, action_of, acts_or_goes, does, pops, place_in, meets, enters, step}

-- The instruction that a frame is at, with its operands.
pub record IsAt (code : Code) (frame : Frame) (f : FuncCode) (instr : Instr) (words rest : List ℤ) : Type 0 where
  pub count : ℕ
  pub known : slice_get code.functions frame.function ≡ Some f
  pub here : slice_get f.body frame.at ≡ Some instr
  pub counted : operands code instr ≡ Some count
  pub took : taken count frame.stack [] ≡ Some (words, rest)

-- What an instruction does of its operands.
abbrev pub effect : Code → Frame → State → FuncCode → Instr → List ℤ → List ℤ → Next
effect code frame frames f instr words rest =
    acts_or_goes code (place_in f frame.at) instr words (record frame { stack = rest }) frames (action_of code (place_in f frame.at) (suc (length frames)) instr words)

-- What holds where the machine is stuck, and of what each instruction does of its operands, holds of a step.
module _ (code : Code) (frame : Frame) (frames : State) (P : Next → Type 0) (none : P stuck)
    (each : (f : FuncCode) (instr : Instr) (words rest : List ℤ) → IsAt code frame f instr words rest → P (effect code frame frames f instr words rest)) where
  with_words : (f : FuncCode) → slice_get code.functions frame.function ≡ Some f → (instr : Instr) → slice_get f.body frame.at ≡ Some instr →
      (n : ℕ) → operands code instr ≡ Some n → (took : Option (List ℤ × List ℤ)) → taken n frame.stack [] ≡ took →
      P (does code (place_in f frame.at) instr frame frames took)
  with_words f known instr here n counted None took = none
  with_words f known instr here n counted (Some p) took =
      each f instr p.0 p.1 (record { count = n; known = known; here = here; counted = counted; took = took })

  with_count : (f : FuncCode) → slice_get code.functions frame.function ≡ Some f → (instr : Instr) → slice_get f.body frame.at ≡ Some instr →
      (count : Option ℕ) → operands code instr ≡ count → P (pops code (place_in f frame.at) instr frame frames count)
  with_count f known instr here None counted = none
  with_count f known instr here (Some n) counted = with_words f known instr here n counted (taken n frame.stack []) refl

  with_instr : (f : FuncCode) → slice_get code.functions frame.function ≡ Some f → (instr : Option Instr) → slice_get f.body frame.at ≡ instr →
      P (meets code f frame frames instr)
  with_instr f known None here = none
  with_instr f known (Some instr) here = with_count f known instr here (operands code instr) refl

  with_function : (f : Option FuncCode) → slice_get code.functions frame.function ≡ f → P (enters code frame frames f)
  with_function None known = none
  with_function (Some f) known = with_instr f known (slice_get f.body frame.at) refl

  pub by_instruction : P (step code (frame ∷ frames))
  by_instruction = with_function (slice_get code.functions frame.function) refl

-- What a step does at an instruction with its operands.
pub at_effect : (code : Code) (frame : Frame) (frames : State) (f : FuncCode) (instr : Instr) (words rest : List ℤ) → IsAt code frame f instr words rest →
    step code (frame ∷ frames) ≡ effect code frame frames f instr words rest
at_effect code frame frames f instr words rest a =
    ap (enters code frame frames) a.known
    ∙ ap (meets code f frame frames) a.here
    ∙ ap (pops code (place_in f frame.at) instr frame frames) a.counted
    ∙ ap (does code (place_in f frame.at) instr frame frames) a.took
