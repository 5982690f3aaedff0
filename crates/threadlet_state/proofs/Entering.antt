-- A frame at its start.
use Rattle.std.proofs.Common.{◌≡◌, ℕ, zero, suc, ◌+◌, ◌-◌, ◌≤◌, List, [], ◌∷◌, ◌++◌, length, take, refl, sym, ap, subst, ◌∙◌, true, Some, arith, ℤ, pos}
use Rattle.std.specs.Prelude.{replicate, slice_get, option_map}
use Rattle.std.proofs.lemmas.Option.{same_Some}
use Rattle.std.proofs.Math.Seq.{take-append-add}
use Rattle.threadlet_code.specs.declared.code.FuncCode.{FuncCode}
use Rattle.threadlet_code.specs.Machine as machine
use Rattle.threadlet_code.specs.Machine.{entered}
use Rattle.threadlet_code.specs.declared.code.Code.{Code}
use Rattle.threadlet_code.specs.Operands.{params_of}
use Rattle.threadlet_code.specs.Breaches.{is_sound}
use Rattle.threadlet_code.specs.Fitting.{Fits}
use Rattle.threadlet_code.proofs.FitLaws.{starts_fit}
use Rattle.threadlet_state.specs.declared.frame.Frame.{Frame}
use Rattle.threadlet_state.specs.Activations.{activation}
use Rattle.threadlet_state.specs.Fit.{IsLaidOut, frames_fit}
use Rattle.threadlet_state.proofs.FrameLaws.{run_to, as_activation}

take_replicate : {X : Type 0} (m n : ℕ) (x : X) → m ≤ n → take m (replicate n x) ≡ replicate m x
take_replicate zero n x le = refl
take_replicate (suc m) zero x le = absurd (omega arith)
take_replicate (suc m) (suc n) x le = ap (λ l. x ∷ l) (take_replicate m n x (omega arith))

module _ (function : ℕ) (f : FuncCode) (args : List ℤ) (le : length args ≤ f.slots) where
  abbrev words : List ℤ
  words = args ++ replicate (f.slots + f.height - length args) (pos 0)

  -- A frame with such words at place 0, and nothing on its stack.
  abbrev pub fresh : List ℤ → Frame
  fresh words = record { function = function; at = 0; words = words; top = 0; targets = [] }

  abbrev with_slots : List ℤ → machine.Frame
  with_slots slots = record { function = function; at = 0; slots = slots; stack = []; targets = [] }

  pub entered_is : activation f.slots (fresh words) ≡ entered function f args
  entered_is =
      ap with_slots
      ((let split : f.slots ≡ length args + (f.slots - length args) = omega arith in ap (λ k. take k words) split)
      ∙ take-append-add args (replicate (f.slots + f.height - length args) (pos 0)) (f.slots - length args)
      ∙ ap (λ l. args ++ l) (take_replicate (f.slots - length args) (f.slots + f.height - length args) (pos 0) (omega arith)))

-- The arguments are as many as the function that is there has parameters.
pub arguments_are : (code text : Code) → text ≡ code → (g : ℕ) (f : FuncCode) (count : ℕ) → slice_get text.functions g ≡ Some f → params_of code g ≡ Some count → count ≡ f.params
arguments_are code text same g f count known takes =
    same_Some count f.params
    (sym takes ∙ ap (λ (x : Code). params_of x g) (sym same) ∙ ap (option_map (λ (h : FuncCode). h.params)) known)

-- Such a frame alone fits, where the function has its arguments.
pub starting_fits : (code : Code) → is_sound code ≡ true → (g : ℕ) (f : FuncCode) (args : List ℤ) → slice_get code.functions g ≡ Some f → length args ≡ f.params →
    (frame : Frame) → activation f.slots frame ≡ entered g f args → IsLaidOut f frame → frames_fit code (frame ∷ []) ≡ true
starting_fits code sound g f args known count frame new laid =
    run_to code (frame ∷ [])
    ((λ h e. subst (λ (q : FuncCode). IsLaidOut q frame) (same_Some f h (sym there ∙ e)) laid), tt)
    (subst (λ (x : machine.Frame). Fits code (x ∷ [])) (sym (as_activation code frame f there ∙ new)) (starts_fit code sound g f args known count).0)
  where
    there : slice_get code.functions frame.function ≡ Some f
    there = ap (λ (x : machine.Frame). slice_get code.functions x.function) new ∙ known
