-- A frame that fits has what its next instruction needs.
use Rattle.std.proofs.Common.{◌≡◌, ℕ, suc, ◌+◌, ◌-◌, ◌≤◌, ◌<◌, List, [], length, Option, Some, None, refl, sym, ap, ◌∙◌, arith, Bool, true, false, ℤ}
use Rattle.std.specs.Prelude.{slice_get, option_and_then, nat_le, ◌^◌}
use Rattle.std.proofs.lemmas.Bool.Decides.{nat_tests}
use Rattle.std.proofs.lemmas.Option.{same_Some}
use Rattle.word_ops.specs.declared.place.Pos.{Pos}
use Rattle.world_model.specs.Action.{Action}
use Rattle.threadlet_code.specs.declared.instr.Instr.{Instr}
use Rattle.threadlet_code.specs.declared.instr.Instr.TheVariants as by
use Rattle.threadlet_code.specs.declared.code.FuncCode.{FuncCode}
use Rattle.threadlet_code.specs.declared.code.Code.{Code}
use Rattle.threadlet_code.specs.Operands.{operands, own_operands, results, taken}
use Rattle.threadlet_code.specs.Naming.{slot_named, successors}
use Rattle.threadlet_code.specs.Machine as machine
use Rattle.threadlet_code.specs.Machine.{State, pops, does, acts_or_goes, action_of}
use Rattle.threadlet_code.specs.Ways.{has_operands, exchanged, heights, known_at}
use Rattle.threadlet_code.specs.Breaches.{is_sound}
use Rattle.threadlet_code.specs.Sound.{OfEach, HeightsLead}
use Rattle.threadlet_code.specs.Fitting.{FitsFrame}
use Rattle.threadlet_code.specs.Verdict.{IsShort}
use Rattle.threadlet_code.proofs.Kept.{keeps_rules}
use Rattle.threadlet_code.proofs.Leads.{heights_lead}
use Rattle.threadlet_state.specs.declared.frame.Frame.{Frame}
use Rattle.threadlet_state.specs.Activations.{activation}
use Rattle.threadlet_state.specs.Fit.{IsLaidOut}
use Rattle.threadlet_state.specs.Silent.{goes_on, stays, HasRoom}

from_le : (a b : ℕ) → nat_le a b ≡ true → a ≤ b
from_le a b e = grind (arith, nat_tests)

-- ---- operands and results

enough_for : (code : Code) (top : ℕ) (instr : Instr) → stays instr ≡ true → has_operands top (operands code instr) ≡ true → own_operands instr ≤ top
enough_for code top (by.Push word) s e = omega arith
enough_for code top (by.Get slot) s e = omega arith
enough_for code top (by.Set slot) s e = from_le 1 top e
enough_for code top by.Pop s e = from_le 1 top e
enough_for code top by.Dup s e = from_le 1 top e
enough_for code top (by.Un op) s e = from_le 1 top e
enough_for code top (by.Bin op) s e = from_le 2 top e
enough_for code top (by.Jump to) s e = omega arith
enough_for code top (by.JumpZero to) s e = from_le 1 top e
enough_for code top other s e = absurd (let wrong : false ≡ true = s in cc)

module _ (known : ℕ → Option ℕ) (most : ℕ) (low : (place h : ℕ) → known place ≡ Some h → h ≤ most) where
  room_for : (code : Code) (place top : ℕ) (instr : Instr) → stays instr ≡ true →
      OfEach (λ to. known to ≡ Some (exchanged top (operands code instr) (results instr))) (successors place instr) →
      top - own_operands instr + results instr ≤ most
  room_for code place top (by.Push word) s o = low (suc place) (top - 0 + 1) o.0
  room_for code place top (by.Get slot) s o = low (suc place) (top - 0 + 1) o.0
  room_for code place top (by.Set slot) s o = low (suc place) (top - 1 + 0) o.0
  room_for code place top by.Pop s o = low (suc place) (top - 1 + 0) o.0
  room_for code place top by.Dup s o = low (suc place) (top - 1 + 2) o.0
  room_for code place top (by.Un op) s o = low (suc place) (top - 1 + 1) o.0
  room_for code place top (by.Bin op) s o = low (suc place) (top - 2 + 1) o.0
  room_for code place top (by.Jump to) s o = low to (top - 0 + 0) o.0
  room_for code place top (by.JumpZero to) s o = low to (top - 1 + 0) o.0
  room_for code place top other s o = absurd (let wrong : false ≡ true = s in cc)

-- The height of the place of the deepest frame.
pub top_known : (code : Code) (frame : Frame) (f : FuncCode) (waits : ℕ) → FitsFrame code waits (activation f.slots frame) → slice_get code.functions frame.function ≡ Some f →
    length (activation f.slots frame).stack ≡ frame.top → known_at (heights code frame.function f) frame.at ≡ Some (frame.top + waits)
top_known code frame f waits fit known size =
    ap (λ (h : FuncCode). known_at (heights code frame.function h) frame.at) (same_Some f fit.f (sym known ∙ fit.known))
    ∙ fit.height ∙ ap (λ k. Some (k + waits)) size

module _ (code : Code) (sound : is_sound code ≡ true) (frame : Frame) (f : FuncCode) (known : slice_get code.functions frame.function ≡ Some f) where
  lead : HeightsLead code frame.function f
  lead = heights_lead code sound frame.function f known

  pub next_place : IsShort code → (h : ℕ) → known_at (heights code frame.function f) frame.at ≡ Some h → frame.at + 1 < 2 ^ 32
  next_place short h e = omega (arith, lead.inside frame.at h e, short.bodies frame.function f known)

  pub room_under : (h : ℕ) → known_at (heights code frame.function f) frame.at ≡ Some h → h ≤ f.height
  room_under h e = lead.low frame.at h e

  pub has_room : IsShort code → (instr : Instr) → slice_get f.body frame.at ≡ Some instr → stays instr ≡ true → IsLaidOut f frame →
      known_at (heights code frame.function f) frame.at ≡ Some frame.top → HasRoom f instr frame
  has_room short instr here s laid e = record {
    laid = laid;
    operands = enough_for code frame.top instr s (lead.enough frame.at frame.top instr e here);
    room = room_for (known_at (heights code frame.function f)) f.height lead.low code frame.at frame.top instr s (lead.behind frame.at frame.top instr e here);
    slot = λ slot named. (keeps_rules code sound frame.function f known).slots frame.at slot (ap (option_and_then slot_named) here ∙ named);
    next_place = next_place short frame.top e;
  }

  -- As many operands as an instruction takes.
  pub has_operands_of : (instr : Instr) (n h : ℕ) → slice_get f.body frame.at ≡ Some instr → known_at (heights code frame.function f) frame.at ≡ Some h → operands code instr ≡ Some n → n ≤ h
  has_operands_of instr n h here e counted = from_le n h (ap (has_operands h) (sym counted) ∙ lead.enough frame.at h instr e here)

-- ---- which instructions are silent

-- It concerns other frames, too.
abbrev pub moves_frames : Instr → Bool
moves_frames (by.Call function) = true
moves_frames by.Return = true
moves_frames _ = false

pub acts_of : (code : Code) (at : Pos) (depth : ℕ) (instr : Instr) → stays instr ≡ false → moves_frames instr ≡ false → (words : List ℤ) → (action : Action) × (action_of code at depth instr words ≡ Some action)
acts_of code at depth (by.Push word) s m words = absurd (let wrong : true ≡ false = s in cc)
acts_of code at depth (by.Get slot) s m words = absurd (let wrong : true ≡ false = s in cc)
acts_of code at depth (by.Set slot) s m words = absurd (let wrong : true ≡ false = s in cc)
acts_of code at depth by.Pop s m words = absurd (let wrong : true ≡ false = s in cc)
acts_of code at depth by.Dup s m words = absurd (let wrong : true ≡ false = s in cc)
acts_of code at depth (by.Un op) s m words = absurd (let wrong : true ≡ false = s in cc)
acts_of code at depth (by.Bin op) s m words = absurd (let wrong : true ≡ false = s in cc)
acts_of code at depth (by.Jump to) s m words = absurd (let wrong : true ≡ false = s in cc)
acts_of code at depth (by.JumpZero to) s m words = absurd (let wrong : true ≡ false = s in cc)
acts_of code at depth (by.Call function) s m words = absurd (let wrong : true ≡ false = m in cc)
acts_of code at depth by.Return s m words = absurd (let wrong : true ≡ false = m in cc)
acts_of code at depth other s m words = (_, refl)

module _ (code : Code) (at : Pos) (instr : Instr) (frame : machine.Frame) (callers : State) (acts : (words : List ℤ) → (action : Action) × (action_of code at (suc (length callers)) instr words ≡ Some action)) where
  asks_with : (o : Option (List ℤ × List ℤ)) → goes_on (does code at instr frame callers o) ≡ false
  asks_with None = refl
  asks_with (Some p) = ap (λ a. goes_on (acts_or_goes code at instr p.0 (record frame { stack = p.1 }) callers a)) (acts p.0).1

  asks_for : (o : Option ℕ) → goes_on (pops code at instr frame callers o) ≡ false
  asks_for None = refl
  asks_for (Some n) = asks_with (taken n frame.stack [])

-- One that is neither does not lead on.
pub never_goes : (code : Code) (at : Pos) (instr : Instr) (frame : machine.Frame) (callers : State) → moves_frames instr ≡ false → stays instr ≡ false →
    goes_on (pops code at instr frame callers (operands code instr)) ≡ false
never_goes code at instr frame callers m s = asks_for code at instr frame callers (acts_of code at (suc (length callers)) instr s m) (operands code instr)

-- An instruction that leads on concerns its frame alone, or calls or returns.
pub silent_stays : (code : Code) (at : Pos) (instr : Instr) (frame : machine.Frame) (callers : State) → moves_frames instr ≡ false →
    goes_on (pops code at instr frame callers (operands code instr)) ≡ true → stays instr ≡ true
silent_stays code at instr frame callers m e = by_test (stays instr) refl
  where
    by_test : (b : Bool) → stays instr ≡ b → b ≡ true
    by_test true s = refl
    by_test false s = absurd (let wrong : false ≡ true = sym (never_goes code at instr frame callers m s) ∙ e in cc)
