-- Frames that fit, and the machine's state that they are.
use Rattle.std.proofs.Common.{◌≡◌, ℕ, zero, suc, ◌+◌, ◌<◌, ◌≤◌, List, [], ◌∷◌, length, take, drop, Option, Some, None, refl, sym, ap, ◌∙◌, subst, arith, eq-eqb, Bool, true, false}
use Rattle.std.specs.Prelude.{slice_get, slice_index_or, reverse, map, not, ◌&&◌, ◌==◌, nat_lt, nat_le}
use Rattle.std.specs.List.{list_all}
use Rattle.std.proofs.lemmas.Bool.{eqb-true, and_from}
use Rattle.std.proofs.lemmas.Bool.Decides.{nat_tests}
use Rattle.std.proofs.lemmas.List.{length-take-le, length-drop, length-reverse, length-map}
use Rattle.std.proofs.lemmas.Option.{same_Some}
use Rattle.threadlet_code.specs.declared.code.FuncCode.{FuncCode}
use Rattle.threadlet_code.specs.declared.code.Code.{Code}
use Rattle.world_model.specs.Activation.{Targets, max_depth}
use Rattle.threadlet_code.specs.Ways.{heights, known_at}
use Rattle.threadlet_code.specs.Breaches.{is_sound, height_at, heights_from}
use Rattle.threadlet_code.specs.Fitting.{AreSlots, FitsFrame, AllWait, Fits}
use Rattle.threadlet_code.proofs.Leads.{heights_lead}
use Rattle.threadlet_state.specs.declared.frame.Frame.{Frame}
use Rattle.threadlet_state.specs.Activations.{slots_of, activation, activation_in}
use Rattle.threadlet_state.specs.Fit.{are_slots, makes_up, suits, frame_fits, run_fits, IsLaidOut, AreLaidOut, FramesFit, StatesFit}

-- ---- truths of tests

and_true : (a b : Bool) → (a && b) ≡ true → (a ≡ true) × (b ≡ true)
and_true true b e = (refl, e)
and_true false b e = absurd (let wrong : false ≡ true = e in cc)

not_true : (b : Bool) → not b ≡ true → b ≡ false
not_true false e = refl
not_true true e = absurd (let wrong : false ≡ true = e in cc)

below_from : (a b : ℕ) → nat_le a b ≡ false → b < a
below_from a b e = grind (arith, nat_tests)

below_test : (a b : ℕ) → b < a → nat_le a b ≡ false
below_test a b lt = grind (arith, nat_tests)

from_lt : (a b : ℕ) → nat_lt a b ≡ true → a < b
from_lt a b e = grind (arith, nat_tests)

lt_test : (a b : ℕ) → a < b → nat_lt a b ≡ true
lt_test a b lt = grind (arith, nat_tests)

-- ---- the height of a place

heights_at : (first : ℕ) (code : Code) (fs : List FuncCode) (i : ℕ) (f : FuncCode) → slice_get fs i ≡ Some f →
    slice_index_or (heights_from first code fs) i [] ≡ heights code (first + i) f
heights_at first code [] i f e = absurd (let wrong : None ≡ Some f = e in cc)
heights_at first code (h ∷ fs) zero f e =
    let same : first ≡ first + 0 = omega arith in
    ap (heights code first) (same_Some h f e) ∙ ap (λ k. heights code k f) same
heights_at first code (h ∷ fs) (suc i) f e =
    let same : suc first + i ≡ first + suc i = omega arith in
    heights_at (suc first) code fs i f e ∙ ap (λ k. heights code k f) same

pub height_is : (code : Code) (g : ℕ) (f : FuncCode) (place : ℕ) → slice_get code.functions g ≡ Some f →
    height_at code g place ≡ known_at (heights code g f) place
height_is code g f place e =
    let same : 0 + g ≡ g = omega arith in
    ap (λ k. known_at k place) (heights_at 0 code code.functions g f e ∙ ap (λ k. heights code k f) same)

-- ---- targets

slots_from : (slots : ℕ) (targets : Targets) → are_slots slots targets ≡ true → AreSlots slots targets
slots_from slots [] e = tt
slots_from slots (None ∷ targets) e = slots_from slots targets e
slots_from slots (Some slot ∷ targets) e =
    let both = and_true (not (nat_le slots slot)) (are_slots slots targets) e in
    (below_from slots slot (not_true (nat_le slots slot) both.0), slots_from slots targets both.1)

slots_to : (slots : ℕ) (targets : Targets) → AreSlots slots targets → are_slots slots targets ≡ true
slots_to slots [] a = refl
slots_to slots (None ∷ targets) a = slots_to slots targets a
slots_to slots (Some slot ∷ targets) a =
    and_from (not (nat_le slots slot)) (are_slots slots targets) (ap not (below_test slots slot a.0)) (slots_to slots targets a.1)

-- ---- the words of a frame

made_up : (top waits : ℕ) (height : Option ℕ) → makes_up top waits height ≡ true → height ≡ Some (top + waits)
made_up top waits None e = absurd (let wrong : false ≡ true = e in cc)
made_up top waits (Some height) e = ap Some (sym (eqb-true (top + waits) height e))

pub slots_size : (f : FuncCode) (frame : Frame) → IsLaidOut f frame → length (take f.slots frame.words) ≡ f.slots
slots_size f frame laid = length-take-le f.slots frame.words (omega (arith, laid.words))

pub stack_size : (f : FuncCode) (frame : Frame) → IsLaidOut f frame → length (reverse (take frame.top (drop f.slots frame.words))) ≡ frame.top
stack_size f frame laid =
    length-reverse (take frame.top (drop f.slots frame.words))
    ∙ length-take-le frame.top (drop f.slots frame.words) (omega (arith, laid.words, laid.top, length-drop f.slots frame.words))

-- ---- a frame

module _ (code : Code) (frame : Frame) (f : FuncCode) (known : slice_get code.functions frame.function ≡ Some f) where
  pub as_activation : activation_in code frame ≡ activation f.slots frame
  as_activation = ap (λ o. activation (slots_of o) frame) known

  laid_for : IsLaidOut f frame → (g : FuncCode) → slice_get code.functions frame.function ≡ Some g → IsLaidOut g frame
  laid_for laid g e = subst (λ (h : FuncCode). IsLaidOut h frame) (same_Some f g (sym known ∙ e)) laid

  fits_as : (waits : ℕ) → is_sound code ≡ true → suits code waits frame (Some f) ≡ true → FitsFrame code waits (activation f.slots frame) × IsLaidOut f frame
  fits_as waits sound e =
      let outer = and_true (length frame.words == f.slots + f.height && are_slots f.slots frame.targets) (makes_up frame.top waits (height_at code frame.function frame.at)) e in
      let inner = and_true (length frame.words == f.slots + f.height) (are_slots f.slots frame.targets) outer.0 in
      let here : known_at (heights code frame.function f) frame.at ≡ Some (frame.top + waits) =
      sym (height_is code frame.function f frame.at known) ∙ made_up frame.top waits (height_at code frame.function frame.at) outer.1 in
      let low : frame.top + waits ≤ f.height = (heights_lead code sound frame.function f known).low frame.at (frame.top + waits) here in
      let laid : IsLaidOut f frame = record { words = eqb-true (length frame.words) (f.slots + f.height) inner.0; top = omega (arith, low) } in (
        record {
          f = f;
          known = known;
          slots = slots_size f frame laid;
          targets = slots_from f.slots frame.targets inner.1;
          height = here ∙ ap (λ k. Some (k + waits)) (sym (stack_size f frame laid));
        },
        laid,
      )

  suits_as : (waits : ℕ) → IsLaidOut f frame → AreSlots f.slots frame.targets → known_at (heights code frame.function f) frame.at ≡ Some (frame.top + waits) → suits code waits frame (Some f) ≡ true
  suits_as waits laid targets here =
      and_from (length frame.words == f.slots + f.height && are_slots f.slots frame.targets) (makes_up frame.top waits (height_at code frame.function frame.at))
      (and_from (length frame.words == f.slots + f.height) (are_slots f.slots frame.targets) (eq-eqb (length frame.words) (f.slots + f.height) laid.words) (slots_to f.slots frame.targets targets))
      (ap (makes_up frame.top waits) (height_is code frame.function f frame.at known ∙ here) ∙ eq-eqb (frame.top + waits) (frame.top + waits) refl)

one_from : (code : Code) → is_sound code ≡ true → (waits : ℕ) (frame : Frame) → frame_fits code waits frame ≡ true →
    FitsFrame code waits (activation_in code frame) × ((f : FuncCode) → slice_get code.functions frame.function ≡ Some f → IsLaidOut f frame)
one_from code sound waits frame e = by_function (slice_get code.functions frame.function) refl e
  where
    by_function : (o : Option FuncCode) → slice_get code.functions frame.function ≡ o → suits code waits frame o ≡ true →
        FitsFrame code waits (activation_in code frame) × ((f : FuncCode) → slice_get code.functions frame.function ≡ Some f → IsLaidOut f frame)
    by_function None known e = absurd (let wrong : false ≡ true = e in cc)
    by_function (Some f) known e =
        let both = fits_as code frame f known waits sound e in
        (subst (FitsFrame code waits) (sym (as_activation code frame f known)) both.0, laid_for code frame f known both.1)

frame_to : (code : Code) (waits : ℕ) (frame : Frame) → ((f : FuncCode) → slice_get code.functions frame.function ≡ Some f → IsLaidOut f frame) →
    FitsFrame code waits (activation_in code frame) → frame_fits code waits frame ≡ true
frame_to code waits frame laid fit =
    let f = fit.f in
    let size : length ((activation_in code frame).stack) ≡ frame.top =
    ap (λ o. length (reverse (take frame.top (drop (slots_of o) frame.words)))) fit.known ∙ stack_size f frame (laid f fit.known) in
    ap (suits code waits frame) fit.known
    ∙ suits_as code frame f fit.known waits (laid f fit.known) fit.targets (fit.height ∙ ap (λ k. Some (k + waits)) size)

-- ---- all frames

all_from : (code : Code) → is_sound code ≡ true → (callers : List Frame) → list_all (frame_fits code 1) callers ≡ true → AllWait code (map (activation_in code) callers) × AreLaidOut code callers
all_from code sound [] e = (tt, tt)
all_from code sound (frame ∷ callers) e =
    let both = and_true (frame_fits code 1 frame) (list_all (frame_fits code 1) callers) e in
    let one = one_from code sound 1 frame both.0 in
    let more = all_from code sound callers both.1 in
    ((one.0, more.0), (one.1, more.1))

pub run_from : (code : Code) → is_sound code ≡ true → (run : List Frame) → run_fits code run ≡ true → Fits code (map (activation_in code) run) × AreLaidOut code run
run_from code sound [] e = absurd (let wrong : false ≡ true = e in cc)
run_from code sound (frame ∷ callers) e =
    let outer = and_true (nat_lt (length callers) max_depth && frame_fits code 0 frame) (list_all (frame_fits code 1) callers) e in
    let inner = and_true (nat_lt (length callers) max_depth) (frame_fits code 0 frame) outer.0 in
    let one = one_from code sound 0 frame inner.1 in
    let more = all_from code sound callers outer.1 in
    let deep : length callers < 256 = from_lt (length callers) 256 inner.0 in
    ((one.0, more.0, omega (arith, deep, length-map callers (activation_in code))), (one.1, more.1))

all_to : (code : Code) (callers : List Frame) → AreLaidOut code callers → AllWait code (map (activation_in code) callers) → list_all (frame_fits code 1) callers ≡ true
all_to code [] laid wait = refl
all_to code (frame ∷ callers) laid wait =
    and_from (frame_fits code 1 frame) (list_all (frame_fits code 1) callers) (frame_to code 1 frame laid.0 wait.0) (all_to code callers laid.1 wait.1)

pub run_to : (code : Code) (run : List Frame) → AreLaidOut code run → Fits code (map (activation_in code) run) → run_fits code run ≡ true
run_to code [] laid fits = absurd fits
run_to code (frame ∷ callers) laid fits =
    let deep : suc (length (map (activation_in code) callers)) ≤ 256 = fits.2 in
    and_from (nat_lt (length callers) max_depth && frame_fits code 0 frame) (list_all (frame_fits code 1) callers)
    (and_from (nat_lt (length callers) max_depth) (frame_fits code 0 frame) (lt_test (length callers) 256 (omega (arith, deep, length-map callers (activation_in code)))) (frame_to code 0 frame laid.0 fits.0))
    (all_to code callers laid.1 fits.1)

pub frames_as_state : FramesFit
frames_as_state code sound frames e = run_from code sound (reverse frames) e

pub state_as_frames : StatesFit
state_as_frames code frames laid fits = run_to code (reverse frames) laid fits
