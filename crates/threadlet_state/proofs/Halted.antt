-- The silent instructions of frames that fit, up to their next action.
use Rattle.std.proofs.Common.{◌≡◌, ℕ, zero, suc, ◌+◌, ◌*◌, ◌≤◌, ◌<◌, List, [], ◌∷◌, length, Option, Some, None, refl, sym, ◌∙◌, arith, true}
use Rattle.std.specs.Prelude.{slice_get, ◌^◌}
use Rattle.threadlet_code.specs.declared.code.FuncCode.{FuncCode}
use Rattle.threadlet_code.specs.declared.code.Code.{Code}
use Rattle.threadlet_code.specs.Naming.{body_length}
use Rattle.threadlet_code.specs.Machine.{State, Next, goes, asks, stops, stuck, step}
use Rattle.threadlet_code.specs.Running.{room, halts, halt}
use Rattle.threadlet_code.specs.Breaches.{is_sound}
use Rattle.threadlet_code.specs.Fitting.{Fits}
use Rattle.threadlet_code.specs.Verdict.{IsShort}
use Rattle.threadlet_code.proofs.Following.{silent_halts_later}
use Rattle.threadlet_state.specs.declared.frame.Frame.{Frame}
use Rattle.threadlet_state.specs.Activations.{state_of}
use Rattle.threadlet_state.specs.Fit.{frames_fit}
use Rattle.threadlet_state.specs.Silent.{IsStepped}
use Rattle.threadlet_state.proofs.FrameLaws.{frames_as_state}

-- ---- how many there are

-- No more than there is room for.
silent_within : (n : ℕ) (code : Code) (done : ℕ) (state : State) (next : Next) → (halts n code done state next).silent ≤ done + n
silent_within zero code done state next = omega arith
silent_within (suc n) code done state (goes after) = omega (arith, silent_within n code (suc done) after (step code after))
silent_within (suc n) code done state (asks action resume) = omega arith
silent_within (suc n) code done state (stops action) = omega arith
silent_within (suc n) code done state stuck = omega arith

module _ (code : Code) (short : IsShort code) where
  body_small : (g : ℕ) → body_length (slice_get code.functions g) < 2 ^ 32
  body_small g = by_function (slice_get code.functions g) refl
    where
      by_function : (o : Option FuncCode) → slice_get code.functions g ≡ o → body_length o < 2 ^ 32
      by_function None known = omega arith
      by_function (Some f) known = short.bodies g f known

  room_small : (state : State) → room code state ≤ 1 + length state * 4294967296
  room_small [] = omega arith
  room_small (frame ∷ frames) = omega (arith, body_small frame.function, room_small frames)

  pub silent_small : (state : State) → Fits code state → (halt code state).silent + 1 < 2 ^ 64
  silent_small [] fits = absurd fits
  silent_small (frame ∷ frames) fits =
      let deep : suc (length frames) ≤ 256 = fits.2 in
      omega (arith, deep, room_small (frame ∷ frames), silent_within (room code (frame ∷ frames)) code 0 (frame ∷ frames) (step code (frame ∷ frames)))

-- ---- on the way

-- Frames stand behind so many silent instructions of others, and halt where these do.
pub record IsOnTheWay (code : Code) (first now : List Frame) (done : ℕ) : Type 0 where
  pub fits : frames_fit code now ≡ true
  pub state : (halt code (state_of code now)).state ≡ (halt code (state_of code first)).state
  pub count : done + (halt code (state_of code now)).silent ≡ (halt code (state_of code first)).silent

module _ (code : Code) (sound : is_sound code ≡ true) where
  -- A silent instruction more.
  pub one_more_done : (first now after : List Frame) (done : ℕ) → IsOnTheWay code first now done → IsStepped code now after → IsOnTheWay code first after (done + 1)
  one_more_done first now after done way stepped =
      let later = silent_halts_later code sound (state_of code now) (state_of code after) stepped.step_goes in
      record { fits = stepped.fits; state = sym later.0 ∙ way.state; count = omega (arith, way.count, later.1) }

  -- Then fewer are left.
  pub fewer_left : (now after : List Frame) → IsStepped code now after → (halt code (state_of code after)).silent < (halt code (state_of code now)).silent
  fewer_left now after stepped = omega (arith, (silent_halts_later code sound (state_of code now) (state_of code after) stepped.step_goes).1)

  -- Their number is small.
  pub done_small : IsShort code → (first now : List Frame) (done : ℕ) → IsOnTheWay code first now done → frames_fit code first ≡ true → done + 1 < 2 ^ 64
  done_small short first now done way fits = omega (arith, way.count, silent_small code short (state_of code first) (frames_as_state code sound first fits).0)
