-- What holds of a strand's state where its silent instructions end.
use Rattle.std.proofs.Common.{◌≡◌, ℕ, zero, suc, refl, true}
use Rattle.threadlet_code.specs.declared.code.Code.{Code}
use Rattle.threadlet_code.specs.Breaches.{is_sound}
use Rattle.threadlet_code.specs.Machine.{State, Next, goes, asks, stops, stuck, step}
use Rattle.threadlet_code.specs.Running.{halts, halt, room}
use Rattle.threadlet_code.specs.Fitting.{Fits}
use Rattle.threadlet_code.proofs.FitLaws.{silent_fits}

-- what holds of a state and stays where a silent instruction is done holds where it halts
pub kept_halting : (c : Code) (P : State → Type 0) → ((state after : State) → step c state ≡ goes after → P state → P after) →
    (n done : ℕ) (state : State) (next : Next) → step c state ≡ next → P state → P (halts n c done state next).state
kept_halting c P silent zero done state next e p = p
kept_halting c P silent (suc n) done state (goes after) e p = kept_halting c P silent n (suc done) after (step c after) refl (silent state after e p)
kept_halting c P silent (suc n) done state (asks action resume) e p = p
kept_halting c P silent (suc n) done state (stops action) e p = p
kept_halting c P silent (suc n) done state stuck e p = p

pub halted_fits : (c : Code) → is_sound c ≡ true → (state : State) → Fits c state → Fits c (halt c state).state
halted_fits c sound state fits = kept_halting c (Fits c) (λ a b e p. silent_fits c sound a b p e) (room c state) 0 state (step c state) refl fits
