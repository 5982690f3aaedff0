-- What comes out of verifying a code.
use Rattle.std.specs.Prelude.{◌≡◌, ◌<◌, ◌^◌, ℕ, [], length, Some, slice_get}
use Rattle.threadlet_code.specs.declared.code.FuncCode.{FuncCode}
use Rattle.threadlet_code.specs.declared.code.Code.{Code}
use Rattle.threadlet_code.specs.declared.refusal.VerifyRefusal.{VerifyRefusal}
use Rattle.threadlet_code.specs.declared.refusal.VerifyRefusal.TheVariants.{Bad, OutOfMemory}
use Rattle.threadlet_code.specs.declared.verdict.Verdict.{Verdict}
use Rattle.threadlet_code.specs.declared.verdict.Verdict.TheVariants.{Sound, Broken}
use Rattle.threadlet_code.specs.declared.verdict.FunctionVerdict.{FunctionVerdict}
use Rattle.threadlet_code.specs.declared.verdict.FunctionVerdict.TheVariants.{Keeps, Breaks}
use Rattle.threadlet_code.specs.Ways.{heights}
use Rattle.threadlet_code.specs.Breaches.{breaches, breaches_in, first_breach, all_heights}

-- The lists of functions and formats and each body are shorter than 2^32.
pub record IsShort (code : Code) : Type 0 where
  pub functions : length code.functions < 2 ^ 32
  pub formats : length code.formats < 2 ^ 32
  pub bodies : (g : ℕ) (f : FuncCode) → slice_get code.functions g ≡ Some f → length f.body < 2 ^ 32

-- A refusal hands the code back, and a bad one names the first rule that is broken.
abbrev pub Refuses : Code → VerifyRefusal → Type 0
Refuses code (Bad back function place rule) =
    (back ≡ code) × (first_breach code ≡ Some (record { function = function; place = place; rule = rule }))
Refuses code (OutOfMemory back) = back ≡ code

-- What is said of a code is so.
abbrev pub Judges : Code → Verdict → Type 0
Judges code (Sound known) = (breaches code ≡ []) × (known ≡ all_heights code)
Judges code (Broken function place rule) = first_breach code ≡ Some (record { function = function; place = place; rule = rule })

-- What is said of one function is so.
abbrev pub JudgesFunction : Code → ℕ → FuncCode → FunctionVerdict → Type 0
JudgesFunction code function f (Keeps known) = (breaches_in code function ≡ []) × (known ≡ heights code function f)
JudgesFunction code function f (Breaks place rule) = slice_get (breaches_in code function) 0 ≡ Some (record { function = function; place = place; rule = rule })
