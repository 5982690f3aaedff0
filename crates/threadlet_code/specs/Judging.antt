-- The rules on ways, by the span of the heights that ways have.
use Rattle.std.specs.Prelude.{◌≡◌, ◌<◌, ℕ, Bool, false, not, ◌==◌, nat_lt, List, [], length, filter, Option, Some, None, slice_get, slice_index_or}
use Rattle.threadlet_code.specs.declared.instr.Instr.{Instr}
use Rattle.threadlet_code.specs.declared.rule.Rule.{Rule}
use Rattle.threadlet_code.specs.declared.code.FuncCode.{FuncCode}
use Rattle.threadlet_code.specs.declared.code.Code.{Code}
use Rattle.threadlet_code.specs.declared.walk.Span.{Span}
use Rattle.threadlet_code.specs.Rules.{is_jumped_to}
use Rattle.threadlet_code.specs.Ways.{lacks_operands}
use Rattle.threadlet_code.specs.Breaches.{breaches_in}

-- The lowest way lacks what is popped.
abbrev pub lacks_least : Code → Option Instr → Option Span → Bool
lacks_least code instr None = false
lacks_least code instr (Some span) = lacks_operands code instr span.least

-- The lowest way and the highest have different heights.
abbrev pub is_wide : Option Span → Bool
is_wide None = false
is_wide (Some span) = not (span.least == span.most)

-- The highest way is higher than this.
abbrev pub exceeds : ℕ → Option Span → Bool
exceeds height None = false
exceeds height (Some span) = nat_lt height span.most

-- The places to which some jump goes.
pub record AreJumps (f : FuncCode) (jumps : List Bool) : Type 0 where
  pub size : length jumps ≡ length f.body
  pub each : (place : ℕ) → place < length f.body → slice_index_or jumps place false ≡ is_jumped_to f place

-- The first of some rules that is broken, if any.
abbrev pub IsFirst : (Rule → Bool) → List Rule → Option Rule → Type 0
IsFirst broken rules None = filter broken rules ≡ []
IsFirst broken rules (Some rule) = slice_get (filter broken rules) 0 ≡ Some rule

-- The first place at which a function breaks a rule, with the rule, if any.
abbrev pub IsFirstIn : Code → ℕ → Option (ℕ × Rule) → Type 0
IsFirstIn code function None = breaches_in code function ≡ []
IsFirstIn code function (Some at) = slice_get (breaches_in code function) 0 ≡ Some (record { function = function; place = at.0; rule = at.1 })
