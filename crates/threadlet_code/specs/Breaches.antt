-- Which rules a code breaks, and where.
use Rattle.std.specs.Prelude.{ℕ, zero, suc, Bool, false, List, [], ◌∷◌, length, map, filter, flat_map, Option, Some, None, slice_get, slice_index_or}
use Rattle.std.specs.List.{range_with_len}
use Rattle.threadlet_code.specs.declared.rule.Rule.{Rule}
use Rattle.threadlet_code.specs.declared.rule.Rule.TheVariants.{NoEntryTurn, BadPlaces, BadSlot, BadFunction, BadFormat, BadTarget, LoopWithoutTurn, FallsOff, Underflow, HeightDiffers, TooHigh, SpawnUntold, ReturnUnsynced}
use Rattle.threadlet_code.specs.declared.code.FuncCode.{FuncCode}
use Rattle.threadlet_code.specs.declared.code.Code.{Code}
use Rattle.world_model.specs.World.{is_empty}
use Rattle.threadlet_code.specs.Naming.{body_length}
use Rattle.threadlet_code.specs.Rules.{no_entry_turn, bad_places, bad_slot, bad_main, bad_function, bad_format, bad_target, loop_without_turn, falls_off, spawn_untold, return_unsynced}
use Rattle.threadlet_code.specs.Ways.{Known, known_at, heights, underflow, height_differs, too_high}

-- A rule that is broken, in a function and at a place in it.
pub record Breach : Type 0 where
  pub function : ℕ
  pub place : ℕ
  pub rule : Rule

-- A rule is broken at a place of a function.
abbrev pub breaks : Code → ℕ → FuncCode → ℕ → Rule → Bool
breaks code function f place NoEntryTurn = no_entry_turn f place
breaks code function f place BadPlaces = bad_places f place
breaks code function f place BadSlot = bad_slot f place
breaks code function f place BadFunction = bad_function code function f place
breaks code function f place BadFormat = bad_format code f place
breaks code function f place BadTarget = bad_target f place
breaks code function f place LoopWithoutTurn = loop_without_turn f place
breaks code function f place FallsOff = falls_off f place
breaks code function f place Underflow = underflow code function f place
breaks code function f place HeightDiffers = height_differs code function f place
breaks code function f place TooHigh = too_high code function f place
breaks code function f place SpawnUntold = spawn_untold f place
breaks code function f place ReturnUnsynced = return_unsynced f place

-- The same where the function may be missing: then main is, too.
abbrev pub is_broken : Code → ℕ → Option FuncCode → ℕ → Rule → Bool
is_broken code function (Some f) place rule = breaks code function f place rule
is_broken code function None place BadFunction = bad_main code function place
is_broken code function None place _ = false

-- The rules in their order.
abbrev pub all_rules : List Rule
all_rules =
    NoEntryTurn ∷ BadPlaces ∷ BadSlot ∷ BadFunction ∷ BadFormat ∷ BadTarget ∷ LoopWithoutTurn ∷ FallsOff
    ∷ Underflow ∷ HeightDiffers ∷ TooHigh ∷ SpawnUntold ∷ ReturnUnsynced ∷ []

-- The numbers of so many functions or places; the first is looked at in any case.
abbrev pub numbers : ℕ → List ℕ
numbers zero = 0 ∷ []
numbers (suc n) = range_with_len 0 (suc n)

-- The rules that are broken at a place of a function.
abbrev pub breaches_at : Code → ℕ → ℕ → List Breach
breaches_at code function place =
    map (λ rule. record { function = function; place = place; rule = rule }) (filter (is_broken code function (slice_get code.functions function) place) all_rules)

-- The rules that a function breaks, by place.
abbrev pub breaches_in : Code → ℕ → List Breach
breaches_in code function = flat_map (breaches_at code function) (numbers (body_length (slice_get code.functions function)))

-- The rules that a code breaks, by function, then place, then rule.
abbrev pub breaches : Code → List Breach
breaches code = flat_map (breaches_in code) (numbers (length code.functions))

-- The first of them.
abbrev pub first_breach : Code → Option Breach
first_breach code = slice_get (breaches code) 0

-- A code keeps all rules.
abbrev pub is_sound : Code → Bool
is_sound code = is_empty (breaches code)

-- The heights in functions that are numbered from some number on.
abbrev pub heights_from : ℕ → Code → List FuncCode → List Known
heights_from function code [] = []
heights_from function code (f ∷ functions) = heights code function f ∷ heights_from (suc function) code functions

-- The heights in all functions.
abbrev pub all_heights : Code → List Known
all_heights code = heights_from 0 code code.functions

-- The stack height before a place, or none where no way leads there.
abbrev pub height_at : Code → ℕ → ℕ → Option ℕ
height_at code function place = known_at (slice_index_or (all_heights code) function []) place
