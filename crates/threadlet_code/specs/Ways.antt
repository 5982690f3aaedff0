-- The ways through a body, and the stack heights that they have.
use Rattle.std.specs.Prelude.{ℕ, zero, suc, ◌+◌, ◌-◌, min, Bool, false, not, ◌&&◌, ◌||◌, ◌==◌, nat_lt, nat_le, if◌then◌else◌, List, [], ◌∷◌, ◌++◌, length, map, replicate, flat_map, Option, Some, None, slice_get, slice_index_or}
use Rattle.std.specs.List.{list_any, range_with_len}
use Rattle.std.specs.Option.{option_or}
use Rattle.threadlet_code.specs.declared.instr.Instr.{Instr}
use Rattle.threadlet_code.specs.declared.code.FuncCode.{FuncCode}
use Rattle.threadlet_code.specs.declared.code.Code.{Code}
use Rattle.threadlet_code.specs.Operands.{operands, results}
use Rattle.threadlet_code.specs.Naming.{leads_to}
use Rattle.threadlet_code.specs.Rules.{bad_slot, bad_function, bad_format, bad_target}

-- An instruction has its operands on a stack of a height.
abbrev pub has_operands : ℕ → Option ℕ → Bool
has_operands height None = false
has_operands height (Some n) = nat_le n height

-- It has not, where there is an instruction.
abbrev pub lacks_operands : Code → Option Instr → ℕ → Bool
lacks_operands code None height = false
lacks_operands code (Some instr) height = not (has_operands height (operands code instr))

-- The height behind an instruction, by how many words it pops and pushes.
abbrev pub exchanged : ℕ → Option ℕ → ℕ → ℕ
exchanged height None more = height
exchanged height (Some n) more = height - n + more

-- The lesser of a height and another, if any.
abbrev pub lesser : ℕ → Option ℕ → ℕ
lesser h None = h
lesser h (Some k) = min h k

-- The least of some heights.
abbrev pub least : List ℕ → Option ℕ
least [] = None
least (height ∷ heights) = Some (lesser height (least heights))

-- They are not all the same.
abbrev pub differ : List ℕ → Bool
differ heights = list_any (λ g. list_any (λ h. not (g == h)) heights) heights

-- What a place is taken to have: the height before it, or none where no way to it is known.
abbrev pub Known : Type 0
Known = List (Option ℕ)

abbrev pub known_at : Known → ℕ → Option ℕ
known_at known place = slice_index_or known place None

module _ (code : Code) (function : ℕ) (f : FuncCode) where
  -- Names at a place are there.
  abbrev pub names_hold : ℕ → Bool
  names_hold place = not (bad_slot f place || bad_function code function f place || bad_format code f place || bad_target f place)

  -- A way with a height goes on from the instruction at a place.
  abbrev pub goes_on : ℕ → Instr → ℕ → Bool
  goes_on place instr height = names_hold place && nat_le height f.height && has_operands height (operands code instr)

  -- The heights with which ways come to a place from the instruction at another: one, or none.
  abbrev pub brings : ℕ → ℕ → Option Instr → Option ℕ → List ℕ
  brings to place (Some instr) (Some height) =
      if goes_on place instr height && leads_to place instr to
      then exchanged height (operands code instr) (results instr) ∷ [] else []
  brings to place _ _ = []

  -- The heights of the ways to a place, where so much is known: one begins at place 0, and the others come from
  -- places with known heights.
  abbrev pub arrivals : ℕ → Known → List ℕ
  arrivals to known =
      (if to == 0 then 0 ∷ [] else [])
      ++ flat_map (λ place. brings to place (slice_get f.body place) (known_at known place)) (range_with_len 0 (length f.body))

  -- One instruction more: a place without a height gets the least of the ways that come to it now.
  abbrev pub longer : Known → Known
  longer known = map (λ to. option_or (known_at known to) (least (arrivals to known))) (range_with_len 0 (length f.body))

  -- The heights of the places to which a way leads with fewer than so many instructions.
  abbrev pub known_within : ℕ → Known
  known_within zero = replicate (length f.body) None
  known_within (suc n) = longer (known_within n)

  -- The heights of all places. Ways go on from a place only with the fewest instructions, and of these with the
  -- least height.
  abbrev pub heights : Known
  heights = known_within (length f.body)

  -- The heights of all ways to a place.
  abbrev pub ways_to : ℕ → List ℕ
  ways_to place = arrivals place heights

  -- ---- the rules on ways: each says where it is broken

  -- A way lacks what is popped.
  abbrev pub underflow : ℕ → Bool
  underflow place = list_any (lacks_operands code (slice_get f.body place)) (ways_to place)

  -- Two ways have different heights.
  abbrev pub height_differs : ℕ → Bool
  height_differs place = differ (ways_to place)

  -- A way is higher than the function says.
  abbrev pub too_high : ℕ → Bool
  too_high place = list_any (λ height. nat_lt f.height height) (ways_to place)
