-- The rules that need no ways: each says where it is broken in a function of a code.
use Rattle.std.specs.Prelude.{ℕ, zero, suc, Bool, false, not, ◌&&◌, ◌||◌, ◌==◌, nat_lt, nat_le, length, Option, Some, None, slice_get}
use Rattle.std.specs.List.{list_any}
use Rattle.threadlet_code.specs.declared.code.FuncCode.{FuncCode}
use Rattle.threadlet_code.specs.declared.code.Code.{Code}
use Rattle.threadlet_code.specs.Naming.{slot_named, function_named, format_named, jump_of, named, is_past, is_named, is_turn, is_return, is_sync, is_spawn, is_last}

-- The first instruction is no Turn.
abbrev pub no_entry_turn : FuncCode → ℕ → Bool
no_entry_turn f place = place == 0 && not (is_turn (slice_get f.body 0))

-- There are not as many positions as instructions.
abbrev pub bad_places : FuncCode → ℕ → Bool
bad_places f place = place == 0 && not (length f.places == length f.body)

-- There are fewer slots than parameters, or a slot that is named is not there.
abbrev pub bad_slot : FuncCode → ℕ → Bool
bad_slot f place = (place == 0 && nat_lt f.slots f.params) || is_past f.slots (named slot_named f place)

-- The function is there, and has no parameters.
abbrev pub can_start : Option FuncCode → Bool
can_start None = false
can_start (Some f) = f.params == 0

-- Main is not there or has parameters, which is told at the first place of the first function.
abbrev pub bad_main : Code → ℕ → ℕ → Bool
bad_main code function place = function == 0 && place == 0 && not (can_start (slice_get code.functions code.main))

-- Main is bad, or a function that is named is not there.
abbrev pub bad_function : Code → ℕ → FuncCode → ℕ → Bool
bad_function code function f place = bad_main code function place || is_past (length code.functions) (named function_named f place)

-- A format that is named is not there.
abbrev pub bad_format : Code → FuncCode → ℕ → Bool
bad_format code f place = is_past (length code.formats) (named format_named f place)

-- A jump leaves the body.
abbrev pub bad_target : FuncCode → ℕ → Bool
bad_target f place = is_past (length f.body) (named jump_of f place)

-- This leads from a place to the same one or before, and to no Turn.
abbrev pub leads_back : FuncCode → ℕ → Option ℕ → Bool
leads_back f place None = false
leads_back f place (Some to) = nat_le to place && not (is_turn (slice_get f.body to))

-- A jump goes to its own place or before, and to no Turn.
abbrev pub loop_without_turn : FuncCode → ℕ → Bool
loop_without_turn f place = leads_back f place (named jump_of f place)

-- The last instruction is neither a jump nor a return.
abbrev pub falls_off : FuncCode → ℕ → Bool
falls_off f place = suc place == length f.body && not (is_last (slice_get f.body place))

-- A function spawns that does not say so.
abbrev pub spawn_untold : FuncCode → ℕ → Bool
spawn_untold f place = not f.spawns && is_spawn (slice_get f.body place)

-- There is a Sync at the place before.
abbrev pub follows_sync : FuncCode → ℕ → Bool
follows_sync f zero = false
follows_sync f (suc before) = is_sync (slice_get f.body before)

-- Some jump of the body goes to the place.
abbrev pub is_jumped_to : FuncCode → ℕ → Bool
is_jumped_to f place = list_any (λ instr. is_named place (jump_of instr)) f.body

-- A function that spawns returns here, and no Sync comes before, or a jump leads here.
abbrev pub return_unsynced : FuncCode → ℕ → Bool
return_unsynced f place = f.spawns && is_return (slice_get f.body place) && (not (follows_sync f place) || is_jumped_to f place)
