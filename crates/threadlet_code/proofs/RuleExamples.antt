-- Which rules small codes break first, computed.
use Rattle.std.proofs.Common.{◌≡◌, ℕ, List, [], ◌∷◌, Option, Some, None, pos, refl, true, false}
use Rattle.mem_atomics.specs.declared.op.Op.TheVariants.{Store}
use Rattle.threadlet_code.specs.declared.instr.Instr.{Instr}
use Rattle.threadlet_code.specs.declared.instr.Instr.TheVariants as by
use Rattle.threadlet_code.specs.declared.rule.Rule.{Rule}
use Rattle.threadlet_code.specs.declared.rule.Rule.TheVariants as rule
use Rattle.threadlet_code.specs.declared.code.Code.{Code}
use Rattle.threadlet_code.specs.Breaches.{Breach, first_breach, is_sound, height_at}
use Rattle.threadlet_code.proofs.Samples.{function, codes_of, main}

-- the first rule that main breaks, where it has one slot, a stack of two words, and spawns nothing
abbrev breaks : List Instr → Option Breach
breaks body = first_breach (main 1 2 false body)

-- the same where it spawns
abbrev spawning : List Instr → Option Breach
spawning body = first_breach (main 1 2 true body)

abbrev at : ℕ → Rule → Option Breach
at place r = Some (record { function = 0; place = place; rule = r })

-- ---- rules without ways

an_empty_body_has_no_turn : breaks [] ≡ at 0 rule.NoEntryTurn
an_empty_body_has_no_turn = refl

a_body_begins_with_a_turn : breaks (by.Push (pos 14) ∷ by.Return ∷ []) ≡ at 0 rule.NoEntryTurn
a_body_begins_with_a_turn = refl

a_slot_is_missing : breaks (by.Turn ∷ by.Get 1 ∷ by.Return ∷ []) ≡ at 1 rule.BadSlot
a_slot_is_missing = refl

a_function_is_missing : breaks (by.Turn ∷ by.Call 1 ∷ by.Return ∷ []) ≡ at 1 rule.BadFunction
a_function_is_missing = refl

all_functions_are_missing : first_breach (codes_of [] []) ≡ at 0 rule.BadFunction
all_functions_are_missing = refl

main_has_a_parameter : first_breach (codes_of (function 1 1 1 false (by.Turn ∷ by.Get 0 ∷ by.Return ∷ []) ∷ []) []) ≡ at 0 rule.BadFunction
main_has_a_parameter = refl

more_parameters_than_slots : first_breach (codes_of (function 0 0 1 false (by.Turn ∷ by.Push (pos 0) ∷ by.Return ∷ []) ∷ function 2 1 1 false (by.Turn ∷ by.Push (pos 0) ∷ by.Return ∷ []) ∷ []) []) ≡
    Some (record { function = 1; place = 0; rule = rule.BadSlot })
more_parameters_than_slots = refl

a_format_is_missing : breaks (by.Turn ∷ by.Print 0 ∷ by.Push (pos 0) ∷ by.Return ∷ []) ≡ at 1 rule.BadFormat
a_format_is_missing = refl

a_jump_leaves_the_body : breaks (by.Turn ∷ by.Jump 2 ∷ []) ≡ at 1 rule.BadTarget
a_jump_leaves_the_body = refl

a_jump_to_itself_is_a_loop : breaks (by.Turn ∷ by.Jump 1 ∷ []) ≡ at 1 rule.LoopWithoutTurn
a_jump_to_itself_is_a_loop = refl

a_loop_through_a_turn : breaks (by.Turn ∷ by.Jump 0 ∷ []) ≡ None
a_loop_through_a_turn = refl

a_body_runs_off : breaks (by.Turn ∷ by.Push (pos 0) ∷ []) ≡ at 1 rule.FallsOff
a_body_runs_off = refl

a_spawn_is_untold : breaks (by.Turn ∷ by.Spawn 0 None false ∷ by.Push (pos 0) ∷ by.Return ∷ []) ≡ at 1 rule.SpawnUntold
a_spawn_is_untold = refl

of_two_rules_the_first_counts : breaks (by.Turn ∷ by.Spawn 0 (Some 1) false ∷ by.Push (pos 0) ∷ by.Return ∷ []) ≡ at 1 rule.BadSlot
of_two_rules_the_first_counts = refl

a_return_has_no_sync : spawning (by.Turn ∷ by.Push (pos 0) ∷ by.Return ∷ []) ≡ at 2 rule.ReturnUnsynced
a_return_has_no_sync = refl

a_return_behind_its_sync : spawning (by.Turn ∷ by.Push (pos 0) ∷ by.Sync ∷ by.Return ∷ []) ≡ None
a_return_behind_its_sync = refl

-- the jump is never reached, and counts
a_jump_passes_the_sync : spawning (by.Turn ∷ by.Push (pos 0) ∷ by.Sync ∷ by.Return ∷ by.Jump 3 ∷ []) ≡ at 3 rule.ReturnUnsynced
a_jump_passes_the_sync = refl

a_sync_may_stand_anywhere : breaks (by.Turn ∷ by.Sync ∷ by.Push (pos 0) ∷ by.Return ∷ []) ≡ None
a_sync_may_stand_anywhere = refl

-- ---- ways

a_stack_is_empty : breaks (by.Turn ∷ by.Pop ∷ by.Push (pos 0) ∷ by.Return ∷ []) ≡ at 1 rule.Underflow
a_stack_is_empty = refl

a_dup_needs_a_word : breaks (by.Turn ∷ by.Dup ∷ by.Return ∷ []) ≡ at 1 rule.Underflow
a_dup_needs_a_word = refl

two_ways_differ : breaks (by.Turn ∷ by.Push (pos 0) ∷ by.JumpZero 4 ∷ by.Push (pos 0) ∷ by.Push (pos 0) ∷ by.Return ∷ []) ≡ at 4 rule.HeightDiffers
two_ways_differ = refl

a_stack_is_too_high : breaks (by.Turn ∷ by.Push (pos 0) ∷ by.Dup ∷ by.Dup ∷ by.Return ∷ []) ≡ at 4 rule.TooHigh
a_stack_is_too_high = refl

-- two ways of as many instructions come to place 11, and the lower one goes on, to the Pop
the_least_of_the_shortest_ways_goes_on : breaks
    (by.Turn ∷ by.Jump 5 ∷ by.Turn ∷ by.Pop ∷ by.Jump 0 ∷ by.Push (pos 0) ∷ by.JumpZero 9 ∷ by.Push (pos 0) ∷ by.Jump 11 ∷ by.Turn ∷ by.Jump 11 ∷ by.Jump 2 ∷ []) ≡ at 3 rule.Underflow
the_least_of_the_shortest_ways_goes_on = refl

no_way_leads_behind_a_return : breaks (by.Turn ∷ by.Push (pos 0) ∷ by.Return ∷ by.Pop ∷ by.Return ∷ []) ≡ None
no_way_leads_behind_a_return = refl

-- ---- heights

-- two stores to a word and a load of it
abbrev stores : Code
stores = main 0 3 false
    (by.Turn ∷ by.Push (pos 37383395344384) ∷ by.Dup ∷ by.Push (pos 1) ∷ by.Post Store ∷ by.Dup ∷ by.Push (pos 2) ∷ by.Post Store ∷ by.Load ∷ by.Return ∷ [])

it_keeps_all_rules : is_sound stores ≡ true
it_keeps_all_rules = refl

a_height_before_a_place : height_at stores 0 7 ≡ Some 3
a_height_before_a_place = refl

no_height_where_no_way_leads : height_at (main 0 1 false (by.Turn ∷ by.Push (pos 0) ∷ by.Return ∷ by.Pop ∷ by.Return ∷ [])) 0 3 ≡ None
no_height_where_no_way_leads = refl
