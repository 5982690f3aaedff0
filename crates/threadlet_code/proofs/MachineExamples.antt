-- What small codes do, computed.
use Rattle.std.proofs.Common.{◌≡◌, [], ◌∷◌, Some, None, pos, negsuc, refl, true, false}
use Rattle.std.specs.Prelude.{replicate}
use Rattle.std.specs.Fmt.{digits}
use Rattle.word_ops.specs.declared.format.Part.TheVariants.{Byte, Long}
use Rattle.word_ops.specs.declared.operators.BinaryOp.TheVariants as op
use Rattle.word_ops.specs.declared.ending.TrapKind.TheVariants as trap
use Rattle.mem_atomics.specs.declared.op.Op.TheVariants.{Store}
use Rattle.mem_atomics.specs.declared.fetch_op.FetchOp.TheVariants as fetch
use Rattle.world_model.specs.Action as act
use Rattle.threadlet_code.specs.declared.instr.AllocCode.TheVariants as kind
use Rattle.threadlet_code.specs.declared.instr.Instr.TheVariants as by
use Rattle.threadlet_code.specs.declared.code.Code.{Code}
use Rattle.threadlet_code.specs.Machine.{Frame, stops, step}
use Rattle.threadlet_code.specs.Running.{acts, halt}
use Rattle.threadlet_code.proofs.Samples.{at, function, codes_of, main}

-- ---- words

-- two stores to a word and a load of it
abbrev stores : Code
stores = main 0 3 false
    (by.Turn ∷ by.Push (pos 37383395344384) ∷ by.Dup ∷ by.Push (pos 1) ∷ by.Post Store ∷ by.Dup ∷ by.Push (pos 2) ∷ by.Post Store ∷ by.Load ∷ by.Return ∷ [])

a_load_answers_the_value : acts stores 0 [] ([] ∷ [] ∷ [] ∷ (pos 2 ∷ []) ∷ []) ≡
    act.Turn ∷ act.Issue (at 1) Store (pos 37383395344384) (pos 1) ∷ act.Issue (at 1) Store (pos 37383395344384) (pos 2) ∷ act.Load (at 1) (pos 37383395344384) ∷ act.End (pos 2) ∷ []
a_load_answers_the_value = refl

one_answer_makes_two_actions : acts stores 0 [] ([] ∷ []) ≡ act.Turn ∷ act.Issue (at 1) Store (pos 37383395344384) (pos 1) ∷ []
one_answer_makes_two_actions = refl

-- the lowest word is the address
a_cas_has_its_words_in_order : acts (main 0 3 false (by.Turn ∷ by.Push (pos 1) ∷ by.Push (pos 2) ∷ by.Push (pos 3) ∷ by.FetchCas ∷ by.Return ∷ [])) 0 [] ([] ∷ (pos 9 ∷ []) ∷ []) ≡
    act.Turn ∷ act.Fetch (at 1) (fetch.Cas (pos 2) (pos 3)) (pos 1) ∷ act.End (pos 9) ∷ []
a_cas_has_its_words_in_order = refl

a_local_allocation_has_its_place : acts (main 0 2 false (by.Turn ∷ by.Push (pos 4) ∷ by.Push (pos 8) ∷ by.Alloc kind.Local ∷ by.Return ∷ [])) 0 [] ([] ∷ []) ≡
    act.Turn ∷ act.Alloc (act.Local (at 1) (pos 4) (pos 8)) ∷ []
a_local_allocation_has_its_place = refl

-- 14 and a newline
a_print_has_its_bytes : acts (codes_of (function 0 0 1 false (by.Turn ∷ by.Push (pos 14) ∷ by.Print 0 ∷ by.Push (pos 0) ∷ by.Return ∷ []) ∷ []) ((Long ∷ Byte 10 ∷ []) ∷ [])) 0 [] ([] ∷ [] ∷ []) ≡
    act.Turn ∷ act.Print (49 ∷ 52 ∷ 10 ∷ []) ∷ act.End (pos 0) ∷ []
unfolding digits
a_print_has_its_bytes = refl

a_division_by_zero_traps : acts (main 0 2 false (by.Turn ∷ by.Push (pos 1) ∷ by.Push (pos 0) ∷ by.Bin op.Div ∷ by.Return ∷ [])) 0 [] ([] ∷ []) ≡
    act.Turn ∷ act.Trap (at 1) trap.Divide ∷ []
a_division_by_zero_traps = refl

-- ---- calls

-- 9 - 3: the last argument is on top, and the value goes to the caller
abbrev calls : Code
calls = codes_of
    (function 0 0 2 false (by.Turn ∷ by.Push (pos 9) ∷ by.Push (pos 3) ∷ by.Call 1 ∷ by.Return ∷ [])
    ∷ function 2 2 2 false (by.Turn ∷ by.Get 0 ∷ by.Get 1 ∷ by.Bin op.Sub ∷ by.Return ∷ []) ∷ []) []

a_call_takes_its_turn : acts calls 0 [] ([] ∷ [] ∷ []) ≡ act.Turn ∷ act.Turn ∷ act.End (pos 6) ∷ []
a_call_takes_its_turn = refl

a_spawned_function_has_arguments : acts calls 1 (pos 1 ∷ pos 4 ∷ []) ([] ∷ []) ≡ act.Turn ∷ act.End (negsuc 2) ∷ []
a_spawned_function_has_arguments = refl

-- a frame of main before its call
abbrev caller : Frame
caller = record { function = 0; at = 3; slots = []; stack = pos 3 ∷ pos 9 ∷ []; targets = [] }

a_call_from_the_deepest_frame_traps : step calls (caller ∷ replicate 255 caller) ≡ stops (act.Trap (at 1) trap.Depth)
a_call_from_the_deepest_frame_traps = refl

three_silent_instructions_stand_before_the_turn : (halt calls (record { function = 0; at = 1; slots = []; stack = []; targets = [] } ∷ [])).silent ≡ 3
three_silent_instructions_stand_before_the_turn = refl

a_missing_operand_makes_no_action : acts (main 0 1 false (by.Turn ∷ by.Pop ∷ by.Return ∷ [])) 0 [] ([] ∷ []) ≡ act.Turn ∷ []
a_missing_operand_makes_no_action = refl

-- ---- loops and children

-- a slot counts down from 2
a_loop_takes_a_turn_each_time : acts (main 1 2 false
    (by.Turn ∷ by.Push (pos 2) ∷ by.Set 0 ∷ by.Turn ∷ by.Get 0 ∷ by.JumpZero 11 ∷ by.Get 0 ∷ by.Push (pos 1) ∷ by.Bin op.Sub ∷ by.Set 0 ∷ by.Jump 3 ∷ by.Get 0 ∷ by.Return ∷ []))
    0 [] ([] ∷ [] ∷ [] ∷ [] ∷ []) ≡ act.Turn ∷ act.Turn ∷ act.Turn ∷ act.Turn ∷ act.End (pos 0) ∷ []
a_loop_takes_a_turn_each_time = refl

-- a hinted child with an argument, and a child without a target; the results come at the sync
abbrev children : Code
children = codes_of
    (function 0 1 2 true (by.Turn ∷ by.Push (pos 64) ∷ by.Push (pos 7) ∷ by.Spawn 1 (Some 0) true ∷ by.Push (pos 8) ∷ by.Spawn 1 None false ∷ by.Get 0 ∷ by.Sync ∷ by.Get 0 ∷ by.Bin op.Add ∷ by.Sync ∷ by.Return ∷ [])
    ∷ function 1 1 1 false (by.Turn ∷ by.Get 0 ∷ by.Return ∷ []) ∷ []) []

results_come_at_the_sync : acts children 0 [] ([] ∷ [] ∷ [] ∷ (pos 5 ∷ pos 6 ∷ []) ∷ [] ∷ []) ≡
    act.Turn ∷ act.Spawn 1 1 (pos 7 ∷ []) (Some (record { pos = at 1; address = pos 64 })) ∷ act.Spawn 1 1 (pos 8 ∷ []) None ∷ act.Sync 1 ∷ act.Sync 1 ∷ act.End (pos 5) ∷ []
results_come_at_the_sync = refl
