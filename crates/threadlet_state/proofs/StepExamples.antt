-- Frames, and one silent step of each group, computed.
use Rattle.std.proofs.Common.{◌≡◌, ℕ, List, [], ◌∷◌, Some, ℤ, pos, negsuc, refl, true, false}
use Rattle.word_ops.specs.declared.operators.BinaryOp.TheVariants as op
use Rattle.word_ops.specs.declared.operators.UnaryOp.TheVariants as un
use Rattle.threadlet_code.specs.declared.instr.Instr.{Instr}
use Rattle.threadlet_code.specs.declared.instr.Instr.TheVariants as by
use Rattle.threadlet_code.specs.declared.code.Code.{Code}
use Rattle.threadlet_code.specs.Machine.{goes, step}
use Rattle.threadlet_code.proofs.Samples.{function, codes_of, main}
use Rattle.threadlet_state.specs.declared.frame.Frame.{Frame}
use Rattle.threadlet_state.specs.Activations.{activation, state_of}
use Rattle.threadlet_state.specs.Fit.{frames_fit}
use Rattle.threadlet_state.specs.Silent.{goes_on, next_instr}

-- a frame of a function, with such words, of which so many are its stack
abbrev frame : ℕ → ℕ → ℕ → List ℤ → Frame
frame function at top words = record { function = function; at = at; words = words; top = top; targets = [] }

-- ---- what a frame is

two_slots_and_two_words_on_the_stack : activation 2 (frame 0 3 2 (pos 7 ∷ pos 8 ∷ pos 1 ∷ pos 2 ∷ pos 9 ∷ [])) ≡
    record { function = 0; at = 3; slots = pos 7 ∷ pos 8 ∷ []; stack = pos 2 ∷ pos 1 ∷ []; targets = [] }
two_slots_and_two_words_on_the_stack = refl

-- ---- one step of a frame alone

-- main has one slot and three places for its stack
abbrev alone : Instr → Code
alone instr = main 1 3 false (by.Turn ∷ instr ∷ by.Push (pos 0) ∷ by.Return ∷ [])

-- the frame before the instruction has 5 in its slot and 4 and 6 on its stack
abbrev before : List Frame
before = frame 0 1 2 (pos 5 ∷ pos 4 ∷ pos 6 ∷ pos 0 ∷ []) ∷ []

abbrev leads_to : Instr → ℕ → ℕ → List ℤ → Type 0
leads_to instr at top words = step (alone instr) (state_of (alone instr) before) ≡ goes (state_of (alone instr) (frame 0 at top words ∷ []))

a_push : leads_to (by.Push (pos 9)) 2 3 (pos 5 ∷ pos 4 ∷ pos 6 ∷ pos 9 ∷ [])
a_push = refl

a_get : leads_to (by.Get 0) 2 3 (pos 5 ∷ pos 4 ∷ pos 6 ∷ pos 5 ∷ [])
a_get = refl

a_set : leads_to (by.Set 0) 2 1 (pos 6 ∷ pos 4 ∷ pos 6 ∷ pos 0 ∷ [])
a_set = refl

a_pop : leads_to by.Pop 2 1 (pos 5 ∷ pos 4 ∷ pos 6 ∷ pos 0 ∷ [])
a_pop = refl

a_dup : leads_to by.Dup 2 3 (pos 5 ∷ pos 4 ∷ pos 6 ∷ pos 6 ∷ [])
a_dup = refl

a_negation : leads_to (by.Un un.Neg) 2 2 (pos 5 ∷ pos 4 ∷ negsuc 5 ∷ pos 0 ∷ [])
a_negation = refl

-- 4 - 6
a_difference : leads_to (by.Bin op.Sub) 2 1 (pos 5 ∷ negsuc 1 ∷ pos 6 ∷ pos 0 ∷ [])
a_difference = refl

a_jump : leads_to (by.Jump 3) 3 2 (pos 5 ∷ pos 4 ∷ pos 6 ∷ pos 0 ∷ [])
a_jump = refl

a_test_of_another_word : leads_to (by.JumpZero 3) 2 1 (pos 5 ∷ pos 4 ∷ pos 6 ∷ pos 0 ∷ [])
a_test_of_another_word = refl

-- a word on the stack behind its top is none of it
what_is_behind_the_top_is_nothing : leads_to by.Pop 2 1 (pos 5 ∷ pos 4 ∷ pos 3 ∷ pos 2 ∷ [])
what_is_behind_the_top_is_nothing = refl

an_action_is_not_silent : goes_on (step (alone by.Where) (state_of (alone by.Where) before)) ≡ false
an_action_is_not_silent = refl

-- ---- a call and a return

-- 9 - 3 in a function of its own
abbrev calls : Code
calls = codes_of
    (function 0 0 2 false (by.Turn ∷ by.Push (pos 9) ∷ by.Push (pos 3) ∷ by.Call 1 ∷ by.Return ∷ [])
    ∷ function 2 2 2 false (by.Turn ∷ by.Get 0 ∷ by.Get 1 ∷ by.Bin op.Sub ∷ by.Return ∷ []) ∷ []) []

abbrev caller : Frame
caller = frame 0 3 2 (pos 9 ∷ pos 3 ∷ [])

abbrev waiting : Frame
waiting = frame 0 4 0 (pos 9 ∷ pos 3 ∷ [])

abbrev called : Frame
called = frame 1 0 0 (pos 9 ∷ pos 3 ∷ pos 0 ∷ pos 0 ∷ [])

abbrev returning : Frame
returning = frame 1 4 1 (pos 9 ∷ pos 3 ∷ pos 6 ∷ pos 3 ∷ [])

a_call_adds_a_frame : step calls (state_of calls (caller ∷ [])) ≡ goes (state_of calls (waiting ∷ called ∷ []))
a_call_adds_a_frame = refl

a_return_gives_its_word : step calls (state_of calls (waiting ∷ returning ∷ [])) ≡ goes (state_of calls (frame 0 4 1 (pos 6 ∷ pos 3 ∷ []) ∷ []))
a_return_gives_its_word = refl

the_last_return_is_not_silent : goes_on (step calls (state_of calls (returning ∷ []))) ≡ false
the_last_return_is_not_silent = refl

the_deepest_frame_is_the_last : next_instr calls (waiting ∷ called ∷ []) ≡ Some by.Turn
the_deepest_frame_is_the_last = refl

-- ---- what fits

they_fit : frames_fit calls (waiting ∷ called ∷ []) ≡ true
they_fit = refl

a_caller_that_waits_for_nothing_does_not : frames_fit calls (caller ∷ called ∷ []) ≡ false
a_caller_that_waits_for_nothing_does_not = refl

no_frame_does_not : frames_fit calls [] ≡ false
no_frame_does_not = refl
