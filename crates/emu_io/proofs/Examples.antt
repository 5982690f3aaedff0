-- What the definitions say of small sources and sinks, computed.
use Rattle.std.proofs.Common.{◌≡◌, ℕ, refl, inl, inr, List, [], ◌∷◌, Option, Some, None, true, false, arith}
use Rattle.emu_io.specs.Faults.{Rose, faults_behind}
use Rattle.emu_io.specs.Held.{Grew, told_bytes}
use Rattle.emu_io.specs.Left.{GaveAll}
use Rattle.emu_io.specs.Memory.{Supply, given_count, supply_behind}
use Rattle.emu_io.specs.Schedule.{is_among, number_behind}
use Rattle.emu_io.specs.Sure.{Shelf, shelf_behind}

-- ---- faults

a_fault_more_has_risen : Rose 0 (faults_behind 0)
a_fault_more_has_risen = inl (omega arith)

the_last_count_stays_and_has_risen : (faults_behind 18446744073709551615 ≡ 18446744073709551615) × Rose 18446744073709551615 18446744073709551615
the_last_count_stays_and_has_risen = (refl, inr refl)

a_count_of_none_has_not_risen : Rose 0 0 → ⊥
a_count_of_none_has_not_risen (inl more) = omega arith
a_count_of_none_has_not_risen (inr last) = omega arith

-- ---- what is told

bytes_are_put_behind_those_held : Grew (Some (1 ∷ [])) (Some (1 ∷ 2 ∷ 3 ∷ [])) (2 ∷ 3 ∷ [])
bytes_are_put_behind_those_held = refl

what_is_told_was_told_before : Grew None (Some (2 ∷ [])) (2 ∷ []) → ⊥
what_is_told_was_told_before told = told

a_sink_may_tell_no_longer : Grew (Some (1 ∷ [])) None (2 ∷ [])
a_sink_may_tell_no_longer = tt

all_is_given_where_nothing_is_left : GaveAll (Some (1 ∷ 2 ∷ [])) (Some []) (1 ∷ 2 ∷ [])
all_is_given_where_nothing_is_left = (refl, refl)

-- ---- numbered calls

the_second_call_fails : (is_among (Some 0) (1 ∷ []) ≡ false) × (is_among (Some 1) (1 ∷ []) ≡ true)
the_second_call_fails = (refl, refl)

behind_the_last_number_no_call_fails : (number_behind 18446744073709551615 ≡ None) × (is_among None (18446744073709551615 ∷ []) ≡ false)
behind_the_last_number_no_call_fails = (refl, refl)

-- ---- sources and sinks

-- three bytes, two a call, whose second call fails
small : Supply
small = record { left = 1 ∷ 2 ∷ 3 ∷ []; step = 2; calls = record { failing = 1 ∷ []; next = Some 0; faults = 0 } }

the_step_bounds_a_call : given_count small 5 ≡ 2
unfolding small
the_step_bounds_a_call = refl

the_buffer_bounds_a_call : given_count small 1 ≡ 1
unfolding small
the_buffer_bounds_a_call = refl

the_failing_call_gives_nothing : given_count (supply_behind small 2) 5 ≡ 0
unfolding small
the_failing_call_gives_nothing = refl

the_failing_call_is_counted : (supply_behind (supply_behind small 2) 0).calls.faults ≡ 1
unfolding small
the_failing_call_is_counted = refl

-- one byte of three that it has room for
shelf : Shelf
shelf = record { bytes = 1 ∷ []; whole = true; room = 3 }

told : Shelf → Option (List ℕ)
told s = told_bytes s.whole s.bytes

a_full_sink_tells : told (shelf_behind shelf (2 ∷ 3 ∷ [])) ≡ Some (1 ∷ 2 ∷ 3 ∷ [])
unfolding told shelf
a_full_sink_tells = refl

a_sink_without_room_keeps_the_first_bytes : (shelf_behind shelf (2 ∷ 3 ∷ 4 ∷ [])).bytes ≡ 1 ∷ 2 ∷ 3 ∷ []
unfolding shelf
a_sink_without_room_keeps_the_first_bytes = refl

a_sink_that_dropped_bytes_tells_no_longer : told (shelf_behind (shelf_behind shelf (2 ∷ 3 ∷ 4 ∷ [])) []) ≡ None
unfolding told shelf
a_sink_that_dropped_bytes_tells_no_longer = refl
