-- Worked allocations.
use Rattle.std.proofs.Common.{◌≡◌, ℕ, false, pos, negsuc, refl, map, [], ◌∷◌}
use Rattle.data_layout.specs.Address.{address_at}
use Rattle.data_layout.specs.Cursor.{first_cursor, fits_view, cursor_after, allocated_at, cursors_after}

-- ---- where cursors start

one_block_at_each_of_4_nodelets_is_left_out : map (first_cursor 4 7 2) (0 ∷ 1 ∷ 20 ∷ []) ≡ 4 ∷ 8 ∷ 4194304 ∷ []
one_block_at_each_of_4_nodelets_is_left_out = refl

globals_stand_before_the_cursors : map (first_cursor 4 7 2) (31 ∷ 32 ∷ 33 ∷ 35 ∷ []) ≡ 2 ∷ 7 ∷ 0 ∷ 0 ∷ []
globals_stand_before_the_cursors = refl

-- ---- pairs of words over 4 nodelets

after_eight : ℕ → ℕ
after_eight = cursors_after 4 (first_cursor 4 0 0) 1 (pos 8)

eight_words_of_view_1_start_at_offset_8 : allocated_at (first_cursor 4 0 0) 1 (pos 8) ≡ pos 1099511627784
eight_words_of_view_1_start_at_offset_8 = refl

one_more_starts_at_offset_16 : allocated_at after_eight 1 (pos 1) ≡ pos 1099511627792
unfolding after_eight
one_more_starts_at_offset_16 = refl

no_words_are_refused : allocated_at after_eight 1 (pos 0) ≡ pos 0
unfolding after_eight
no_words_are_refused = refl

other_views_stay : map after_eight (0 ∷ 2 ∷ 31 ∷ 32 ∷ []) ≡ map (first_cursor 4 0 0) (0 ∷ 2 ∷ 31 ∷ 32 ∷ [])
unfolding after_eight
other_views_stay = refl

-- ---- single words over 3 nodelets

four_words_start_at_offset_3 : allocated_at (first_cursor 3 0 0) 0 (pos 4) ≡ pos 3
four_words_start_at_offset_3 = refl

the_next_word_starts_at_the_least_multiple_of_3_from_7_on :
    allocated_at (cursors_after 3 (first_cursor 3 0 0) 0 (pos 4)) 0 (pos 1) ≡ pos 9
the_next_word_starts_at_the_least_multiple_of_3_from_7_on = refl

a_cursor_at_a_multiple_stays_there : cursor_after 0 3 3 3 ≡ 6
a_cursor_at_a_multiple_stays_there = refl

-- ---- the end of a view

the_last_words_of_a_view : allocated_at (first_cursor 8 0 0) 0 (pos 4294967288) ≡ pos 8
the_last_words_of_a_view = refl

then_the_view_is_full : allocated_at (cursors_after 8 (first_cursor 8 0 0) 0 (pos 4294967288)) 0 (pos 1) ≡ pos 0
then_the_view_is_full = refl

one_word_past_the_end_is_refused : fits_view 8 (pos 4294967289) ≡ false
one_word_past_the_end_is_refused = refl

a_refused_allocation_moves_no_cursor : cursors_after 8 (first_cursor 8 0 0) 0 (pos 4294967289) 0 ≡ 8
a_refused_allocation_moves_no_cursor = refl

a_negative_count_is_refused : fits_view 8 (negsuc 0) ≡ false
a_negative_count_is_refused = refl

a_cursor_may_be_rounded_past_the_end : cursor_after 20 3 0 4294967296 ≡ 4297064448
a_cursor_may_be_rounded_past_the_end = refl

-- ---- views that are not dealt in blocks

a_local_cursor_stands_right_behind_the_words : cursor_after 32 4 7 5 ≡ 12
a_local_cursor_stands_right_behind_the_words = refl

the_first_local_word_of_nodelet_1_is_at_offset_0 : allocated_at (first_cursor 4 7 2) 33 (pos 1) ≡ address_at 33 0
the_first_local_word_of_nodelet_1_is_at_offset_0 = refl
