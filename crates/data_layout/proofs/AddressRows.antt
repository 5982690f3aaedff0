-- Worked addresses.
use Rattle.std.proofs.Common.{◌≡◌, true, false, pos, negsuc, refl, map, [], ◌∷◌}
use Rattle.data_layout.specs.Address.{view_of, offset_of, address_at, is_view, is_valid, owner_of}

-- ---- views and offsets

the_last_word_of_view_0 : view_of (pos 1099511627775) ≡ 0
the_last_word_of_view_0 = refl

the_first_word_of_view_1 : view_of (pos 1099511627776) ≡ 1
the_first_word_of_view_1 = refl

its_offset_is_0 : offset_of (pos 1099511627776) ≡ 0
its_offset_is_0 = refl

the_greatest_word_is_in_view_8388607 : view_of (pos 9223372036854775807) ≡ 8388607
the_greatest_word_is_in_view_8388607 = refl

plain_globals_begin_here : address_at 32 0 ≡ pos 35184372088832
plain_globals_begin_here = refl

replicated_globals_begin_here : address_at 31 0 ≡ pos 34084860461056
replicated_globals_begin_here = refl

-- ---- which views there are

views_0_20_31_and_32_are_there_for_one_nodelet : map (λ v. is_view v 1) (0 ∷ 20 ∷ 31 ∷ 32 ∷ []) ≡ true ∷ true ∷ true ∷ true ∷ []
views_0_20_31_and_32_are_there_for_one_nodelet = refl

views_21_30_and_33_are_not : map (λ v. is_view v 1) (21 ∷ 30 ∷ 33 ∷ []) ≡ false ∷ false ∷ false ∷ []
views_21_30_and_33_are_not = refl

the_last_local_view_of_64_nodelets_is_95 : map (λ v. is_view v 64) (95 ∷ 96 ∷ []) ≡ true ∷ false ∷ []
the_last_local_view_of_64_nodelets_is_95 = refl

-- ---- which addresses are valid

address_0_is_not_valid : is_valid (pos 0) 8 ≡ false
address_0_is_not_valid = refl

address_1_is_valid : is_valid (pos 1) 8 ≡ true
address_1_is_valid = refl

a_negative_address_is_not_valid : is_valid (negsuc 0) 8 ≡ false
a_negative_address_is_not_valid = refl

view_40_is_not_valid_for_8_nodelets : is_valid (pos 43980465111040) 8 ≡ false
view_40_is_not_valid_for_8_nodelets = refl

view_40_is_valid_for_9_nodelets : is_valid (pos 43980465111040) 9 ≡ true
view_40_is_valid_for_9_nodelets = refl

-- ---- owners, for a strand at nodelet 3 of 4

single_words_go_round_robin : map (λ o. owner_of (address_at 0 o) 3 4) (4 ∷ 5 ∷ 6 ∷ 7 ∷ 8 ∷ []) ≡ 0 ∷ 1 ∷ 2 ∷ 3 ∷ 0 ∷ []
single_words_go_round_robin = refl

pairs_go_round_robin :
    map (λ o. owner_of (address_at 1 o) 3 4) (8 ∷ 9 ∷ 10 ∷ 11 ∷ 12 ∷ 13 ∷ 14 ∷ 15 ∷ []) ≡ 0 ∷ 0 ∷ 1 ∷ 1 ∷ 2 ∷ 2 ∷ 3 ∷ 3 ∷ []
pairs_go_round_robin = refl

blocks_of_view_20_are_1048576_words : map (λ o. owner_of (address_at 20 o) 3 4) (1048575 ∷ 1048576 ∷ 4194304 ∷ []) ≡ 0 ∷ 1 ∷ 0 ∷ []
blocks_of_view_20_are_1048576_words = refl

a_replicated_word_is_where_the_strand_is : owner_of (address_at 31 6) 3 4 ≡ 3
a_replicated_word_is_where_the_strand_is = refl

a_local_word_stays_at_its_nodelet : map (λ v. owner_of (address_at v 6) 3 4) (32 ∷ 33 ∷ 35 ∷ []) ≡ 0 ∷ 1 ∷ 3 ∷ []
a_local_word_stays_at_its_nodelet = refl
