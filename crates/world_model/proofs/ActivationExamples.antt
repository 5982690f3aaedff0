-- Slots and where results go, computed.
use Rattle.std.proofs.Common.{◌≡◌, [], ◌∷◌, refl, Some, None, pos}
use Rattle.world_model.specs.Activation.{max_depth, word_at, first_slots, joined}

arguments_stand_before_zeros : first_slots 4 (pos 5 ∷ pos 6 ∷ []) ≡ pos 5 ∷ pos 6 ∷ pos 0 ∷ pos 0 ∷ []
arguments_stand_before_zeros = refl

there_is_a_0_behind_the_last_word : word_at (pos 5 ∷ []) 1 ≡ pos 0
there_is_a_0_behind_the_last_word = refl

results_go_to_their_targets_in_spawn_order : joined (pos 1 ∷ pos 2 ∷ pos 3 ∷ []) (Some 2 ∷ Some 0 ∷ []) (pos 7 ∷ pos 8 ∷ []) ≡ pos 8 ∷ pos 2 ∷ pos 7 ∷ []
results_go_to_their_targets_in_spawn_order = refl

a_result_without_a_target_goes_nowhere : joined (pos 1 ∷ pos 2 ∷ []) (Some 0 ∷ None ∷ Some 1 ∷ []) (pos 7 ∷ pos 8 ∷ pos 9 ∷ []) ≡ pos 7 ∷ pos 9 ∷ []
a_result_without_a_target_goes_nowhere = refl

of_two_with_one_target_the_later_stays : joined (pos 1 ∷ []) (Some 0 ∷ Some 0 ∷ []) (pos 7 ∷ pos 8 ∷ []) ≡ pos 8 ∷ []
of_two_with_one_target_the_later_stays = refl

what_is_not_joined_stays : joined (pos 1 ∷ pos 2 ∷ []) (Some 0 ∷ Some 1 ∷ []) (pos 7 ∷ []) ≡ pos 7 ∷ pos 2 ∷ []
what_is_not_joined_stays = refl

a_strand_goes_256_deep : max_depth ≡ 256
a_strand_goes_256_deep = refl
