-- Worked words.
use Rattle.std.proofs.Common.{◌≡◌, pos, negsuc, refl}
use Rattle.mem_atomics.specs.declared.op.Op.TheVariants as operation
use Rattle.mem_atomics.specs.declared.fetch_op.FetchOp.TheVariants as fetching
use Rattle.mem_atomics.specs.NewWord.{applied, fetched}

-- ---- operations

a_store_leaves_its_word : applied operation.Store (pos 5) (negsuc 2) ≡ negsuc 2
a_store_leaves_its_word = refl

a_sum_wraps_past_the_greatest_word : applied operation.Add (pos 9223372036854775807) (pos 1) ≡ negsuc 9223372036854775807
a_sum_wraps_past_the_greatest_word = refl

a_sum_wraps_past_the_least_word : applied operation.Add (negsuc 9223372036854775807) (negsuc 0) ≡ pos 9223372036854775807
a_sum_wraps_past_the_least_word = refl

twelve_and_ten_share_one_bit : applied operation.And (pos 12) (pos 10) ≡ pos 8
twelve_and_ten_share_one_bit = refl

minus_one_has_every_bit : applied operation.And (negsuc 0) (negsuc 6) ≡ negsuc 6
minus_one_has_every_bit = refl

twelve_or_ten : applied operation.Or (pos 12) (pos 10) ≡ pos 14
twelve_or_ten = refl

twelve_or_ten_but_not_both : applied operation.Xor (pos 12) (pos 10) ≡ pos 6
twelve_or_ten_but_not_both = refl

a_word_xor_itself_is_zero : applied operation.Xor (negsuc 6) (negsuc 6) ≡ pos 0
a_word_xor_itself_is_zero = refl

a_negative_word_is_less : applied operation.Min (pos 3) (negsuc 7) ≡ negsuc 7
a_negative_word_is_less = refl

of_two_negative_words_the_farther_from_zero_is_less : applied operation.Min (negsuc 1) (negsuc 7) ≡ negsuc 7
of_two_negative_words_the_farther_from_zero_is_less = refl

a_positive_word_is_greater : applied operation.Max (negsuc 7) (pos 3) ≡ pos 3
a_positive_word_is_greater = refl

-- ---- fetches

a_fetched_sum_wraps : fetched (fetching.Add (pos 1)) (pos 9223372036854775807) ≡ negsuc 9223372036854775807
a_fetched_sum_wraps = refl

a_swap_leaves_its_word : fetched (fetching.Swap (pos 7)) (pos 1) ≡ pos 7
a_swap_leaves_its_word = refl

the_expected_word_is_replaced : fetched (fetching.Cas (negsuc 2) (pos 1)) (negsuc 2) ≡ pos 1
the_expected_word_is_replaced = refl

another_word_stays : fetched (fetching.Cas (pos 3) (pos 1)) (negsuc 2) ≡ negsuc 2
another_word_stays = refl
