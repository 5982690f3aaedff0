-- Words and operators, computed.
use Rattle.std.proofs.Common.{◌≡◌, Some, None, pos, negsuc, refl}
use Rattle.word_ops.specs.Operators.{binary_of, unary_of, least_word}
use Rattle.word_ops.specs.declared.operators.BinaryOp.TheVariants.{Add, Mul, Div, Rem, Shl, Shr, Lt}
use Rattle.word_ops.specs.declared.operators.UnaryOp.TheVariants.{Neg, Not, Flip}

the_greatest_word_and_one_wrap_to_the_least : binary_of Add (pos 9223372036854775807) (pos 1) ≡ Some least_word
the_greatest_word_and_one_wrap_to_the_least = refl

products_wrap : binary_of Mul (pos 9223372036854775807) (pos 2) ≡ Some (negsuc 1)
products_wrap = refl

division_truncates_toward_zero : binary_of Div (negsuc 6) (pos 2) ≡ Some (negsuc 2)
division_truncates_toward_zero = refl

a_remainder_has_the_sign_of_the_dividend : binary_of Rem (negsuc 6) (pos 2) ≡ Some (negsuc 0)
a_remainder_has_the_sign_of_the_dividend = refl

nothing_divides_by_zero : binary_of Rem (pos 7) (pos 0) ≡ None
nothing_divides_by_zero = refl

the_least_word_has_no_quotient_by_minus_one : binary_of Div least_word (negsuc 0) ≡ None
the_least_word_has_no_quotient_by_minus_one = refl

nor_a_remainder : binary_of Rem least_word (negsuc 0) ≡ None
nor_a_remainder = refl

shift_counts_are_taken_modulo_64 : binary_of Shl (pos 3) (pos 65) ≡ Some (pos 6)
shift_counts_are_taken_modulo_64 = refl

a_negative_shift_count_too : binary_of Shl (pos 1) (negsuc 0) ≡ Some least_word
a_negative_shift_count_too = refl

a_right_shift_keeps_the_sign : binary_of Shr (negsuc 7) (pos 1) ≡ Some (negsuc 3)
a_right_shift_keeps_the_sign = refl

comparison_is_signed : binary_of Lt (negsuc 0) (pos 0) ≡ Some (pos 1)
comparison_is_signed = refl

minus_the_least_word_is_itself : unary_of Neg least_word ≡ least_word
minus_the_least_word_is_itself = refl

not_of_a_word_is_a_truth : unary_of Not (pos 5) ≡ pos 0
not_of_a_word_is_a_truth = refl

flip_changes_every_bit : unary_of Flip (pos 0) ≡ negsuc 0
flip_changes_every_bit = refl
